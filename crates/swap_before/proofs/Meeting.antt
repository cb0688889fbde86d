-- The old reader gives 18 at the first kind 2 that has nothing bad before it, whatever follows; a file without one it reads as its records (02, E10: "An old reader that meets kind 2 gives 18 at that kind").
use Prim.Native.Nat.{ℕ, suc, ◌+◌, ◌-◌, ◌≤◌, ◌<◌}
use mathlib.Core.Path.{◌≡◌, refl, sym, ap, ◌∙◌}
use mathlib.Core.Bool.{true}
use mathlib.Core.List.{List, [], ◌∷◌, ◌++◌, append_assoc, append-nil}
use native.Mathlib.Omega.{arith}
use borrow.Author.Tests.{le-ltb, le-leb, leb-true}
use lib.ListN.{length, get_or, take, drop, length-append}
use lib.Seq.{take_at, drop_at, get_or-drop, take-suc}
use Rattle.number.specs.Groups.{found, front_number, encoded}
use Rattle.number.proofs.Forms.{front_form}
use Rattle.swap.specs.Record.{Record, Sound, Each, Rising, rank, count_limit, file_limit}
use Rattle.swap.specs.Encoding.{record_octets, records_octets, encode, Within}
use Rattle.swap.specs.Items.{bad, good, good_address, limited}
use Rattle.swap.specs.Reading.{FileListing, faulty, listed, preceded}
use Rattle.swap.proofs.Shown.{shown-good}
use Rattle.swap.proofs.Encoded.{record_shown, record_front, from_rest, rank_front, kind_next}
use Rattle.swap.proofs.Lists.{octets_append, each_at, each_front, rising_front}
use Rattle.swap_before.specs.Before.{judged_before, read_records_before, read_counted_before, read_before, known_before}
use Rattle.swap_before.specs.Meeting.{long_kind, OfOldKind, MeetsLong}
use Rattle.swap_before.proofs.Alike.{short_alike, long_before}
use Rattle.swap_before.proofs.Same.{before_bad, before_good}

-- the least rank that may stand after these records
least_after : ℕ → List Record → ℕ
least_after least [] = least
least_after least (r ∷ rs) = least_after (suc (rank r)) rs

-- a listing with these records before it
all_preceded : List Record → FileListing → FileListing
all_preceded [] out = out
all_preceded (r ∷ rs) out = preceded r (all_preceded rs out)

old_below : (r : Record) → OfOldKind r → r.kind < long_kind
unfolding known_before
old_below r e = let h : r.kind ≤ 1 = leb-true r.kind 1 e in omega arith

-- one record of an old kind is read, and the rest after it
module _ (k least at : ℕ) (r : Record) (rest : List ℕ) (sound : Sound r) (old : OfOldKind r) (high : least ≤ rank r) where
  abbrev t : List ℕ
  t = record_octets r ++ rest

  abbrev n : ℕ
  n = length r.content

  abbrev w : ℕ
  w = length (encoded (length r.content))

  record_good : judged_before least t ≡ good w n
  record_good =
      let kind : get_or t 7 0 ≡ r.kind = kind_next r rest t sound.address refl in
      short_alike least t (rw kind (old_below r old)) ∙ shown-good least t w n (record_shown r rest t sound.address refl sound least high)

  -- where it ends
  record_end : at + (8 + w + n) ≡ at + length (record_octets r)
  unfolding record_octets
  record_end = simp length-append (omega (arith, sound.address))

  record_read : read_records_before (suc k) least at t ≡ preceded r (read_records_before k (suc (rank r)) (at + length (record_octets r)) rest)
  record_read =
      before_good k least at t w n record_good
      ∙ rw (record_front r rest t sound.address refl, from_rest r rest t sound.address refl, rank_front r rest t sound.address refl, record_end)

-- so are several
records_read : (k least at : ℕ) (rest : List ℕ) {rs : List Record} → Each Sound rs → Each OfOldKind rs → Rising least rs
    → read_records_before (length rs + k) least at (records_octets rs ++ rest) ≡ all_preceded rs (read_records_before k (least_after least rs) (at + length (records_octets rs)) rest)
unfolding records_octets all_preceded least_after
records_read k least at rest Each.none Each.none Rising.none = let e : at + 0 ≡ at = omega arith in let z : 0 + k ≡ k = omega arith in rw (e, z)
records_read k least at rest (Each.more {r = r} {rs = rs} p s) (Each.more q u) (Rising.more h v) =
    let l : suc (length rs) + k ≡ suc (length rs + k) = omega arith in
    let e : at + length (record_octets r) + length (records_octets rs) ≡ at + length (record_octets r ++ records_octets rs) = simp length-append (omega arith) in
    rw (l, append_assoc)
    (record_read (length rs + k) least at r (records_octets rs ++ rest) p q h
    ∙ ap (preceded r) (records_read k (suc (rank r)) (at + length (record_octets r)) rest s u v ∙ rw e))

all_faulty : (rs : List Record) (o : ℕ) → all_preceded rs (faulty o) ≡ faulty o
unfolding all_preceded preceded
all_faulty [] o = refl
all_faulty (r ∷ rs) o = rw (all_faulty rs o)

all_listed : (rs : List Record) → all_preceded rs (listed []) ≡ listed rs
unfolding all_preceded preceded
all_listed [] = refl
all_listed (r ∷ rs) = rw (all_listed rs)

-- records that rise up to one more rise without it, and it stands no lower than they ask
rising_last : (least : ℕ) (rs : List Record) (r : Record) → Rising least (rs ++ r ∷ []) → Rising least rs × (least_after least rs ≤ rank r)
unfolding least_after
rising_last least [] r (Rising.more h q) = (Rising.none, h)
rising_last least (s ∷ rs) r (Rising.more h q) = let f = rising_last (suc (rank s)) rs r q in (Rising.more h f.0, f.1)

-- a long record's address with TAB and kind at the front of t
module _ (least : ℕ) (long : Record) (later : List ℕ) (six : length long.ads ≡ 6) (high : least ≤ rank long) where
  abbrev front : List ℕ
  front = long.ads ++ long.tab ∷ long_kind ∷ later

  from_tab : drop 6 front ≡ long.tab ∷ long_kind ∷ later
  from_tab = drop_at long.ads _ 6 six

  seven : take 7 front ≡ long.ads ++ long.tab ∷ []
  seven =
      let tab : get_or front 6 0 ≡ long.tab = sym (get_or-drop 6 front 0 0) ∙ rw from_tab in
      rw (take-suc front 6 0 (simp length-append (omega (arith, six))), take_at long.ads _ 6 six, tab)

  address_good : good_address least front ≡ true
  unfolding good_address rank
  address_good = rw (le-leb 7 (length front) (simp length-append (omega (arith, six))), seven, le-leb least (rank long) high)

  long_bad : judged_before least front ≡ bad 7
  long_bad = long_before least front address_good (sym (get_or-drop 6 front 1 0) ∙ rw from_tab)

-- a file of a count and what follows it
module _ (count : ℕ) (rest : List ℕ) (few : count ≤ count_limit) (small : length (encoded count ++ rest) ≤ file_limit) where
  counted_read : read_before (encoded count ++ rest) ≡ read_records_before count 0 (length (encoded count)) rest
  unfolding read_before read_counted_before limited
  counted_read =
      let f : front_number (encoded count ++ rest) ≡ found count (length (encoded count)) = front_form count rest (omega (arith, few)) in
      rw (le-ltb file_limit (length (encoded count ++ rest)) small, f, le-leb count count_limit few, drop_at (encoded count) rest (length (encoded count)) refl)

-- records of old kinds and then a long one, of which only address with TAB and kind are looked at
stops_there : (k at : ℕ) (long : Record) (later : List ℕ) {rs : List Record} → length long.ads ≡ 6 → Each Sound rs → Each OfOldKind rs → Rising 0 (rs ++ long ∷ [])
    → read_records_before (length rs + suc k) 0 at (records_octets rs ++ (long.ads ++ long.tab ∷ long_kind ∷ later)) ≡ faulty (at + length (records_octets rs) + 7)
stops_there k at long later {rs} six sound old rising =
    let f = rising_last 0 rs long rising in
    let least : ℕ = least_after 0 rs in
    let there : ℕ = at + length (records_octets rs) in
    records_read (suc k) 0 at (front least long later six f.1) sound old f.0
    ∙ ap (all_preceded rs) (before_bad k least there (front least long later six f.1) 7 (long_bad least long later six f.1))
    ∙ all_faulty rs (there + 7)

-- 02, E10: "An old reader that meets kind 2 gives 18 at that kind"
pub before_meets_long : (s : List ℕ) (at : ℕ) → MeetsLong s at → read_before s ≡ faulty at
before_meets_long s at m =
    let rest : List ℕ = records_octets m.earlier ++ (m.next.ads ++ m.next.tab ∷ long_kind ∷ m.later) in
    let k : ℕ = m.count - suc (length m.earlier) in
    let c : m.count ≡ length m.earlier + suc k = omega (arith, m.due) in
    rw (m.octets, m.place)
    (counted_read m.count rest m.few (rw (← m.octets) m.small)
    ∙ ap (λ (n : ℕ). read_records_before n 0 (length (encoded m.count)) rest) c
    ∙ stops_there k (length (encoded m.count)) m.next m.later m.address m.sound m.old m.rising)

-- so of the file that good records make, where they have a long one among them
pub before_encoding : (earlier : List Record) (long : Record) (later : List Record) → Within (earlier ++ long ∷ later) → Each OfOldKind earlier → long.kind ≡ long_kind
    → read_before (encode (earlier ++ long ∷ later)) ≡ faulty (length (encoded (length (earlier ++ long ∷ later))) + length (records_octets earlier) + 7)
unfolding encode records_octets record_octets
before_encoding earlier long later h old kind =
    let rest : List ℕ = encoded (length long.content) ++ (long.content ++ records_octets later) in
    before_meets_long _ _
    (record {
      count = length (earlier ++ long ∷ later);
      earlier = earlier;
      next = long;
      later = rest;
      octets = rw (octets_append earlier (long ∷ later), append_assoc, append_assoc, kind);
      place = refl;
      small = h.small;
      few = h.few;
      due = simp length-append (omega arith);
      sound = each_front earlier (long ∷ later) h.sound;
      old = old;
      address = (each_at earlier long later h.sound).address;
      rising = rising_front 0 earlier long later h.rising;
    })

-- and where they have none, the old reader gives them all
pub before_old : (rs : List Record) → Within rs → Each OfOldKind rs → read_before (encode rs) ≡ listed rs
unfolding encode read_records_before
before_old rs h old =
    let z : length rs ≡ length rs + 0 = omega arith in
    let at : ℕ = length (encoded (length rs)) in
    counted_read (length rs) (records_octets rs) h.few h.small
    ∙ ap (λ (n : ℕ). read_records_before n 0 at (records_octets rs)) z
    ∙ ap (λ (t : List ℕ). read_records_before (length rs + 0) 0 at t) (sym (append-nil (records_octets rs)))
    ∙ records_read 0 0 at [] h.sound old h.rising
    ∙ all_listed rs
