-- From the cursor that starting on a file gives, the file's records come in order, each with its own ADS, TAB, kind and data, and then the end.
use Prim.Native.Nat.{ℕ, zero, suc, ◌+◌, ◌-◌, ◌≤◌, ◌<◌}
use mathlib.Core.Path.{◌≡◌, refl, ap, subst}
use mathlib.Core.List.{List, [], ◌∷◌, ◌++◌, append_assoc, append-nil}
use native.Mathlib.Nat.{add_assoc}
use native.Mathlib.Omega.{arith}
use lib.ListN.{length, get_or, drop, length-append, length-drop}
use lib.Seq.{drop-drop, drop_at, drop-append-add, take_at}
use borrow.Author.Tests.{eq-eqb, ne_eqb, le-leb}
use Rattle.numbers.specs.Counts.{in_octets}
use Rattle.numbers.specs.Answer.{given, refused}
use Rattle.numbers.specs.Table.{faulty_file}
use Rattle.number.specs.Groups.{encoded}
use Rattle.swap.specs.declared.item.Entry.{Entry}
use Rattle.std.specs.Prelude.{Result, Ok, Err}
use Rattle.swap.specs.declared.file.Fault.{Fault}
use Rattle.swap.specs.Record.{Record, Sound, kind_of}
use Rattle.swap.specs.Encoding.{record_octets, records_octets, encode, Within}
use Rattle.swap.specs.Reading.{FileListing, faulty, listed, read_file, in_record_count}
use Rattle.swap.specs.declared.cursor.Cursor.{Cursor}
use Rattle.swap.specs.Cursor.{placed_item, item_at, start_of, started, Standing, record_here, file_end, next_at, followed, ads_of, content_of, cursor_after, Led, begun, moved, GivesNext, GivesAll, ended, further}
use Rattle.swap.proofs.KindOctets.{octet_kept}
use Rattle.swap.proofs.Lists.{each_at, octets_append}
use Rattle.swap.proofs.RoundTrip.{read_encode}
use Rattle.swap.proofs.Shown.{shown-good}
use Rattle.swap.proofs.Encoded.{record_shown, ads_front, tab_next, kind_next, from_content, long_enough}

-- a record stands only where some are left, and after it is one less
pub next_left : (s : List ℕ) (c : Cursor) (e : Entry) (after : Cursor) → next_at s c ≡ given (record_here e after) → c.left.0 ≡ suc after.left.0
unfolding next_at followed
next_left s c e after h = go c.left.0 refl (item_at 0 s c.at.0) refl
  where
    go : (l : ℕ) → c.left.0 ≡ l → (i : Result Entry Fault) → item_at 0 s c.at.0 ≡ i → c.left.0 ≡ suc after.left.0
    go zero p i q =
        let r : given file_end ≡ given (record_here e after) = rw (eq-eqb c.left.0 0 p) at h in
        let z : ◌≡◌ {A = ℕ} 0 1 = cc in
        let y : ⊥ = omega arith in
        absurd y
    go (suc l) p (Err o) q =
        let m : c.left.0 ≡ 0 → ⊥ = λ w. omega arith in
        let r : refused faulty_file ≡ given (record_here e after) = rw (ne_eqb c.left.0 0 m, q) at h in
        let z : ◌≡◌ {A = ℕ} 0 1 = cc in
        let y : ⊥ = omega arith in
        absurd y
    go (suc l) p (Ok g) q =
        let m : c.left.0 ≡ 0 → ⊥ = λ w. omega arith in
        let r : given (record_here g (record { at = in_octets (g.from.0 + g.length.0); left = in_record_count (c.left.0 - 1) })) ≡ given (record_here e after) = rw (ne_eqb c.left.0 0 m, q) at h in
        let a : record { at = in_octets (g.from.0 + g.length.0); left = in_record_count (c.left.0 - 1) } ≡ after = cc in
        let d : c.left.0 - 1 ≡ after.left.0 = ap (λ (k : Cursor). k.left.0) a in
        omega arith

-- after the last record is the end
next_last : (s : List ℕ) (rs : List Record) → next_at s (cursor_after (length rs) rs) ≡ given file_end
unfolding next_at cursor_after
next_last s rs = rw (eq-eqb (length rs - length rs) 0 (omega arith))

-- a record's octets stand in s from an offset on
module _ (s : List ℕ) (at : ℕ) (r : Record) (rest : List ℕ) (sound : Sound r) (is : drop at s ≡ record_octets r ++ rest) where
  abbrev placed : Entry
  placed = record { at = in_octets at; tab = r.tab; kind = kind_of r.kind; from = in_octets (at + 8 + length (encoded (length r.content))); length = in_octets (length r.content) }

  item_placed : item_at 0 s at ≡ Ok placed
  unfolding item_at placed_item
  item_placed =
      rw (shown-good 0 (drop at s) _ _ (record_shown r rest (drop at s) sound.address is sound 0 (omega arith)), tab_next r rest (drop at s) sound.address is, kind_next r rest (drop at s) sound.address is)

  room : at + 8 + length (encoded (length r.content)) + length r.content ≤ length s
  room = omega (arith, long_enough r rest (drop at s) sound.address is, length-drop at s)

  ads_placed : ads_of s placed ≡ r.ads
  unfolding ads_of
  ads_placed = rw (le-leb (at + 6) (length s) (omega (arith, room)), ads_front r rest (drop at s) sound.address is)

  content_placed : content_of s placed ≡ r.content
  unfolding content_of
  content_placed =
      let e : drop (at + 8 + length (encoded (length r.content))) s ≡ r.content ++ rest = rw (add_assoc, ← drop-drop) (from_content r rest (drop at s) sound.address is) in
      rw (le-leb (at + 8 + length (encoded (length r.content)) + length r.content) (length s) room, e) (take_at r.content rest _ refl)

  next_placed : (left : ℕ) → 0 < left → GivesNext next_at s (record { at = in_octets at; left = in_record_count left }) r (record { at = in_octets (at + 8 + length (encoded (length r.content)) + length r.content); left = in_record_count (left - 1) })
  unfolding next_at followed
  next_placed left h =
      record {
        entry = placed;
        here = rw (ne_eqb left 0 (omega arith), item_placed);
        shows = record { ads = ads_placed; tab = refl; kind = octet_kept r.kind sound.known; content = content_placed };
      }

-- where a record stands in the file, and where it ends
turn_octets : (ps : List Record) (r : Record) (qs : List Record) → drop (length (encoded (length (ps ++ r ∷ qs))) + length (records_octets ps)) (encode (ps ++ r ∷ qs)) ≡ record_octets r ++ records_octets qs
unfolding encode records_octets
turn_octets ps r qs =
    rw (octets_append ps (r ∷ qs), drop-append-add) (drop_at (records_octets ps) _ _ refl)

after_octets : (ps : List Record) (r : Record) (at : ℕ) → Sound r → at + length (records_octets ps) + 8 + length (encoded (length r.content)) + length r.content ≡ at + length (records_octets (ps ++ r ∷ []))
unfolding records_octets record_octets
after_octets ps r at sound =
    rw (octets_append ps (r ∷ []), append-nil) (simp length-append (omega (arith, sound.address)))

-- each record in its turn
next_in_turn : (ps : List Record) (r : Record) (qs : List Record) → Within (ps ++ r ∷ qs) → GivesNext next_at (encode (ps ++ r ∷ qs)) (cursor_after (length (ps ++ r ∷ qs)) ps) r (cursor_after (length (ps ++ r ∷ qs)) (ps ++ r ∷ []))
unfolding cursor_after
next_in_turn ps r qs h =
    let E : List ℕ = encoded (length (ps ++ r ∷ qs)) in
    let at : ℕ = length E + length (records_octets ps) in
    let k : length (ps ++ r ∷ qs) ≡ length ps + suc (length qs) = length-append ps (r ∷ qs) in
    let a : at + 8 + length (encoded (length r.content)) + length r.content ≡ length E + length (records_octets (ps ++ r ∷ [])) = after_octets ps r (length E) (each_at ps r qs h.sound) in
    let l : length (ps ++ r ∷ qs) - length ps - 1 ≡ length (ps ++ r ∷ qs) - length (ps ++ r ∷ []) = omega (arith, length-append ps (r ∷ [])) in
    rw (← a, ← l)
    (next_placed (encode (ps ++ r ∷ qs)) at r (records_octets qs) (each_at ps r qs h.sound) (turn_octets ps r qs) (length (ps ++ r ∷ qs) - length ps) (omega arith))

none_left : (ps all : List Record) → all ≡ ps → GivesAll next_at (encode all) (cursor_after (length all) ps) []
none_left ps all e = rw e (ended (next_last (encode ps) ps))

-- from the cursor after the first records on
rest : (ps qs : List Record) → Within (ps ++ qs) → GivesAll next_at (encode (ps ++ qs)) (cursor_after (length (ps ++ qs)) ps) qs
rest ps [] h = none_left ps (ps ++ []) (append-nil ps)
rest ps (r ∷ qs) h =
    let e : (ps ++ r ∷ []) ++ qs ≡ ps ++ r ∷ qs = append_assoc ps (r ∷ []) qs in
    further (next_in_turn ps r qs h) (rw e at (rest (ps ++ r ∷ []) qs (rw e h)))

-- over the encoding of records within all rules
pub encoding_gives_all : (rs : List Record) → Within rs → GivesAll next_at (encode rs) (cursor_after (length rs) []) rs
encoding_gives_all rs h = rest [] rs h

-- from the start of any file that was judged
pub started_gives_all : (s : List ℕ) (c : Cursor) → ((i : ℕ) → get_or s i 0 < 256) → start_of s ≡ given c → (rs : List Record) × (read_file s ≡ listed rs) × GivesAll next_at s c rs
unfolding start_of
started_gives_all s c octets e = go (read_file s) refl e
  where
    go : (out : FileListing) → read_file s ≡ out → started out ≡ given c → (rs : List Record) × (read_file s ≡ listed rs) × GivesAll next_at s c rs
    go (faulty o) q r = let z : ◌≡◌ {A = ℕ} 0 1 = cc in let y : ⊥ = omega arith in absurd y
    go (listed rs) q r =
        let p : cursor_after (length rs) [] ≡ c = cc in
        let f = read_encode s rs octets q in
        (rs, q, rw (f.0, ← p) (encoding_gives_all rs f.1))

-- a record at a cursor leads to the rest of what the cursor gives
onward : {s : List ℕ} {c after : Cursor} {e : Entry} {rs : List Record} → GivesAll next_at s c rs → next_at s c ≡ given (record_here e after) → (qs : List Record) × GivesAll next_at s after qs
onward (ended p) q = let z : ◌≡◌ {A = ℕ} 0 1 = cc in let y : ⊥ = omega arith in absurd y
onward {s = s} {after = after} (further {after = then} {rs = rs} g m) q =
    let h = g.here in
    let p : then ≡ after = cc in
    (rs, subst (λ (d : Cursor). GivesAll next_at s d rs) p m)

-- the cursors that start and `next` lead to give what is left of the records
pub led_gives_all : (s : List ℕ) {c : Cursor} → ((i : ℕ) → get_or s i 0 < 256) → Led s c → (rs : List Record) × GivesAll next_at s c rs
led_gives_all s {c} octets (begun e) = let f = started_gives_all s c octets e in (f.0, f.2)
led_gives_all s octets (moved led e) = onward (led_gives_all s octets led).1 e

-- so that `next` is never refused on a judged file: it gives a record or the end
pub led_next : (s : List ℕ) {c : Cursor} → ((i : ℕ) → get_or s i 0 < 256) → Led s c → (standing : Standing) × (next_at s c ≡ given standing)
led_next s octets led = go (led_gives_all s octets led).1
  where
    go : {c : Cursor} {rs : List Record} → GivesAll next_at s c rs → (standing : Standing) × (next_at s c ≡ given standing)
    go (ended e) = (file_end, e)
    go (further {after = after} g m) = (record_here g.entry after, g.here)
