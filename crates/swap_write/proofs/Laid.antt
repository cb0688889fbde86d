-- The loop that lays the records of an accepted file into the buffer: what is laid and the octets of the heads left make up the file.
use Prim.Native.Nat.{ℕ, zero, suc, ◌+◌, ◌-◌, ◌*◌, ◌/◌, ◌^◌, ◌≤◌, ◌<◌}
use mathlib.Core.Path.{◌≡◌, refl, sym, ap, ◌∙◌}
use mathlib.Core.List.{List, [], ◌∷◌, ◌++◌, append_assoc, append-nil}
use native.Mathlib.Omega.{arith}
use lib.ListN.{length, get_or, take, drop, length-append, length-drop}
use lib.Seq.{take-length, drop_at, drop-append-add, drop-drop, length-take-le}
use lib.Dec.{lit<}
use Rattle.octets.specs.Splice.{spliced, fronted}
use Rattle.octets.proofs.Splice.{spliced_front, spliced_next, spliced_after, length-fronted}
use Rattle.octets.proofs.Below.{Below-drop}
use Rattle.numbers.specs.declared.Octets.{Octets}
use Rattle.numbers.specs.Counts.{in_octets}
use Rattle.numbers.specs.Answer.{given}
use Rattle.number.specs.Groups.{encoded, with_number_at}
use Rattle.number.proofs.Forms.{own_form}
use Rattle.swap.specs.declared.file.RecordCount.{RecordCount}
use Rattle.swap.specs.Record.{Record, count_limit, rank_of}
use Rattle.swap.specs.Items.{good, judged}
use Rattle.swap.specs.Reading.{FileListing, faulty, listed, preceded, read_records, verdict_of}
use Rattle.swap.proofs.Tally.{records_bad, records_good}
use Rattle.swap.proofs.Verdicts.{not_listed, accepted}
use Rattle.swap_write.specs.declared.judge.BadItem.{BadItem}
use Rattle.std.specs.Prelude.{Result, Ok, Err}
use Rattle.swap_write.specs.Heads.{head_length, front_octets, body_of, file_of}
use Rattle.swap_write.specs.Heading.{head_judged}
use Rattle.swap_write.proofs.Body.{as_judged, body_judged, body_next, length_next, head_good, whole, front_long}
use Rattle.swap_write.proofs.Judged.{length_small}

-- the data of so many heads is there, and nothing is left over
unfoldable pub Fits : ℕ → List ℕ → List ℕ → Type 0
Fits zero hs ds = (length hs ≡ 0) × (length ds ≡ 0)
Fits (suc k) hs ds = (head_length hs ≤ length ds) × Fits k (drop 10 hs) (drop (head_length hs) ds)

listed_after : (r : Record) (out : FileListing) (rs : List Record) → preceded r out ≡ listed rs → (qs : List Record) × (out ≡ listed qs)
unfolding preceded
listed_after r (faulty o) rs e = absurd (not_listed o rs e)
listed_after r (listed qs) rs e = (qs, refl)

listed_fits : (k least at : ℕ) (hs ds : List ℕ) (rs : List Record) → ((i : ℕ) → get_or hs i 0 < 256) → k * 10 ≤ length hs → read_records k least at (body_of k hs ds) ≡ listed rs → Fits k hs ds
unfolding Fits body_of read_records
listed_fits zero least at hs ds rs b h e = go (hs ++ ds) refl e
  where
    go : (t : List ℕ) → hs ++ ds ≡ t → read_records 0 least at t ≡ listed rs → (length hs ≡ 0) × (length ds ≡ 0)
    go [] q r = omega (arith, length-append hs ds, ap length q)
    go (o ∷ t) q r = absurd (not_listed at rs r)
listed_fits (suc k) least at hs ds rs b h e = go (head_judged least hs ds) refl (listed_fits k)
  where
    small : head_length hs < 2 ^ 32
    small = omega (arith, length_small hs b)

    B : List ℕ
    B = body_of (suc k) hs ds

    go : (j : Result Octets BadItem) → head_judged least hs ds ≡ j → ((least at : ℕ) (hs ds : List ℕ) (rs : List Record) → ((i : ℕ) → get_or hs i 0 < 256) → k * 10 ≤ length hs → read_records k least at (body_of k hs ds) ≡ listed rs → Fits k hs ds) → (head_length hs ≤ length ds) × Fits k (drop 10 hs) (drop (head_length hs) ds)
    go (Err o) q ih =
        absurd (not_listed (at + o.0.0) rs (sym (records_bad k least at B o.0.0 (body_judged k hs ds (omega arith) small least ∙ ap as_judged q)) ∙ e))
    go (Ok stated) q ih =
        let n = stated.0 in
        let g = head_good least hs ds n q in
        let j : judged least B ≡ good (length (encoded n)) n = body_judged k hs ds (omega arith) small least ∙ ap as_judged q in
        let l = listed_after _ _ rs (sym (records_good k least at B (length (encoded n)) n j) ∙ e) in
        let next : drop (8 + length (encoded n) + n) B ≡ body_of k (drop 10 hs) (drop (head_length hs) ds) = rw g.0 (body_next k hs ds (omega arith) small g.1) in
        let least' : ℕ = suc (rank_of (take 7 B)) in
        let at' : ℕ = at + (8 + length (encoded n) + n) in
        (g.1, ih least' at' (drop 10 hs) (drop (head_length hs) ds) l.0 (Below-drop 256 (lit< tt) 10 hs b) (omega (arith, length-drop 10 hs)) (ap (read_records k least' at') (sym next) ∙ l.1))

no_elements : (s : List ℕ) → length s ≡ 0 → s ≡ []
no_elements [] e = refl
no_elements (o ∷ s) e = let z : ⊥ = omega arith in absurd z

-- the records of an accepted file are read from the octets of its heads and data
module _ (hs ds : List ℕ) (c : RecordCount) (e : verdict_of (file_of hs ds) ≡ given c) where
  pub accepted_body : (length hs / 10 ≤ count_limit) × ((rs : List Record) × (read_records (length hs / 10) 0 (length (encoded (length hs / 10))) (body_of (length hs / 10) hs ds) ≡ listed rs) × (length rs ≡ c.0))
  unfolding file_of
  accepted_body =
      let n : ℕ = length hs / 10 in
      let a = accepted (file_of hs ds) c e in
      let f = own_form n (body_of n hs ds) a.count a.width a.front in
      let d : drop a.width (file_of hs ds) ≡ body_of n hs ds = drop_at (encoded n) (body_of n hs ds) a.width f.1 in
      (rw f.0 a.few, (a.records, rw (d, ← f.0, ← f.1) at a.read, a.counted))

  pub accepted_fits : ((i : ℕ) → get_or hs i 0 < 256) → Fits (length hs / 10) hs ds
  accepted_fits b =
      let r = accepted_body.1 in
      listed_fits (length hs / 10) 0 (length (encoded (length hs / 10))) hs ds r.0 b (omega arith) r.1

-- a number written is spliced in
octets_spliced : (m : List ℕ) (at n : ℕ) → with_number_at m (in_octets at) n ≡ spliced m at (encoded n)
unfolding with_number_at spliced
octets_spliced m at n = rw take-length

-- the three writes that lay a record
pub record_laid : (m hs c : List ℕ) (at from : ℕ) → 10 ≤ length hs → from ≡ at + 8 + length (encoded (head_length hs)) → from + length c ≤ length m → spliced (with_number_at (spliced m at (take 8 hs)) (in_octets (at + 8)) (head_length hs)) from c ≡ spliced m at (front_octets hs ++ c)
unfolding front_octets
record_laid m hs c at from ten e h =
    let E : List ℕ = encoded (head_length hs) in
    let k : length (take 8 hs) ≡ 8 = length-take-le 8 hs (omega arith) in
    let a : spliced (spliced m at (take 8 hs)) (at + 8) E ≡ spliced m at (take 8 hs ++ E) = ap (λ (i : ℕ). spliced (spliced m at (take 8 hs)) (at + i) E) (sym k) ∙ spliced_after m at (take 8 hs) E (omega arith) in
    let l : length (take 8 hs ++ E) ≡ 8 + length E = length-append (take 8 hs) E ∙ rw k in
    let f : from ≡ at + length (take 8 hs ++ E) = omega arith in
    rw (octets_spliced (spliced m at (take 8 hs)) (at + 8), a, f) (spliced_after m at (take 8 hs ++ E) c (omega arith))

-- where the loop stands: of the file p is laid, and these heads and data are left
pub record Laying (file hs ds m p b : List ℕ) (at left : ℕ) : Type 0 where
  pub octets : (i : ℕ) → get_or hs i 0 < 256
  pub front : length p ≡ at
  pub whole_file : file ≡ p ++ body_of left hs ds
  pub heads : left * 10 ≤ length hs
  pub fits : Fits left hs ds
  pub room : length file ≤ length m
  pub laid : b ≡ fronted p m

-- the buffer keeps its length
pub laying_long : (file hs ds m p b : List ℕ) (at left : ℕ) → Laying file hs ds m p b at left → length b ≡ length m
laying_long file hs ds m p b at left j =
    rw j.laid (length-fronted p m (omega (arith, j.room, ap length j.whole_file, length-append p (body_of left hs ds))))

-- a front laid over a shorter one
fronted_over : (p q m : List ℕ) → length p ≤ length q → fronted q (fronted p m) ≡ fronted q m
unfolding fronted
fronted_over p q m h =
    let e : length q ≡ length p + (length q - length p) = omega arith in
    ap (λ (t : List ℕ). q ++ t)
    (ap (λ (i : ℕ). drop i (p ++ drop (length p) m)) e ∙ drop-append-add p (drop (length p) m) (length q - length p) ∙ drop-drop (length q - length p) (length p) m ∙ ap (λ (i : ℕ). drop i m) (sym e))

module _ (hs ds m : List ℕ) (h : length (file_of hs ds) ≤ length m) where
  -- the count, laid at the front
  counted : with_number_at m (in_octets 0) (length hs / 10) ≡ fronted (encoded (length hs / 10)) m
  unfolding file_of
  counted =
      let n : ℕ = length hs / 10 in
      octets_spliced m 0 n ∙ spliced_front m (encoded n) (omega (arith, length-append (encoded n) (body_of n hs ds)))

  count_first : length (encoded (length hs / 10)) ≤ length (file_of hs ds)
  unfolding file_of
  count_first = let n : ℕ = length hs / 10 in omega (arith, length-append (encoded n) (body_of n hs ds))

  -- b is the buffer with the count
  module _ (b : List ℕ) (is : b ≡ with_number_at m (in_octets 0) (length hs / 10)) where
    pub laying_start : (c : RecordCount) → ((i : ℕ) → get_or hs i 0 < 256) → verdict_of (file_of hs ds) ≡ given c → Laying (file_of hs ds) hs ds b (encoded (length hs / 10)) b (length (encoded (length hs / 10))) (length hs / 10)
    unfolding file_of
    laying_start c o e =
        let n : ℕ = length hs / 10 in
        let f : b ≡ fronted (encoded n) m = is ∙ counted in
        record {
          octets = o;
          front = refl;
          whole_file = refl;
          heads = omega arith;
          fits = accepted_fits hs ds c e o;
          room = rw f (omega (arith, h, count_first, length-fronted (encoded n) m (omega (arith, h, count_first))));
          laid = f ∙ sym (rw f (fronted_over (encoded n) (encoded n) m (omega arith)));
        }

    pub Laying-whole : fronted (file_of hs ds) b ≡ fronted (file_of hs ds) m
    Laying-whole = rw (is ∙ counted) (fronted_over (encoded (length hs / 10)) (file_of hs ds) m count_first)

-- one record more
module _ (file hs ds m p b : List ℕ) (at left : ℕ) (j : Laying file hs ds m p b at (suc left)) where
  ten : 10 ≤ length hs
  ten = omega (arith, j.heads)

  small : head_length hs < 2 ^ 32
  small = omega (arith, length_small hs j.octets)

  fits_here : head_length hs ≤ length ds
  unfolding Fits
  fits_here = j.fits.0

  long_here : at + 8 + length (encoded (head_length hs)) + head_length hs ≤ length m
  long_here =
      omega (arith, j.room, ap length j.whole_file, length-append p (body_of (suc left) hs ds), j.front, length_next left hs ds ten small fits_here)

  next_here : let n = head_length hs in let r = front_octets hs ++ take n ds in Laying file (drop 10 hs) (drop n ds) m (p ++ r) (spliced b at r) (at + (8 + length (encoded n) + n)) left
  unfolding Fits front_octets
  next_here =
      let n : ℕ = head_length hs in
      let r : List ℕ = (take 8 hs ++ encoded n) ++ take n ds in
      let long : length r ≡ 8 + length (encoded n) + n = front_long left hs ds ten small fits_here in
      record {
        octets = Below-drop 256 (lit< tt) 10 hs j.octets;
        front = omega (arith, length-append p r, j.front, long);
        whole_file =
            j.whole_file
            ∙ ap (λ (t : List ℕ). p ++ t) (whole left hs ds ten small fits_here)
            ∙ sym (append_assoc p r (body_of left (drop 10 hs) (drop n ds)));
        heads = omega (arith, j.heads, length-drop 10 hs);
        fits = j.fits.1;
        room = j.room;
        laid = rw j.laid (spliced_next p m r at j.front (omega (arith, long, long_here)));
      }

-- the same at the numbers of the loop
module _ (file hs ds m p b : List ℕ) (at : ℕ) where
  pub laying_fits : (left : ℕ) → Laying file hs ds m p b at left → 0 < left → head_length hs ≤ length ds
  laying_fits zero j h = let z : ⊥ = omega arith in absurd z
  laying_fits (suc left) j h = fits_here file hs ds m p b at left j

  pub laying_room : (left : ℕ) → Laying file hs ds m p b at left → 0 < left → at + 8 + length (encoded (head_length hs)) + head_length hs ≤ length b
  laying_room zero j h = let z : ⊥ = omega arith in absurd z
  laying_room (suc left) j h =
      let l : at + 8 + length (encoded (head_length hs)) + head_length hs ≤ length m = long_here file hs ds m p b at left j in
      rw j.laid (omega (arith, length-fronted p m (omega (arith, j.front, l))))

  pub laying_next : (left : ℕ) → Laying file hs ds m p b at left → 0 < left → let n = head_length hs in let r = front_octets hs ++ take n ds in Laying file (drop 10 hs) (drop n ds) m (p ++ r) (spliced b at r) (at + (8 + length (encoded n) + n)) (left - 1)
  laying_next zero j h = let z : ⊥ = omega arith in absurd z
  laying_next (suc left) j h =
      let l : suc left - 1 ≡ left = omega arith in
      rw l (next_here file hs ds m p b at left j)

-- the whole file
pub laying_done : (file hs ds m p b : List ℕ) (at : ℕ) → Laying file hs ds m p b at 0 → b ≡ fronted file m
unfolding Fits body_of
laying_done file hs ds m p b at j =
    let e : hs ≡ [] = no_elements hs j.fits.0 in
    let f : ds ≡ [] = no_elements ds j.fits.1 in
    j.laid ∙ ap (λ (t : List ℕ). fronted t m) (sym (j.whole_file ∙ rw (e, f, append-nil)))
