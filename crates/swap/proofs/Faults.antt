-- The offset of a faulty file is that of the first bad item: all items before it are good, and it is bad; and no other offset is.
use Prim.Native.Nat.{ℕ, zero, suc, ◌+◌, ◌*◌, ◌≤◌, ◌<◌}
use mathlib.Core.Path.{◌≡◌, refl, sym, ap, ◌∙◌}
use mathlib.Core.Bool.{Bool, true, false, cond}
use mathlib.Core.List.{List, [], ◌∷◌}
use native.Mathlib.Nat.{add_assoc, add-zero, zero-add}
use native.Mathlib.Omega.{arith}
use lib.ListN.{length, get_or, take, drop}
use lib.Seq.{drop-drop, get_or-drop}
use lib.Dec.{ltb}
use borrow.Author.Tests.{le-ltb, lt-ltb, ltb-true, ltb-false}
use mathlib.Core.Logic.{◌⊎◌, inl, inr}
use Rattle.numbers.specs.declared.Octets.{Octets}
use Rattle.numbers.specs.Counts.{in_octets}
use Rattle.numbers.specs.Answer.{refused_at}
use Rattle.number.specs.Groups.{Front, found, none, front_number}
use Rattle.swap.specs.declared.kind.Kind.{Kind}
use Rattle.swap.specs.Record.{Record, kind_of, rank_of, count_limit, file_limit}
use Rattle.swap.specs.Items.{Judged, bad, good, judged, judged_content, good_address, good_kind, good_content, length_field, limited, front_record}
use Rattle.swap.specs.Reading.{FileListing, faulty, listed, preceded, read_records, read_counted, read_file, answer_of_listing, verdict_of}
use Rattle.swap.proofs.Shown.{within_limit}
use Rattle.swap.specs.Faults.{Due, count_due, address_due, kind_due, length_due, content_due, rest_due, ItemStep, bad_item, good_item, file_end, records_due, count_read, length_read, item, Reached, first, passed}

-- what a reading comes to, without the records
data Fate : Type 0 where
  clean : Fate
  bad_at : ℕ → Fate

fate : FileListing → Fate
fate (faulty o) = bad_at o
fate (listed rs) = clean

-- what the reading comes to from an item on, which is due at an offset
from_content : ℕ → ℕ → Kind → ℕ → ℕ → List ℕ → Fate
from_content k rank kind n at t = cond (good_content kind n t) (fate (read_records k (suc rank) (at + n) (drop n t))) (bad_at at)

from_measured : ℕ → ℕ → Kind → Front → ℕ → List ℕ → Fate
from_measured k rank kind none at t = bad_at at
from_measured k rank kind (found n w) at t = from_content k rank kind n (at + w) (drop w t)

from_kind : ℕ → ℕ → ℕ → List ℕ → Fate
from_kind k rank at t =
    cond (good_kind t)
    (from_measured k rank (kind_of (get_or t 0 0)) (length_field (kind_of (get_or t 0 0)) (drop 1 t)) (at + 1) (drop 1 t))
    (bad_at at)

from_address : ℕ → ℕ → ℕ → List ℕ → Fate
from_address k least at t = cond (good_address least t) (from_kind k (rank_of (take 7 t)) (at + 7) (drop 7 t)) (bad_at at)

fate-preceded : (r : Record) (out : FileListing) → fate (preceded r out) ≡ fate out
unfolding fate preceded
fate-preceded r (faulty o) = refl
fate-preceded r (listed rs) = refl

-- a record and those after it, by what was judged of it
judged_fate : ℕ → ℕ → ℕ → List ℕ → Judged → Fate
judged_fate k rank at t (bad o) = bad_at (at + o)
judged_fate k rank at t (good w n) = fate (read_records k (suc rank) (at + (8 + w + n)) (drop (8 + w + n) t))

records_fate : (k least at : ℕ) (t : List ℕ) → fate (read_records (suc k) least at t) ≡ judged_fate k (rank_of (take 7 t)) at t (judged least t)
unfolding fate read_records judged_fate
records_fate k least at t = go (judged least t)
  where
    go : (j : Judged) → fate (elim j [ bad o ↦ faulty (at + o) | good w n ↦ preceded (front_record w n t) (read_records k (suc (rank_of (take 7 t))) (at + (8 + w + n)) (drop (8 + w + n) t)) ]) ≡ judged_fate k (rank_of (take 7 t)) at t j
    go (bad o) = refl
    go (good w n) = fate-preceded (front_record w n t) _

content_fate : (k rank : ℕ) (kind : Kind) (f : Front) (at : ℕ) (t : List ℕ) → judged_fate k rank at t (judged_content kind f (drop 8 t)) ≡ from_measured k rank kind f (at + 8) (drop 8 t)
unfolding judged_fate judged_content from_measured from_content
content_fate k rank kind none at t = refl
content_fate k rank kind (found n w) at t = go (good_content kind n (drop w (drop 8 t)))
  where
    go : (b : Bool) → judged_fate k rank at t (cond b (good w n) (bad (8 + w))) ≡ cond b (fate (read_records k (suc rank) (at + 8 + w + n) (drop n (drop w (drop 8 t))))) (bad_at (at + 8 + w))
    go true =
        let e : at + (8 + w + n) ≡ at + 8 + w + n = omega arith in
        rw (drop-drop w 8 t, drop-drop n (8 + w) t, e)
    go false = ap bad_at (sym (add_assoc at 8 w))

address_fate : (k least at : ℕ) (t : List ℕ) → fate (read_records (suc k) least at t) ≡ from_address k least at t
unfolding judged from_address from_kind judged_fate
address_fate k least at t = records_fate k least at t ∙ go (good_address least t) (good_kind (drop 7 t))
  where
    kind : Kind
    kind = kind_of (get_or t 7 0)

    go : (a b : Bool) → judged_fate k (rank_of (take 7 t)) at t (cond a (cond b (judged_content kind (length_field kind (drop 8 t)) (drop 8 t)) (bad 7)) (bad 0)) ≡ cond a (cond b (from_measured k (rank_of (take 7 t)) (kind_of (get_or (drop 7 t) 0 0)) (length_field (kind_of (get_or (drop 7 t) 0 0)) (drop 1 (drop 7 t))) (at + 7 + 1) (drop 1 (drop 7 t))) (bad_at (at + 7))) (bad_at at)
    go false b = ap bad_at (add-zero at)
    go true false = refl
    go true true = content_fate k (rank_of (take 7 t)) kind (length_field kind (drop 8 t)) at t ∙ rw (get_or-drop 7 t 0 0, drop-drop 1 7 t, add_assoc)

from_counted : Front → ℕ → List ℕ → Fate
from_counted none at t = bad_at at
from_counted (found n w) at t = fate (read_records n 0 (at + w) (drop w t))

-- what the reading comes to from any item on
resumed : Due → ℕ → List ℕ → Fate
resumed count_due at t = from_counted (limited count_limit (front_number t)) at t
resumed (address_due k least) at t = from_address k least at t
resumed (kind_due k rank) at t = from_kind k rank at t
resumed (length_due k rank kind) at t = from_measured k rank kind (length_field kind t) at t
resumed (content_due k rank kind n) at t = from_content k rank kind n at t
resumed rest_due at t = fate (read_records 0 0 at t)

-- the records that are due are those that are read, whatever the least rank where there are none
records_resumed : (k least at : ℕ) (t : List ℕ) → fate (read_records k least at t) ≡ resumed (records_due k least) at t
unfolding resumed records_due read_records
records_resumed zero least at [] = refl
records_resumed zero least at (o ∷ t) = refl
records_resumed (suc k) least at t = address_fate k least at t

-- a good item leads on, at the offset after it
good_step : (b : Bool) (w v : ℕ) (d next : Due) → cond b (good_item v d) bad_item ≡ good_item w next → (b ≡ true) × (v ≡ w) × (d ≡ next)
good_step true w v d next e = (refl, cc, cc)
good_step false w v d next e = let z : ◌≡◌ {A = ℕ} 0 1 = cc in let y : ⊥ = omega arith in absurd y

resumed_on : (d : Due) (at w : ℕ) (t : List ℕ) (next : Due) → item d t ≡ good_item w next → resumed d at t ≡ resumed next (at + w) (drop w t)
unfolding item resumed count_read length_read from_counted from_measured from_content from_kind from_address
resumed_on count_due at w t next e = go (limited count_limit (front_number t)) e
  where
    go : (f : Front) → count_read f ≡ good_item w next → from_counted f at t ≡ resumed next (at + w) (drop w t)
    go none r = let z : ◌≡◌ {A = ℕ} 0 1 = cc in let y : ⊥ = omega arith in absurd y
    go (found n v) r =
        let p : v ≡ w = cc in
        let q : records_due n 0 ≡ next = cc in
        rw (← q, ← p) (records_resumed n 0 (at + v) (drop v t))
resumed_on (address_due k least) at w t next e =
    let g = good_step (good_address least t) w 7 _ next e in
    rw (g.0, ← g.1, ← g.2)
resumed_on (kind_due k rank) at w t next e =
    let g = good_step (good_kind t) w 1 _ next e in
    rw (g.0, ← g.1, ← g.2)
resumed_on (length_due k rank kind) at w t next e = go (length_field kind t) e
  where
    go : (f : Front) → length_read k rank kind f ≡ good_item w next → from_measured k rank kind f at t ≡ resumed next (at + w) (drop w t)
    go none r = let z : ◌≡◌ {A = ℕ} 0 1 = cc in let y : ⊥ = omega arith in absurd y
    go (found n v) r =
        let p : v ≡ w = cc in
        let q : content_due k rank kind n ≡ next = cc in
        rw (← q, ← p)
resumed_on (content_due k rank kind n) at w t next e =
    let g = good_step (good_content kind n t) w n _ next e in
    rw (g.0, ← g.1, ← g.2) (records_resumed k (suc rank) (at + n) (drop n t))
resumed_on rest_due at w [] next e = let z : ◌≡◌ {A = ℕ} 0 1 = cc in let y : ⊥ = omega arith in absurd y
resumed_on rest_due at w (o ∷ t) next e = let z : ◌≡◌ {A = ℕ} 0 1 = cc in let y : ⊥ = omega arith in absurd y

-- a bad item ends it where it stands
bad_step : (b : Bool) (v : ℕ) (d : Due) → cond b (good_item v d) bad_item ≡ bad_item → b ≡ false
bad_step true v d e = let z : ◌≡◌ {A = ℕ} 0 1 = cc in let y : ⊥ = omega arith in absurd y
bad_step false v d e = refl

not_end : (b : Bool) (v : ℕ) (d : Due) → cond b (good_item v d) bad_item ≡ file_end → ⊥
not_end true v d e = let z : ◌≡◌ {A = ℕ} 0 1 = cc in omega arith
not_end false v d e = let z : ◌≡◌ {A = ℕ} 0 1 = cc in omega arith

resumed-bad : (d : Due) (at : ℕ) (t : List ℕ) → item d t ≡ bad_item → resumed d at t ≡ bad_at at
unfolding item resumed count_read length_read fate read_records from_counted from_measured from_content from_kind from_address
resumed-bad count_due at t e = go (limited count_limit (front_number t)) e
  where
    go : (f : Front) → count_read f ≡ bad_item → from_counted f at t ≡ bad_at at
    go none r = refl
    go (found n v) r = let z : ◌≡◌ {A = ℕ} 0 1 = cc in let y : ⊥ = omega arith in absurd y
resumed-bad (address_due k least) at t e = rw (bad_step (good_address least t) _ _ e)
resumed-bad (kind_due k rank) at t e = rw (bad_step (good_kind t) _ _ e)
resumed-bad (length_due k rank kind) at t e = go (length_field kind t) e
  where
    go : (f : Front) → length_read k rank kind f ≡ bad_item → from_measured k rank kind f at t ≡ bad_at at
    go none r = refl
    go (found n v) r = let z : ◌≡◌ {A = ℕ} 0 1 = cc in let y : ⊥ = omega arith in absurd y
resumed-bad (content_due k rank kind n) at t e = rw (bad_step (good_content kind n t) _ _ e)
resumed-bad rest_due at [] e = let z : ◌≡◌ {A = ℕ} 0 1 = cc in let y : ⊥ = omega arith in absurd y
resumed-bad rest_due at (o ∷ t) e = refl

-- where the file ends there is no fault
resumed_end : (d : Due) (at : ℕ) (t : List ℕ) → item d t ≡ file_end → resumed d at t ≡ clean
unfolding item resumed count_read length_read fate read_records
resumed_end count_due at t e = absurd (go (limited count_limit (front_number t)) e)
  where
    go : (f : Front) → count_read f ≡ file_end → ⊥
    go none r = let z : ◌≡◌ {A = ℕ} 0 1 = cc in omega arith
    go (found n v) r = let z : ◌≡◌ {A = ℕ} 0 1 = cc in omega arith
resumed_end (address_due k least) at t e = absurd (not_end (good_address least t) _ _ e)
resumed_end (kind_due k rank) at t e = absurd (not_end (good_kind t) _ _ e)
resumed_end (length_due k rank kind) at t e = absurd (go (length_field kind t) e)
  where
    go : (f : Front) → length_read k rank kind f ≡ file_end → ⊥
    go none r = let z : ◌≡◌ {A = ℕ} 0 1 = cc in omega arith
    go (found n v) r = let z : ◌≡◌ {A = ℕ} 0 1 = cc in omega arith
resumed_end (content_due k rank kind n) at t e = absurd (not_end (good_content kind n t) _ _ e)
resumed_end rest_due at [] e = refl
resumed_end rest_due at (o ∷ t) e = let z : ◌≡◌ {A = ℕ} 0 1 = cc in let y : ⊥ = omega arith in absurd y

-- how many items may still come: four to a record
weight : Due → ℕ
weight count_due = 4 * count_limit + 1
weight (address_due k least) = 4 * k + 4
weight (kind_due k rank) = 4 * k + 3
weight (length_due k rank kind) = 4 * k + 2
weight (content_due k rank kind n) = 4 * k + 1
weight rest_due = 0

weight_records : (k least : ℕ) → weight (records_due k least) ≡ 4 * k
unfolding weight records_due
weight_records zero least = refl
weight_records (suc k) least = omega arith

weight_falls : (d : Due) (t : List ℕ) (w : ℕ) (next : Due) → item d t ≡ good_item w next → weight next < weight d
unfolding item count_read length_read weight
weight_falls count_due t w next e = go (limited count_limit (front_number t)) refl e
  where
    go : (f : Front) → limited count_limit (front_number t) ≡ f → count_read f ≡ good_item w next → weight next < 4 * count_limit + 1
    go none q r = let z : ◌≡◌ {A = ℕ} 0 1 = cc in let y : ⊥ = omega arith in absurd y
    go (found n v) q r =
        let p : records_due n 0 ≡ next = cc in
        rw (← p) (omega (arith, weight_records n 0, (within_limit count_limit (front_number t) n v q).1))
weight_falls (address_due k least) t w next e = rw (← (good_step (good_address least t) w 7 _ next e).2) (omega arith)
weight_falls (kind_due k rank) t w next e = rw (← (good_step (good_kind t) w 1 _ next e).2) (omega arith)
weight_falls (length_due k rank kind) t w next e = go (length_field kind t) e
  where
    go : (f : Front) → length_read k rank kind f ≡ good_item w next → weight next < 4 * k + 2
    go none r = let z : ◌≡◌ {A = ℕ} 0 1 = cc in let y : ⊥ = omega arith in absurd y
    go (found n v) r = let q : content_due k rank kind n ≡ next = cc in rw (← q) (omega arith)
weight_falls (content_due k rank kind n) t w next e =
    rw (← (good_step (good_content kind n t) w n _ next e).2) (omega (arith, weight_records k (suc rank)))
weight_falls rest_due [] w next e = let z : ◌≡◌ {A = ℕ} 0 1 = cc in let y : ⊥ = omega arith in absurd y
weight_falls rest_due (o ∷ t) w next e = let z : ◌≡◌ {A = ℕ} 0 1 = cc in let y : ⊥ = omega arith in absurd y

module _ (s : List ℕ) (h : length s ≤ file_limit) where
  first-fate : fate (read_file s) ≡ resumed count_due 0 s
  unfolding resumed from_counted fate read_file read_counted
  first-fate = rw (le-ltb file_limit (length s) h) (go (limited count_limit (front_number s)))
    where
      go : (f : Front) → fate (read_counted f s) ≡ from_counted f 0 s
      go none = refl
      go (found n w) = rw zero-add

  -- the reading of the file is what it comes to from any item that is reached
  Reached-fate : {d : Due} {at : ℕ} → Reached s d at → fate (read_file s) ≡ resumed d at (drop at s)
  Reached-fate first = first-fate
  Reached-fate (passed {d = d} {next = next} {at = at} {w = w} r e) = Reached-fate r ∙ resumed_on d at w (drop at s) next e ∙ rw drop-drop

  -- a bad item that is reached is the file's fault
  pub Reached-bad : {d : Due} {at : ℕ} → Reached s d at → item d (drop at s) ≡ bad_item → read_file s ≡ faulty at
  unfolding fate
  Reached-bad {d} {at} r e = go (read_file s) (Reached-fate r ∙ resumed-bad d at (drop at s) e)
    where
      go : (out : FileListing) → fate out ≡ bad_at at → out ≡ faulty at
      go (faulty o) q = let p : o ≡ at = cc in rw p
      go (listed rs) q = let z : ◌≡◌ {A = ℕ} 0 1 = cc in let y : ⊥ = omega arith in absurd y

  -- the item at which a reading stops is reached, and bad
  module _ (o : ℕ) where
    clear : (at : ℕ) → clean ≡ bad_at o → ⊥
    clear at e = let z : ◌≡◌ {A = ℕ} 0 1 = cc in omega arith

    stops : (fuel : ℕ) (d : Due) (at : ℕ) → weight d < fuel → Reached s d at → resumed d at (drop at s) ≡ bad_at o → (e : Due) × Reached s e o × (item e (drop o s) ≡ bad_item)
    stops zero d at l r e = let z : ⊥ = omega arith in absurd z
    stops (suc fuel) d at l r e = go (item d (drop at s)) refl (stops fuel)
      where
        go : (i : ItemStep) → item d (drop at s) ≡ i → ((d : Due) (at : ℕ) → weight d < fuel → Reached s d at → resumed d at (drop at s) ≡ bad_at o → (e : Due) × Reached s e o × (item e (drop o s) ≡ bad_item)) → (e : Due) × Reached s e o × (item e (drop o s) ≡ bad_item)
        go bad_item q ih =
            let b : bad_at at ≡ bad_at o = sym (resumed-bad d at (drop at s) q) ∙ e in
            let p : at ≡ o = cc in
            rw (← p) (d, r, q)
        go (good_item w next) q ih =
            ih next (at + w) (omega (arith, weight_falls d (drop at s) w next q)) (passed r q) (rw (← drop-drop w at s) (sym (resumed_on d at w (drop at s) next q) ∙ e))
        go file_end q ih = absurd (clear at (sym (resumed_end d at (drop at s) q) ∙ e))

    pub bad_reached : read_file s ≡ faulty o → (d : Due) × Reached s d o × (item d (drop o s) ≡ bad_item)
    unfolding fate
    bad_reached e = stops (suc (weight count_due)) count_due 0 (omega arith) first (sym first-fate ∙ ap fate e)

pub long_file : (s : List ℕ) → file_limit < length s → read_file s ≡ faulty file_limit
unfolding read_file
long_file s h = rw (lt-ltb file_limit (length s) h)

-- the offset of a refused file: its limit where it is too long, else where the first bad item stands
pub refused_where : (s : List ℕ) (n : ℕ) (offset : Octets) → verdict_of s ≡ refused_at n offset → ((file_limit < length s) × (offset.0 ≡ file_limit)) ⊎ ((d : Due) × Reached s d offset.0 × (item d (drop offset.0 s) ≡ bad_item))
unfolding verdict_of
refused_where s n offset e = go (ltb file_limit (length s)) refl (read_file s) refl e
  where
    go : (b : Bool) → ltb file_limit (length s) ≡ b → (out : FileListing) → read_file s ≡ out → answer_of_listing out ≡ refused_at n offset → ((file_limit < length s) × (offset.0 ≡ file_limit)) ⊎ ((d : Due) × Reached s d offset.0 × (item d (drop offset.0 s) ≡ bad_item))
    go b h (listed rs) q r = let z : ◌≡◌ {A = ℕ} 0 1 = cc in let y : ⊥ = omega arith in absurd y
    go true h (faulty o) q r =
        let l : file_limit < length s = ltb-true file_limit (length s) h in
        let p : in_octets o ≡ offset = cc in
        let f : faulty o ≡ faulty file_limit = sym q ∙ long_file s l in
        let k : o ≡ file_limit = cc in
        inl (l, sym (ap (λ (c : Octets). c.0) p) ∙ k)
    go false h (faulty o) q r =
        let p : in_octets o ≡ offset = cc in
        inr (rw (← p) (bad_reached s (ltb-false file_limit (length s) h) o q))
