-- Setup's tests, one record at a time.
use Prim.Native.Nat.{ℕ, zero, suc, ◌≤◌, ◌<◌, ◌-◌}
use mathlib.Core.Bool.{Bool, true, false, not, ◌&&◌, ◌||◌}
use mathlib.Core.List.{List, [], ◌∷◌, map}
use mathlib.Core.Path.{◌≡◌, refl, sym, ap, ◌∙◌}
use native.Mathlib.Omega.{arith}
use lib.Dec.{eqb}
use lib.ListN.{length, drop, get_or, set, replicate, get_or-replicate, drop_of_length-le}
use lib.Seq.{drop-cons, get_or-set_same, get_or-set_other}
use borrow.Author.Tests.{eqb-true, eqb-false}
use Rattle.std.specs.List.{list_all}
use Rattle.numbers.specs.Table.{none}
use Rattle.numbers.specs.Answer.{number_of}
use Rattle.records.specs.declared.Attributes.{Attributes}
use Rattle.records.specs.declared.Record.{Record}
use Rattle.records.specs.declared.Records.{Records}
use Rattle.records.specs.Judging.{contents_answer}
use Rattle.records.specs.Finding.{used, attributes_of, blank, record_at}
use Rattle.records.specs.Setup.{keeps_limits, all_keep_limits, present, tabs_apart, first_number, contents_number}
use Rattle.records.proofs.InUse.{attributes_next, attributes_length}

-- the marks of the TABs that a list of records has
abbrev pub Marked : List Bool → List Attributes → Type 0
Marked seen l = (t : ℕ) → t < 256 → get_or seen t false ≡ present t l

first_stands : (n next : ℕ) → none < n → first_number n next ≡ n
unfolding first_number
first_stands zero next p = let z : ⊥ = omega arith in absurd z
first_stands (suc n) next p = refl

-- a walk over records, at each index and past the last
module _ (l : List Record) (i : ℕ) where
  next_number : i < length l → contents_number (drop i l) ≡ first_number (number_of (contents_answer (get_or l i blank))) (contents_number (drop (suc i) l))
  unfolding contents_number
  next_number h = ap contents_number (drop-cons l i blank h)

  pub contents_pass : i < length l → number_of (contents_answer (get_or l i blank)) ≡ none → contents_number (drop i l) ≡ contents_number (drop (suc i) l)
  unfolding first_number
  contents_pass h e = rw (next_number h, e)

  pub contents_stop : i < length l → (n : ℕ) → number_of (contents_answer (get_or l i blank)) ≡ n → none < n → contents_number (drop i l) ≡ n
  contents_stop h n e p = rw (next_number h, e) (first_stands n _ p)

  pub contents_end : length l ≤ i → contents_number (drop i l) ≡ none
  unfolding contents_number
  contents_end h = rw (drop_of_length-le l {i = i} h)

module _ (s : Records) (i : ℕ) (h : i < length (used s)) where
  apart_pass : present (record_at s i).attributes.tab (drop (suc i) (attributes_of s)) ≡ false → tabs_apart (drop i (attributes_of s)) ≡ tabs_apart (drop (suc i) (attributes_of s))
  unfolding tabs_apart
  apart_pass e = rw (attributes_next s i h, e)

  apart_stop : present (record_at s i).attributes.tab (drop (suc i) (attributes_of s)) ≡ true → tabs_apart (drop i (attributes_of s)) ≡ false
  unfolding tabs_apart
  apart_stop e = rw (attributes_next s i h, e)

-- past the last record nothing is left to test
module _ (s : Records) (i : ℕ) (h : length (used s) ≤ i) where
  pub apart_end : tabs_apart (drop i (attributes_of s)) ≡ true
  unfolding tabs_apart
  apart_end = rw (drop_of_length-le (attributes_of s) {i = i} (omega (arith, attributes_length s)))

  pub marks_none : Marked (replicate 256 false) (drop i (attributes_of s))
  unfolding present
  marks_none t k = rw (drop_of_length-le (attributes_of s) {i = i} (omega (arith, attributes_length s))) (get_or-replicate 256 t false false k)

-- a TAB that stands twice in the rest stands twice in the whole
apart_front : (i : ℕ) (l : List Attributes) → tabs_apart (drop i l) ≡ false → tabs_apart l ≡ false
unfolding tabs_apart
apart_front zero l h = h
apart_front (suc i) [] h = h
apart_front (suc i) (a ∷ l) h = either (present a.tab l) (apart_front i l h)
  where
    either : (b : Bool) → tabs_apart l ≡ false → not b && tabs_apart l ≡ false
    either true e = refl
    either false e = e

-- the mark of one more TAB
module _ (seen : List Bool) (a : Attributes) (l : List Attributes) (long : length seen ≡ 256) (octet : a.tab < 256) where
  mark_next : Marked seen l → Marked (set seen a.tab true) (a ∷ l)
  unfolding present
  mark_next m t h = by (eqb a.tab t) refl
    where
      by : (b : Bool) → eqb a.tab t ≡ b → get_or (set seen a.tab true) t false ≡ (b || present t l)
      by true e = ap (λ (n : ℕ). get_or (set seen a.tab true) n false) (sym (eqb-true _ _ e)) ∙ get_or-set_same seen a.tab true false (omega arith)
      by false e = get_or-set_other seen a.tab t true false (λ q. eqb-false a.tab t e (sym q)) ∙ m t h

-- one turn of the walk from the last record to the first: the marks tell whether a record behind has this record's TAB
module _ (s : Records) (i : ℕ) (some : 0 < i) (h : i ≤ length (used s)) (seen : List Bool) (octet : (record_at s (i - 1)).attributes.tab < 256) (m : Marked seen (drop i (attributes_of s))) where
  next : suc (i - 1) ≡ i
  next = omega arith

  met : i - 1 < length (used s)
  met = omega arith

  behind : get_or seen (record_at s (i - 1)).attributes.tab false ≡ present (record_at s (i - 1)).attributes.tab (drop (suc (i - 1)) (attributes_of s))
  behind = rw next (m _ octet)

  pub seen_stop : get_or seen (record_at s (i - 1)).attributes.tab false ≡ true → tabs_apart (attributes_of s) ≡ false
  seen_stop q = apart_front (i - 1) (attributes_of s) (apart_stop s (i - 1) met (sym behind ∙ q))

  pub seen_pass : get_or seen (record_at s (i - 1)).attributes.tab false ≡ false → tabs_apart (drop i (attributes_of s)) ≡ true → tabs_apart (drop (i - 1) (attributes_of s)) ≡ true
  seen_pass q a = apart_pass s (i - 1) met (sym behind ∙ q) ∙ rw next a

  pub seen_next : length seen ≡ 256 → Marked (set seen (record_at s (i - 1)).attributes.tab true) (drop (i - 1) (attributes_of s))
  seen_next long = rw (attributes_next s (i - 1) met) (mark_next seen _ _ long octet (rw next m))

-- the test of every record's limits, as a test of the records in use
limits_map : (l : List Record) → all_keep_limits (map (λ r. r.attributes) l) ≡ list_all (λ (r : Record). keeps_limits r.attributes) l
unfolding all_keep_limits
limits_map [] = refl
limits_map (r ∷ l) = ap (λ (b : Bool). keeps_limits r.attributes && b) (limits_map l)

pub limits_all : (s : Records) → all_keep_limits (attributes_of s) ≡ list_all (λ (r : Record). keeps_limits r.attributes) (used s)
unfolding attributes_of
limits_all s = limits_map (used s)
