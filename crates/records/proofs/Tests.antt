-- Setup's tests over a list: each holds exactly if it holds of every element.
use Prim.Native.Nat.{ℕ, zero, suc, ◌<◌}
use mathlib.Core.Bool.{Bool, true, false, not, ◌||◌, true≢false, and-eq-true_iff}
use mathlib.Core.List.{List, [], ◌∷◌}
use mathlib.Core.Logic.{◌↔◌}
use mathlib.Core.Path.{◌≡◌, refl, sym, ap}
use native.Mathlib.Omega.{arith}
use lib.Dec.{eqb}
use lib.ListN.{length, get_or}
use borrow.Author.Tests.{ne_eqb, eqb-false, not-true}
use Rattle.numbers.specs.Table.{none}
use Rattle.numbers.specs.Answer.{number_of}
use Rattle.records.specs.declared.Attributes.{Attributes}
use Rattle.records.specs.declared.Record.{Record}
use Rattle.records.specs.Judging.{contents_answer}
use Rattle.records.specs.Finding.{blank_attributes, blank}
use Rattle.records.specs.Setup.{keeps_limits, all_keep_limits, present, tabs_apart, first_number, contents_number}

-- a statement about a list that goes by head and tail is one about each element
module _ {A : Type 0} (past : A) (P : A → Type 0) (All : List A → Type 0) (nil : All []) (cons : (x : A) (l : List A) → (P x × All l) ↔ All (x ∷ l)) where
  each : (l : List A) → All l → (i : ℕ) → i < length l → P (get_or l i past)
  each [] h i k = let f : ⊥ = omega arith in absurd f
  each (x ∷ l) h zero k = ((cons x l).1 h).0
  each (x ∷ l) h (suc i) k = each l ((cons x l).1 h).1 i (omega arith)

  every : (l : List A) → ((i : ℕ) → i < length l → P (get_or l i past)) → All l
  every [] f = nil
  every (x ∷ l) f = (cons x l).0 (f 0 (omega arith), every l (λ i k. f (suc i) (omega arith)))

  each-every : (l : List A) → All l ↔ ((i : ℕ) → i < length l → P (get_or l i past))
  each-every l = (each l, every l)

-- the limits of every record are kept
limits_cons : (a : Attributes) (l : List Attributes) → ((keeps_limits a ≡ true) × (all_keep_limits l ≡ true)) ↔ (all_keep_limits (a ∷ l) ≡ true)
unfolding all_keep_limits
limits_cons a l = ((and-eq-true_iff (keeps_limits a) (all_keep_limits l)).1, (and-eq-true_iff (keeps_limits a) (all_keep_limits l)).0)

pub limits_every : (l : List Attributes) → (all_keep_limits l ≡ true) ↔ ((i : ℕ) → i < length l → keeps_limits (get_or l i blank_attributes) ≡ true)
unfolding all_keep_limits
limits_every = each-every blank_attributes (λ a. keeps_limits a ≡ true) (λ l. all_keep_limits l ≡ true) refl limits_cons

-- the contents of every record are accepted
both : (n m : ℕ) → ((n ≡ none) × (m ≡ none)) ↔ (first_number n m ≡ none)
unfolding first_number
both zero m = (λ h. h.1, λ h. (refl, h))
both (suc n) m = (λ h. h.0, λ h. let z : ⊥ = omega arith in absurd z)

contents_cons : (r : Record) (l : List Record) → ((number_of (contents_answer r) ≡ none) × (contents_number l ≡ none)) ↔ (contents_number (r ∷ l) ≡ none)
unfolding contents_number
contents_cons r l = both (number_of (contents_answer r)) (contents_number l)

pub contents_every : (l : List Record) → (contents_number l ≡ none) ↔ ((i : ℕ) → i < length l → number_of (contents_answer (get_or l i blank)) ≡ none)
unfolding contents_number
contents_every = each-every blank (λ r. number_of (contents_answer r) ≡ none) (λ l. contents_number l ≡ none) refl contents_cons

-- a TAB that is not present stands at no index
pub neither : (a b : Bool) → a || b ≡ false → (a ≡ false) × (b ≡ false)
neither true b h = absurd (true≢false h)
neither false b h = (refl, h)

abbrev tab_at : List Attributes → ℕ → ℕ
tab_at l i = (get_or l i blank_attributes).tab

absent_cons : (t : ℕ) (a : Attributes) (l : List Attributes) → ((a.tab ≡ t → ⊥) × (present t l ≡ false)) ↔ (present t (a ∷ l) ≡ false)
unfolding present
absent_cons t a l =
    (λ h. rw (ne_eqb a.tab t h.0) h.1, λ h. let tests = neither (eqb a.tab t) (present t l) h in (eqb-false a.tab t tests.0, tests.1))

absent_every : (t : ℕ) (l : List Attributes) → (present t l ≡ false) ↔ ((i : ℕ) → i < length l → tab_at l i ≡ t → ⊥)
unfolding present
absent_every t = each-every blank_attributes (λ a. a.tab ≡ t → ⊥) (λ l. present t l ≡ false) refl (absent_cons t)

-- no two records have the same TAB
apart_head : (a : Attributes) (l : List Attributes) → tabs_apart (a ∷ l) ≡ true → (present a.tab l ≡ false) × (tabs_apart l ≡ true)
unfolding tabs_apart
apart_head a l h =
    let tests = (and-eq-true_iff (not (present a.tab l)) (tabs_apart l)).0 h in
    (not-true (present a.tab l) tests.0, tests.1)

apart_each : (l : List Attributes) → tabs_apart l ≡ true → (i j : ℕ) → i < length l → j < length l → tab_at l i ≡ tab_at l j → i ≡ j
apart_each [] h i j p q e = let f : ⊥ = omega arith in absurd f
apart_each (a ∷ l) h zero zero p q e = refl
apart_each (a ∷ l) h zero (suc j) p q e = absurd ((absent_every a.tab l).0 (apart_head a l h).0 j (omega arith) (sym e))
apart_each (a ∷ l) h (suc i) zero p q e = absurd ((absent_every a.tab l).0 (apart_head a l h).0 i (omega arith) e)
apart_each (a ∷ l) h (suc i) (suc j) p q e = ap suc (apart_each l (apart_head a l h).1 i j (omega arith) (omega arith) e)

apart_all : (l : List Attributes) → ((i j : ℕ) → i < length l → j < length l → tab_at l i ≡ tab_at l j → i ≡ j) → tabs_apart l ≡ true
unfolding tabs_apart
apart_all [] f = refl
apart_all (a ∷ l) f =
    rw ((absent_every a.tab l).1 (λ i k e. let z : suc i ≡ 0 = f (suc i) 0 (omega arith) (omega arith) e in omega arith))
    (apart_all l (λ i j p q e. let z : suc i ≡ suc j = f (suc i) (suc j) (omega arith) (omega arith) e in omega arith))

pub apart_every : (l : List Attributes) → (tabs_apart l ≡ true) ↔ ((i j : ℕ) → i < length l → j < length l → tab_at l i ≡ tab_at l j → i ≡ j)
apart_every l = (apart_each l, apart_all l)
