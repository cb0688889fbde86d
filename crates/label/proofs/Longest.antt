-- The longest front part of a run of characters within two limits.
use mathlib.Core.Path.{◌≡◌, refl, sym, ap, ◌∙◌}
use mathlib.Core.Bool.{Bool, true, false, cond}
use mathlib.Core.List.{List, [], ◌∷◌, ◌++◌, flatten}
use Prim.Native.Nat.{ℕ, zero, suc, ◌+◌, ◌-◌, ◌≤◌, ◌<◌}
use mathlib.Core.Logic.{◌⊎◌, ⊎_elim}
use native.Mathlib.Omega.{arith}
use borrow.Author.Tests.{leb-true, leb-false}
use lib.Dec.{leb}
use lib.ListN.{length, take, length-append}
use lib.Seq.{take_all}
use Rattle.label.specs.Fitting.{keep}

module _ (octets count : ℕ) (character : List ℕ) (run : List (List ℕ)) where
  -- a claim about what is kept of a run: the first character is kept with what the limits then leave, or nothing is
  cases : (P : List (List ℕ) → Type 0) → (length character ≤ octets → P (character ∷ keep (octets - length character) count run)) → (octets < length character → P []) → P (keep octets (suc count) (character ∷ run))
  unfolding keep
  cases P fits over = told (leb (length character) octets) refl
    where
      told : (b : Bool) → leb (length character) octets ≡ b → P (cond b (character ∷ keep (octets - length character) count run) [])
      told true e = fits (leb-true _ _ e)
      told false e = over (leb-false _ _ e)

pub keep_front : (octets count : ℕ) (run : List (List ℕ)) → keep octets count run ≡ take (length (keep octets count run)) run
unfolding keep
keep_front octets count [] = refl
keep_front octets zero (character ∷ run) = refl
keep_front octets (suc count) (character ∷ run) = cases octets count character run (λ (kept : List (List ℕ)). kept ≡ take (length kept) (character ∷ run))
    (λ fits. ap (λ (l : List (List ℕ)). character ∷ l) (keep_front (octets - length character) count run)) (λ over. refl)

pub keep_octets : (octets count : ℕ) (run : List (List ℕ)) → length (flatten (keep octets count run)) ≤ octets
unfolding keep flatten
keep_octets octets count [] = omega arith
keep_octets octets zero (character ∷ run) = omega arith
keep_octets octets (suc count) (character ∷ run) = cases octets count character run (λ (kept : List (List ℕ)). length (flatten kept) ≤ octets)
    (λ fits. rw length-append (omega (arith, keep_octets (octets - length character) count run))) (λ over. omega arith)

pub keep_count : (octets count : ℕ) (run : List (List ℕ)) → length (keep octets count run) ≤ count
unfolding keep
keep_count octets count [] = omega arith
keep_count octets zero (character ∷ run) = omega arith
keep_count octets (suc count) (character ∷ run) = cases octets count character run (λ (kept : List (List ℕ)). length kept ≤ suc count)
    (λ fits. omega (arith, keep_count (octets - length character) count run)) (λ over. omega arith)

-- no front part within both limits is longer
pub keep_longest : (octets count : ℕ) (run : List (List ℕ)) (n : ℕ) → length (flatten (take n run)) ≤ octets → length (take n run) ≤ count
    → length (flatten (take n run)) ≤ length (flatten (keep octets count run))
unfolding keep flatten
keep_longest octets count [] zero h k = omega arith
keep_longest octets count [] (suc n) h k = omega arith
keep_longest octets count (character ∷ run) zero h k = omega arith
keep_longest octets zero (character ∷ run) (suc n) h k = absurd (omega arith)
keep_longest octets (suc count) (character ∷ run) (suc n) h k =
    let sum : length (character ++ flatten (take n run)) ≡ length character + length (flatten (take n run)) = length-append character (flatten (take n run)) in
    cases octets count character run (λ (kept : List (List ℕ)). length (character ++ flatten (take n run)) ≤ length (flatten kept))
    (λ fits. rw (length-append character (flatten (take n run)), length-append) (omega (arith, keep_longest (octets - length character) count run n (omega arith) (omega arith))))
    (λ over. absurd (omega arith))

-- a run within both limits is kept whole
pub keep_whole : (octets count : ℕ) (run : List (List ℕ)) → length (flatten run) ≤ octets → length run ≤ count → keep octets count run ≡ run
unfolding keep flatten
keep_whole octets count [] h k = refl
keep_whole octets zero (character ∷ run) h k = absurd (omega arith)
keep_whole octets (suc count) (character ∷ run) h k =
    let sum : length (character ++ flatten run) ≡ length character + length (flatten run) = length-append character (flatten run) in
    cases octets count character run (λ (kept : List (List ℕ)). kept ≡ character ∷ run)
    (λ fits. ap (λ (l : List (List ℕ)). character ∷ l) (keep_whole (octets - length character) count run (omega arith) (omega arith)))
    (λ over. absurd (omega arith))

-- what is kept of a run is kept of each of its front parts that is long enough
keep_of_front : (octets count : ℕ) (run : List (List ℕ)) (n : ℕ) → length (keep octets count run) ≤ n → keep octets count (take n run) ≡ keep octets count run
unfolding keep
keep_of_front octets count [] zero h = refl
keep_of_front octets count [] (suc n) h = refl
keep_of_front octets zero (character ∷ run) zero h = refl
keep_of_front octets zero (character ∷ run) (suc n) h = refl
keep_of_front octets (suc count) (character ∷ run) zero h = cases octets count character run (λ (kept : List (List ℕ)). length kept ≤ 0 → [] ≡ kept) (λ fits few. absurd (omega arith)) (λ over few. refl) h
keep_of_front octets (suc count) (character ∷ run) (suc n) h = told (leb (length character) octets) h (keep_of_front (octets - length character) count run n)
  where
    told : (b : Bool) → length (cond b (character ∷ keep (octets - length character) count run) []) ≤ suc n
        → (length (keep (octets - length character) count run) ≤ n → keep (octets - length character) count (take n run) ≡ keep (octets - length character) count run)
        → cond b (character ∷ keep (octets - length character) count (take n run)) [] ≡ cond b (character ∷ keep (octets - length character) count run) []
    told true h rest = ap (λ (l : List (List ℕ)). character ∷ l) (rest (omega arith))
    told false h rest = refl

-- of a run over a limit the last character is not kept
pub keep_part : (octets count : ℕ) (run : List (List ℕ)) → (octets < length (flatten run)) ⊎ (count < length run) → keep octets count run ≡ keep octets count (take (length run - 1) run)
keep_part octets count run over = sym (keep_of_front octets count run (length run - 1) (fewer (leb (length run) (length (keep octets count run))) refl))
  where
    fewer : (b : Bool) → leb (length run) (length (keep octets count run)) ≡ b → length (keep octets count run) ≤ length run - 1
    fewer false e = let less : length (keep octets count run) < length run = leb-false _ _ e in omega arith
    fewer true e =
        let whole : keep octets count run ≡ run = keep_front octets count run ∙ take_all (length (keep octets count run)) run (leb-true _ _ e) in
        let octets_fit : length (flatten run) ≤ octets = rw whole at (keep_octets octets count run) in
        let count_fits : length run ≤ count = rw whole at (keep_count octets count run) in
        absurd (⊎_elim (λ (h : octets < length (flatten run)). omega arith) (λ (h : count < length run). omega arith) over)
