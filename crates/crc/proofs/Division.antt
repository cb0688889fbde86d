-- Long division by X^m + e(X), where e has m coefficients: the steps touch the front alone, are additive and never lengthen the list.
-- Assumes nothing.
use mathlib.Core.Path.{◌≡◌, refl, sym, ap, ◌∙◌}
use mathlib.Core.Bool.{Bool, true, false, xor}
use mathlib.Core.List.{List, [], ◌∷◌, ◌++◌}
use Prim.Native.Nat.{ℕ, zero, suc, ◌+◌, ◌≤◌, ◌<◌}
use native.Mathlib.Nat.{not-suc-le-zero, le_of_suc-le-suc, zero-add, suc-add}
use native.Mathlib.Omega.{arith}
use lib.ListN.{length, replicate}
use Rattle.crc.specs.Polynomial.{plus, step, reduce}
use Rattle.crc.proofs.Sum.{plus_assoc, plus_left_comm, plus_twice, length-plus, plus_front}

module _ (e : List Bool) where
  pub length-step : (a : List Bool) → length e < length a → suc (length (step (true ∷ e) a)) ≡ length a
  unfolding step plus
  length-step [] h = absurd (not-suc-le-zero h)
  length-step (false ∷ a) h = refl
  length-step (true ∷ a) h = ap suc (length-plus e a (le_of_suc-le-suc h))

  step_front : (a b : List Bool) → length e < length a → step (true ∷ e) (a ++ b) ≡ step (true ∷ e) a ++ b
  unfolding step plus
  step_front [] b h = absurd (not-suc-le-zero h)
  step_front (false ∷ a) b h = refl
  step_front (true ∷ a) b h = plus_front e a b (le_of_suc-le-suc h)

  step-plus : (a b : List Bool) → length e < length a → length a ≡ length b
      → step (true ∷ e) (plus a b) ≡ plus (step (true ∷ e) a) (step (true ∷ e) b)
  unfolding step plus xor
  step-plus [] b h q = absurd (not-suc-le-zero h)
  step-plus (x ∷ a) [] h q = absurd (omega arith)
  step-plus (false ∷ a) (false ∷ b) h q = refl
  step-plus (false ∷ a) (true ∷ b) h q = plus_left_comm e a b
  step-plus (true ∷ a) (false ∷ b) h q = sym (plus_assoc e a b)
  step-plus (true ∷ a) (true ∷ b) h q =
      sym (plus_assoc e a (plus e b) ∙ plus_left_comm e a (plus e b) ∙ ap (plus a) (plus_twice e b (omega arith)))

  pub length-reduce : (n : ℕ) (a : List Bool) → n + length e ≤ length a → n + length (reduce (true ∷ e) n a) ≡ length a
  unfolding reduce
  length-reduce zero a h = zero-add (length a)
  length-reduce (suc n) a h =
      let l : suc (length (step (true ∷ e) a)) ≡ length a = length-step a (omega arith) in
      let r : n + length (reduce (true ∷ e) n (step (true ∷ e) a)) ≡ length (step (true ∷ e) a) = length-reduce n (step (true ∷ e) a) (omega arith)
      in omega arith

  -- n steps touch the first n + m places alone
  pub reduce_front : (n : ℕ) (a b : List Bool) → n + length e ≤ length a → reduce (true ∷ e) n (a ++ b) ≡ reduce (true ∷ e) n a ++ b
  unfolding reduce
  reduce_front zero a b h = refl
  reduce_front (suc n) a b h =
      ap (reduce (true ∷ e) n) (step_front a b (omega arith))
      ∙ reduce_front n (step (true ∷ e) a) b (let l : suc (length (step (true ∷ e) a)) ≡ length a = length-step a (omega arith) in omega arith)

  -- the steps are additive
  pub reduce-plus : (n : ℕ) (a b : List Bool) → n + length e ≤ length a → length a ≡ length b
      → reduce (true ∷ e) n (plus a b) ≡ plus (reduce (true ∷ e) n a) (reduce (true ∷ e) n b)
  unfolding reduce
  reduce-plus zero a b h q = refl
  reduce-plus (suc n) a b h q =
      let l : suc (length (step (true ∷ e) a)) ≡ length a = length-step a (omega arith) in
      let k : suc (length (step (true ∷ e) b)) ≡ length b = length-step b (omega arith) in
      ap (reduce (true ∷ e) n) (step-plus a b (omega arith) q)
      ∙ reduce-plus n (step (true ∷ e) a) (step (true ∷ e) b) (omega arith) (omega arith)

  -- places that hold 0 fall away
  pub reduce_zeros : (n : ℕ) (a : List Bool) → reduce (true ∷ e) n (replicate n false ++ a) ≡ a
  unfolding reduce step
  reduce_zeros zero a = refl
  reduce_zeros (suc n) a = reduce_zeros n a

  -- n steps and then k
  pub reduce_add : (n k : ℕ) (a : List Bool) → reduce (true ∷ e) (n + k) a ≡ reduce (true ∷ e) k (reduce (true ∷ e) n a)
  unfolding reduce
  reduce_add zero k a = ap (λ (m : ℕ). reduce (true ∷ e) m a) (zero-add k)
  reduce_add (suc n) k a = ap (λ (m : ℕ). reduce (true ∷ e) m a) (suc-add n k) ∙ reduce_add n k (step (true ∷ e) a)
