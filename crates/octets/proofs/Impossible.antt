-- Anything follows where two constructors would be equal, which `cc` shows as 0 ≡ 1.
use Prim.Native.Nat.{ℕ}
use mathlib.Core.Path.{◌≡◌}
use native.Mathlib.Omega.{arith}

pub impossible : {X : Type 0} → ◌≡◌ {A = ℕ} 0 1 → X
impossible z = let f : ⊥ = omega arith in absurd f
