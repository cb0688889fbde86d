-- What a test whether a slice is empty tells of its length.
use Prim.Native.Nat.{ℕ, ◌<◌}
use mathlib.Core.Path.{◌≡◌}
use mathlib.Core.Bool.{Bool, true, false}
use Rattle.std.specs.Bool.{◌==◌}
use Rattle.std.proofs.lemmas.Bool.Decides.{nat_tests}
use native.Mathlib.Omega.{arith}

pub filled : (n : ℕ) (b : Bool) → b ≡ n == 0 → b ≡ false → 0 < n
filled n b e f = grind (arith, nat_tests)

pub emptied : (n : ℕ) (b : Bool) → b ≡ n == 0 → b ≡ true → n ≡ 0
emptied n b e t = grind (arith, nat_tests)
