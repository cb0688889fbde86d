-- Entries of tables, each taken by some bits of a word.
-- Assumes nothing.
use mathlib.Core.Path.{◌≡◌, ap}
use mathlib.Core.List.{List}
use Prim.Native.Nat.{ℕ, ◌/◌, ◌%◌, ◌^◌}
use native.Mathlib.Omega.{arith}
use lib.ListN.{get_or}

-- the lowest bits are taken without a shift
pub unshifted : (table : List ℕ) (n w : ℕ) → get_or table (w % n) 0 ≡ get_or table (w / 2 ^ 0 % n) 0
unshifted table n w = let e : w ≡ w / 2 ^ 0 = omega arith in ap (λ (v : ℕ). get_or table (v % n) 0) e
