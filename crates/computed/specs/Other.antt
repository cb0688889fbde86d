-- The arm of a match that is left where every number below n has an arm of its own.
-- Assumes nothing.
use Rattle.std.specs.Prelude.{◌≢◌, ℕ, zero, suc}

-- v is none of the numbers below n
abbrev pub Other : ℕ → ℕ → Type 0
Other zero v = Unit {0}
Other (suc n) v = Other n v × (v ≢ n)
