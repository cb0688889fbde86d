-- What the answer of a check, passed or not by a test, tells of the test.
use mathlib.Core.Path.{◌≡◌, refl}
use mathlib.Core.Bool.{Bool, true, false, cond}
use Rattle.frame.specs.declared.checks.Check.{Check}
use Rattle.frame.specs.declared.checks.Check.TheVariants.{Passes, Fails}

pub passed : (t : Bool) {a : Check} → a ≡ cond t Passes Fails → a ≡ Passes → t ≡ true
passed true e told = refl
passed false e told = cc

pub failed : (t : Bool) {a : Check} → a ≡ cond t Passes Fails → a ≡ Fails → t ≡ false
failed true e told = cc
failed false e told = refl
