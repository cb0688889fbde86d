-- Laws of the octet limit: what accepted data and accepted contents say of a number of octets.
use Prim.Native.Nat.{ℕ, ◌≤◌, ◌<◌}
use mathlib.Core.Bool.{Bool, true, false, cond, ◌||◌}
use mathlib.Core.List.{List}
use mathlib.Core.Path.{◌≡◌, refl}
use native.Mathlib.Omega.{arith}
use lib.Dec.{ltb}
use lib.ListN.{length}
use borrow.Author.Tests.{ltb-false, lt-ltb, le-ltb}
use Rattle.numbers.specs.Table.{none, too_long}
use Rattle.numbers.specs.Answer.{Answer, refused, number_of}
use Rattle.numbers.specs.declared.Characters.{Characters}
use Rattle.numbers.specs.declared.Octets.{Octets}
use Rattle.records.specs.declared.Attributes.{Attributes}
use Rattle.records.specs.Sizes.{most_octets}
use Rattle.records.specs.Judging.{length_of, over_long, kind_answer, acceptable}
use Rattle.records.proofs.Tests.{neither}

module _ (limit octets : Octets) where
  tests : over_long limit octets ≡ false → (ltb most_octets octets.0 ≡ false) × (ltb limit.0 octets.0 ≡ false)
  tests h = neither (ltb most_octets octets.0) (ltb limit.0 octets.0) h

  pub within_storage : over_long limit octets ≡ false → octets.0 ≤ most_octets
  within_storage h = ltb-false _ _ (tests h).0

  pub within_limit : over_long limit octets ≡ false → octets.0 ≤ limit.0
  within_limit h = ltb-false _ _ (tests h).1

  pub not_over_long : octets.0 ≤ most_octets → octets.0 ≤ limit.0 → over_long limit octets ≡ false
  not_over_long h k = rw (le-ltb most_octets octets.0 h, le-ltb limit.0 octets.0 k)

  pub over_limit : limit.0 < octets.0 → over_long limit octets ≡ true
  over_limit h = rw (lt-ltb limit.0 octets.0 h) (either (ltb most_octets octets.0))
    where
      either : (b : Bool) → b || true ≡ true
      either true = refl
      either false = refl

-- an answer without a number passed its first test
pub passed : (b : Bool) (answer : Answer Characters) → number_of (cond b (refused too_long) answer) ≡ none → (b ≡ false) × (number_of answer ≡ none)
passed true answer h = let z : ⊥ = omega arith in absurd z
passed false answer h = (refl, h)

-- accepted data has at most as many octets as the storage, and at most as many as the limit allows
module _ (a : Attributes) (d : List ℕ) (h : number_of (acceptable a d) ≡ none) where
  fitting : over_long a.limit (length_of d) ≡ false
  unfolding acceptable
  fitting = (passed (over_long a.limit (length_of d)) (kind_answer a.kind d) h).0

  pub accepted_fits : length d ≤ most_octets
  accepted_fits = within_storage a.limit (length_of d) fitting

  pub accepted_limit : length d ≤ a.limit.0
  accepted_limit = within_limit a.limit (length_of d) fitting
