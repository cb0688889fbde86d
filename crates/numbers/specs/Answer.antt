-- What a call answers, in the terms of 01, Numbers handed back.
use Rattle.std.specs.Prelude.{ℕ}
use Rattle.numbers.specs.declared.Octets.{Octets}
use Rattle.numbers.specs.Table.{none}

-- values and no number, a number, or a number with an offset
pub data Answer (Values : Type 0) : Type 0 where
  given : Values → Answer Values
  refused : ℕ → Answer Values
  refused_at : ℕ → Octets → Answer Values

-- the number handed back
abbrev pub number_of : {Values : Type 0} → Answer Values → ℕ
number_of (given values) = none
number_of (refused n) = n
number_of (refused_at n offset) = n

-- what is given goes on to the next test, and a refusal stands
unfoldable pub when_given : {Values Next : Type 0} → Answer Values → (Values → Answer Next) → Answer Next
when_given (given values) next = next values
when_given (refused n) next = refused n
when_given (refused_at n offset) next = refused_at n offset
