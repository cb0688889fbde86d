-- What a C program gets of a fitting: 01's number and the values beside it.
use Rattle.std.specs.Prelude.{ℕ}
use Rattle.numbers.specs.declared.Octets.{Octets}
use Rattle.numbers.specs.declared.Characters.{Characters}
use Rattle.numbers.specs.Table.{none}
use Rattle.numbers.specs.Answer.{Answer, given, refused, refused_at}

pub record Report : Type 0 where
  pub number : ℕ
  pub octets : ℕ
  pub characters : ℕ

-- 0 with the kept part's two counts; or 8 with the offset, and the character count as it was before
unfoldable pub report : Answer (Octets × Characters) → ℕ → Report
report (given counts) before = record { number = none; octets = counts.0.0; characters = counts.1.0 }
report (refused number) before = record { number = number; octets = 0; characters = before }
report (refused_at number offset) before = record { number = number; octets = offset.0; characters = before }
