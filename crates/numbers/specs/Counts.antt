-- Numbers as counts of octets and counts of characters.
use Rattle.std.specs.Prelude.{ℕ}
use Rattle.numbers.specs.declared.Octets.{Octets}
use Rattle.numbers.specs.declared.Characters.{Characters}

abbrev pub in_octets : ℕ → Octets
in_octets count = record { 0 = count }

abbrev pub in_characters : ℕ → Characters
in_characters count = record { 0 = count }
