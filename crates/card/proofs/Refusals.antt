-- Every refusal of a card has a number.
use mathlib.Core.Path.{◌≡◌}
use native.Mathlib.Omega.{arith}
use Rattle.numbers.specs.Table.{none}
use Rattle.frame.specs.declared.checks.Fault.TheVariants.{OutOfRange, Crc, Cut, Unknown, Length}
use Rattle.records.proofs.Refusals.{refusal_bounds}
use Rattle.card.specs.declared.Refusal.{Refusal}
use Rattle.card.specs.declared.Refusal.TheVariants.{BadFrame, BroadcastAddress, Write, BrokenRule, WrongCipher, WrongLength, WeakKey}
use Rattle.card.specs.Numbers.{refusal_number}

pub refusal_some : (r : Refusal) → refusal_number r ≡ none → ⊥
refusal_some (BadFrame OutOfRange) e = omega arith
refusal_some (BadFrame Crc) e = omega arith
refusal_some (BadFrame Cut) e = omega arith
refusal_some (BadFrame Unknown) e = omega arith
refusal_some (BadFrame Length) e = omega arith
refusal_some BroadcastAddress e = omega arith
refusal_some (Write refusal) e = omega (arith, refusal_bounds refusal)
refusal_some BrokenRule e = omega arith
refusal_some WrongCipher e = omega arith
refusal_some WrongLength e = omega arith
refusal_some WeakKey e = omega arith
