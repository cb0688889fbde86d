-- `Decimal::of` meets its contract: the digits of what is left stand before those that are laid.
use Rattle.text.proofs.Digits.{Laid}
use Rattle.text.proofs.Decimal.of.Given as goal

abbrev pub invariant-loop-rest : goal.invariant-loop-rest
invariant-loop-rest l = Laid l.n l.rest l.from l.digits

abbrev pub decreases-loop-rest : goal.decreases-loop-rest
decreases-loop-rest l = l.rest
