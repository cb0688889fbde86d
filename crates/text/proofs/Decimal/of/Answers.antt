-- `Decimal::of` meets its contract: the digits of what is left stand before those that are laid.
use mathlib.Core.Path.{refl}
use Rattle.text.proofs.Digits.{none_laid, digit_laid, all_laid}
use Rattle.text.proofs.Decimal.of.Goals as goal

pub loop-rest-init : goal.loop-rest-init
loop-rest-init c = none_laid _ _ c.ranges.n.fits refl

pub overflow_sub-from : goal.overflow_sub-from
overflow_sub-from c = c.loop-rest.invariant.some

pub loop-rest-preserved : goal.loop-rest-preserved
loop-rest-preserved c = digit_laid _ _ _ _ c.loop-rest.invariant c.loop-rest-test.true

pub returns : goal.returns
returns c = let l = c.loop-rest in all_laid _ _ _ _ l.invariant c.loop-rest-test.false
