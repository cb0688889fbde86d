-- `put_digits` meets its contract: after each turn the digits of the octets so far are laid.
use mathlib.Core.Path.{refl}
use Rattle.text.proofs.Hexadecimal.{start, as_long, turn, end}
use native.Mathlib.Omega.{arith}
use Rattle.text.proofs.put_digits.Goals as goal

pub loop-octet-init : goal.loop-octet-init
loop-octet-init c = start _ _ _ c.requires

pub overflow_add-next : goal.overflow_add-next
overflow_add-next c = let l = c.loop-octet in omega (arith, l.invariant.place, l.invariant.fits)

pub loop-octet-preserved : goal.loop-octet-preserved
loop-octet-preserved c = let l = c.loop-octet in
    rw (c.put.ensures, c.digit-in-loop-octet.ensures, c.digit.ensures)
    (turn l.invariant _ (omega arith) refl)

pub shape_of-buffer : goal.shape_of-buffer
shape_of-buffer c = as_long c.loop-octet.invariant

pub returns : goal.returns
returns c = end c.loop-octet.invariant (omega arith)
