-- `octets::put_reversed` meets its contract: the loop of `put` over the reversed list, whose i-th octet is read from the end of src.
use mathlib.Core.Path.{sym}
use native.Mathlib.Omega.{arith}
use lib.ListN.{length-reverse}
use Rattle.octets.proofs.Laying.{start, as_long, next, end, get_or-reverse}
use Rattle.octets.proofs.Splice.{spliced_past}
use Rattle.octets.proofs.put_reversed.Goals as goal

pub returns-then-dst-src : goal.returns-then-dst-src
returns-then-dst-src c = sym (spliced_past _ _ _ (rw length-reverse (omega arith)))

pub returns-then-dst-src-2 : goal.returns-then-dst-src-2
returns-then-dst-src-2 c = sym (spliced_past _ _ _ (rw length-reverse (omega arith)))

pub loop-i-init : goal.loop-i-init
loop-i-init c = start _ _ _ (rw length-reverse (omega arith))

pub bounds-dst-at : goal.bounds-dst-at
bounds-dst-at c = omega (arith, as_long c.loop-i.invariant, length-reverse c.args.src.now, c.loop-i.invariant.fits)

pub loop-i-preserved : goal.loop-i-preserved
loop-i-preserved c = let l = c.loop-i in
    let s = c.args.src.now in
    next l.invariant _ (rw length-reverse (omega arith)) (sym (get_or-reverse s l.i (omega arith)))

pub shape_of-dst : goal.shape_of-dst
shape_of-dst c = as_long c.loop-i.invariant

pub returns : goal.returns
returns c = end c.loop-i.invariant (rw length-reverse (omega arith))
