-- `octets::put` meets its contract: after i turns the first i octets of src are laid over dst, and at the end all of them; where src does not fit, `spliced` is dst itself.
use mathlib.Core.Path.{refl, sym}
use native.Mathlib.Omega.{arith}
use Rattle.octets.proofs.Laying.{start, as_long, next, end}
use Rattle.octets.proofs.Splice.{spliced_past}
use Rattle.octets.proofs.put.Goals as goal

pub returns-then-dst-src : goal.returns-then-dst-src
returns-then-dst-src c = sym (spliced_past _ _ _ (omega arith))

pub returns-then-dst-src-2 : goal.returns-then-dst-src-2
returns-then-dst-src-2 c = sym (spliced_past _ _ _ (omega arith))

pub loop-i-init : goal.loop-i-init
loop-i-init c = start _ _ _ (omega arith)

pub bounds-dst-at : goal.bounds-dst-at
bounds-dst-at c = omega (arith, as_long c.loop-i.invariant)

pub loop-i-preserved : goal.loop-i-preserved
loop-i-preserved c = let l = c.loop-i in next l.invariant _ (omega arith) refl

pub shape_of-dst : goal.shape_of-dst
shape_of-dst c = as_long c.loop-i.invariant

pub returns : goal.returns
returns c = end c.loop-i.invariant (omega arith)
