-- `octets::put` meets its contract: after i turns the first i octets of src are laid over dst, and at the end all of them; where src does not fit, `spliced` is dst itself.
use Rattle.octets.proofs.Laying.{Laying}
use Rattle.octets.proofs.put.Given as goal

abbrev pub invariant-loop-i : goal.invariant-loop-i
invariant-loop-i l = Laying l.initial.dst l.at l.src l.dst l.i
