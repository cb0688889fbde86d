-- `octets::put_reversed` meets its contract: the loop of `put` over the reversed list, whose i-th octet is read from the end of src.
use mathlib.Core.List.{reverse}
use Rattle.octets.proofs.Laying.{Laying}
use Rattle.octets.proofs.put_reversed.Given as goal

abbrev pub invariant-loop-i : goal.invariant-loop-i
invariant-loop-i l = Laying l.initial.dst l.at (reverse l.src) l.dst l.i
