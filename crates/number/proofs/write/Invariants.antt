-- `write`: at each turn the octets laid and the form of what is left make up the form of the number.
use Rattle.std.proofs.Common.{◌-◌}
use Rattle.number.proofs.Laying.{Laid}
use Rattle.number.proofs.write.Given as goal

abbrev pub invariant-loop-next : goal.invariant-loop-next
invariant-loop-next l = Laid l.initial.octets l.fn.at.0 l.n l.octets l.rest (l.next - l.fn.at.0)
