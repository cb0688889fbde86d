-- `read`: the groups passed and what is left to read make up what stood at the offset.
use Rattle.number.proofs.Turns.{Going}
use Rattle.number.proofs.read.Given as goal

abbrev pub invariant-loop-groups : goal.invariant-loop-groups
invariant-loop-groups l = Going l.rest l.value l.scale l.groups
