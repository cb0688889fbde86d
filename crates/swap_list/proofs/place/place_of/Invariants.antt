-- `place_of`: what was passed and the place among the heads left make up the place.
use Prim.Native.Nat.{◌-◌}
use Rattle.swap_list.proofs.Placing.{Sought}
use Rattle.swap_list.proofs.place.place_of.Given as goal

abbrev pub invariant-loop-passed : goal.invariant-loop-passed
invariant-loop-passed l = Sought l.heads l.least (l.count - l._passed) l.place.head l.place.from
