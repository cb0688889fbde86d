-- `next_asked`: a record that is not wanted is passed over, and the answer from the next cursor on is the same.
use mathlib.Core.Path.{◌≡◌}
use Rattle.swap.specs.Station.{next_asked}
use Rattle.swap.proofs.station.next_asked.Given as goal

abbrev pub invariant-loop-entry : goal.invariant-loop-entry
invariant-loop-entry l = next_asked l.asked l.ads l.file l.cursor ≡ next_asked l.asked l.ads l.file l.initial.cursor

abbrev pub decreases-loop-entry : goal.decreases-loop-entry
decreases-loop-entry l = l.cursor.left.0
