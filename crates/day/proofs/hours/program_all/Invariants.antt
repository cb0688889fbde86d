-- `program_all` is safe and ends: each search leaves fewer records than there were.
use Rattle.day.proofs.hours.program_all.Given as goal

abbrev pub decreases-loop-entry : goal.decreases-loop-entry
decreases-loop-entry g l = l.cursor.left.0
