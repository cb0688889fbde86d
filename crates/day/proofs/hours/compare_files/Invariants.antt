-- `compare_files` is safe and ends: each search leaves fewer records than there were.
use Rattle.day.proofs.hours.compare_files.Given as goal

abbrev pub decreases-loop-entry : goal.decreases-loop-entry
decreases-loop-entry g l = l.old_cursor.left.0
