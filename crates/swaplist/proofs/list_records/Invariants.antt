-- `list_records` is safe and ends: each record counts the cursor down.
use Rattle.swaplist.proofs.list_records.Given as goal

abbrev pub decreases-loop-entry : goal.decreases-loop-entry
decreases-loop-entry g l = l.cursor.left.0
