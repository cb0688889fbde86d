-- `list_records` is safe and ends: each record counts the cursor down.
use mathlib.Core.Path.{sym}
use native.Mathlib.Omega.{arith}
use Rattle.swap.proofs.Walking.{next_left}
use Rattle.swaplist.proofs.list_records.Goals as goal

pub loop-entry-smaller : goal.loop-entry-smaller
loop-entry-smaller g c = omega (arith, next_left c.args.file.now c.loop-entry.cursor _ _ (sym (rw (c.in-Ok-Some.is, c.in-Ok-Some.field-0-is) at c.next.ensures)))
