-- `compare_files` is safe and ends: each search leaves fewer records than there were.
use mathlib.Core.Path.{sym}
use Rattle.swap.proofs.Stations.{asked_left}
use Rattle.day.proofs.hours.compare_files.Goals as goal

pub loop-entry-smaller : goal.loop-entry-smaller
loop-entry-smaller g c = asked_left _ _ _ _ _ _ (sym (rw (c.in-Ok-Some.is, c.in-Ok-Some.field-0-is) at c.next_for.ensures))
