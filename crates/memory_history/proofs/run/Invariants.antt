-- The calls that are left end as the whole history does.
use mathlib.Core.Path.{◌≡◌}
use lib.ListN.{length}
use Rattle.memory_history.specs.Claim.{run}
use Rattle.memory_history.specs.Encoding.{memory_calls_of}
use Rattle.memory_history.proofs.run.Given as goal

abbrev pub invariant-loop-history : goal.invariant-loop-history
invariant-loop-history l = run l.initial.memory (memory_calls_of l.initial.history) ≡ run l.memory (memory_calls_of l.history)

abbrev pub decreases-loop-history : goal.decreases-loop-history
decreases-loop-history l = length l.history
