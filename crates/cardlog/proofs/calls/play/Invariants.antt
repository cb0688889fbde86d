-- `play` is safe and ends: each call takes an octet or more, so what is left of the input falls.
use Rattle.std.proofs.Common.{length}
use Rattle.cardlog.proofs.calls.play.Given as goal

abbrev pub decreases-loop-calls : goal.decreases-loop-calls
decreases-loop-calls g l = length l.calls
