-- `play` is safe and ends: each call takes an octet or more, so what is left of the input falls.
use Rattle.history.proofs.Decoding.{fewer_left, some_left}
use Rattle.cardlog.proofs.calls.play.Goals as goal

pub loop-calls-smaller : goal.loop-calls-smaller
loop-calls-smaller g c = fewer_left c.loop-calls.calls.now _ (some_left _ c.loop-calls-test.ensures) c.split_call.ensures.rest
