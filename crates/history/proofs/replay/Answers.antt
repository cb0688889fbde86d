-- `replay` runs the history over the card that setup hands back: demand 3's law then gives the claim.
use Rattle.history.proofs.History.{owned_arrays, replayed}
use Rattle.history.proofs.replay.Goals as goal

pub returns : goal.returns
returns c = replayed _ _ c.args.records (owned_arrays c.args.records _ c.well_formed.1.1.0) _ c.setup-start.result c.setup-start.ensures c.run.result c.run.ensures
