-- `replay` sets up and runs the history over the memory that setup leaves: demand 3's law then gives the claim.
use borrow.Author.Rules.{rules}
use Rattle.memory_history.specs.Encoding.{entries_of}
use Rattle.memory_history.proofs.Replayed.{replayed}
use Rattle.memory_history.proofs.replay.Goals as goal

pub returns : goal.returns
unfolding entries_of
returns c = replayed _ _ _ _ _ _ (λ i. search rules) _ _ _ _ c.padded.ensures c.propolisk_card_setup-number.ensures c.run.ensures
