-- `Tool::on_frame` drops a frame that is not expected.
use Rattle.tool.proofs.Gives.{gives_nothing}
use mathlib.Core.Path.{sym, ◌∙◌}
use Rattle.tool.specs.Replies.{on_frame}
use Rattle.tool.proofs.Tool.on_frame.Goals as goal

pub returns-then-not-expected : goal.returns-then-not-expected
unfolding on_frame
returns-then-not-expected c = rw (sym c.expected.ensures ∙ c.if-not-expected.true) (gives_nothing _ _ _ _ c.hearing.ensures)
