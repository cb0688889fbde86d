-- `Tool::perform` goes by the turn.
use mathlib.Core.List.{[]}
use Rattle.tool.proofs.Gives.{gives_nothing, Gives-finished}
use Rattle.tool.specs.Replies.{performed}
use Rattle.tool.proofs.Tool.perform.Goals as goal

pub returns-in-Ok-Drop : goal.returns-in-Ok-Drop
unfolding performed
returns-in-Ok-Drop c = rw (c.in-Ok-Drop.is, rw c.in-Ok-Drop.is at c.in-Ok-Drop.field-0-is) (gives_nothing _ _ _ _ c.hearing.ensures)

pub returns-in-Ok-Read : goal.returns-in-Ok-Read
unfolding performed
returns-in-Ok-Read c = let a = c.args in
    rw (c.in-Ok-Read.is, rw c.in-Ok-Read.is at c.in-Ok-Read.field-0-is) (Gives-finished a.self a.«data».now _ _ (rw c.padded_contents.ensures at c.finished.ensures))

pub returns-in-Ok-End : goal.returns-in-Ok-End
unfolding performed
returns-in-Ok-End c = let a = c.args in
    rw (c.in-Ok-End.is, rw c.in-Ok-End.is at c.in-Ok-End.field-0-is) (Gives-finished a.self [] _ _ (rw c.padded_contents-in-Ok-End.ensures at c.finished-in-Ok-End.ensures))

pub returns-in-Ok-Authenticate : goal.returns-in-Ok-Authenticate
unfolding performed
returns-in-Ok-Authenticate c = rw (c.in-Ok-Authenticate.is, rw c.in-Ok-Authenticate.is at c.in-Ok-Authenticate.field-0-is) c.authenticating.ensures

pub returns-in-Err : goal.returns-in-Err
unfolding performed
returns-in-Err c = rw c.in-Err.is (gives_nothing _ _ _ _ c.over.ensures)
