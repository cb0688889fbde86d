-- `next`: what stands at the cursor, judged anew, and the cursor after it.
use mathlib.Core.Path.{sym, ◌∙◌}
use Rattle.swap.proofs.Cursors.{next_end, next_past, next_none, next_record, entry_within}
use native.Mathlib.Omega.{arith}
use Rattle.swap.proofs.cursor.Cursor.next.Goals as goal

pub returns-then-self-eq0 : goal.returns-then-self-eq0
returns-then-self-eq0 c = let a = c.args in next_end a.file.now a.self c.if-self-eq0.true

pub returns-then-file-self : goal.returns-then-file-self
returns-then-file-self c = let a = c.args in next_past a.file.now a.self c.if-self-eq0.false c.if-file-self.true

pub overflow_add-after : goal.overflow_add-after
overflow_add-after c = let a = c.args in
    omega (arith, entry_within a.file.now a.self.at.0 c.in-Ok.entry c.if-file-self.false (sym c.item_at.ensures ∙ c.in-Ok.is), c.well_formed)

pub returns-in_default : goal.returns-in_default
returns-in_default c = let a = c.args in
    next_none a.file.now a.self c.if-self-eq0.false _ (sym c.item_at.ensures ∙ c.in_default.is)

pub returns : goal.returns
returns c = let a = c.args in
    next_record a.file.now a.self c.if-self-eq0.false c.in-Ok.entry (sym c.item_at.ensures ∙ c.in-Ok.is)
