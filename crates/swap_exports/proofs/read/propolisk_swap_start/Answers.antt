-- `propolisk_swap_start`: the first cursor or the offset in three cells.
use mathlib.Core.Path.{sym, ap, ◌∙◌}
use Rattle.swap.specs.Cursor.{answer_of_started}
use Rattle.swap_exports.proofs.Outcomes.{started_first, started_fault}
use Rattle.swap_exports.proofs.read.propolisk_swap_start.Goals as goal

pub returns-in-Ok : goal.returns-in-Ok
returns-in-Ok c = started_first _ _ _ _ _ (sym (ap answer_of_started c.in-Ok.is) ∙ c.start.ensures)

pub returns-in-Err : goal.returns-in-Err
returns-in-Err c = started_fault _ _ _ _ _ _ (sym (ap answer_of_started c.in-Err.is) ∙ c.start.ensures)
