-- `propolisk_swap_verdict`: the verdict in two cells.
use mathlib.Core.Path.{sym, ap, ◌∙◌}
use Rattle.swap.specs.Reading.{answer_of_verdict}
use Rattle.swap_exports.proofs.Outcomes.{judged_given, judged_refused}
use Rattle.swap_exports.proofs.read.propolisk_swap_verdict.Goals as goal

pub returns-in-Ok : goal.returns-in-Ok
returns-in-Ok c = judged_given _ _ _ _ (sym (ap answer_of_verdict c.in-Ok.is) ∙ c.judge.ensures)

pub returns-in-Err : goal.returns-in-Err
returns-in-Err c = judged_refused _ _ _ _ _ (sym (ap answer_of_verdict c.in-Err.is) ∙ c.judge.ensures)
