-- `propolisk_swap_write`: the writer's answer in two cells.
use mathlib.Core.Path.{sym, ap, ◌∙◌}
use Rattle.std.specs.Prelude.{Err}
use Rattle.swap_write.specs.declared.Refusal.{Refusal}
use Rattle.swap_write.specs.Writing.{answer_of_written}
use Rattle.swap_exports.proofs.Outcomes.{written_whole, written_fault, written_short}
use Rattle.swap_exports.proofs.write.propolisk_swap_write.Goals as goal

pub returns-in-Ok : goal.returns-in-Ok
returns-in-Ok c = let w = c.write.ensures in written_whole _ _ _ _ _ w.1 _ (sym (ap answer_of_written c.in-Ok.is) ∙ w.0)

pub returns-in-Err-Fault : goal.returns-in-Err-Fault
returns-in-Err-Fault c = let w = c.write.ensures in written_fault _ _ _ _ _ w.1 _ _ (sym (ap answer_of_written (c.in-Err-Fault.is ∙ ap (λ (r : Refusal). Err r) c.in-Err-Fault.field-0-is)) ∙ w.0)

pub returns-in-Err-Short : goal.returns-in-Err-Short
returns-in-Err-Short c = let w = c.write.ensures in written_short _ _ _ _ _ w.1 _ (sym (ap answer_of_written (c.in-Err-Short.is ∙ ap (λ (r : Refusal). Err r) c.in-Err-Short.field-0-is)) ∙ w.0)
