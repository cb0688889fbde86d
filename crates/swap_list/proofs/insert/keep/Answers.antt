-- `keep`: the verdict decides whether the arrays are written.
use mathlib.Core.Path.{sym, ap, ◌∙◌}
use Rattle.std.proofs.lemmas.Result.{err_from_is_err_and}
use Rattle.swap.specs.Reading.{answer_of_verdict}
use Rattle.swap_list.proofs.Keeping.{taken_refused, taken_given}
use Rattle.swap_list.proofs.insert.keep.Goals as goal

pub returns-in_err-records : goal.returns-in_err-records
returns-in_err-records c =
    let p = err_from_is_err_and c.from_residual.result c.from_residual.ensures.1 in
    rw (p.1, p.2) (taken_refused _ _ _ _ _ _ (sym (ap answer_of_verdict c.in_err-records.was) ∙ c.verdict.ensures))

pub returns : goal.returns
returns c =
    taken_given _ _ _ _ _ _ _ (sym (ap answer_of_verdict c.in_ok-records.was) ∙ c.verdict.ensures) (λ j. (c.type_inv.new_heads j).fits) c.requires.0 c.requires.1 c.requires.2 c.put.ensures c.put-2.ensures
