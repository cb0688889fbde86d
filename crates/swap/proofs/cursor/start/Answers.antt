-- `start`: the verdict, and the place after the count of an accepted file.
use mathlib.Core.Path.{sym, ap, ◌∙◌}
use Rattle.std.proofs.lemmas.Result.{err_from_is_err_and}
use Rattle.swap.specs.Reading.{answer_of_verdict}
use Rattle.swap.proofs.RoundTrip.{accepted_encoding}
use Rattle.swap.proofs.Cursors.{start_faulty, start_first}
use native.Mathlib.Omega.{arith}
use Rattle.swap.proofs.cursor.start.Goals as goal

pub overflow_cast-left : goal.overflow_cast-left
overflow_cast-left c =
    let a = accepted_encoding c.args.file.now _ (λ i. (c.type_inv.file i).fits) (sym c.judge.ensures ∙ ap answer_of_verdict c.in_ok-left.was) in
    let few = a.2.few in
    let counted = a.3 in
    record { fits = omega arith }

pub returns-in_err-left : goal.returns-in_err-left
returns-in_err-left c =
    let p = err_from_is_err_and c.from_residual.result c.from_residual.ensures.1 in
    rw (p.1, p.2) (start_faulty _ _ (sym (ap answer_of_verdict c.in_err-left.was) ∙ c.judge.ensures))

pub returns : goal.returns
returns c = start_first _ _ _ (sym (ap answer_of_verdict c.in_ok-left.was) ∙ c.judge.ensures) c.width.ensures
