-- `contents_answers`: the answer of the rest is the answer of the whole.
use mathlib.Core.Path.{sym, ap, ◌∙◌}
use native.Mathlib.Numerals.{add-one}
use native.Mathlib.Omega.{arith}
use Rattle.std.proofs.lemmas.Result.{err_from_is_err_and}
use Rattle.numbers.specs.Answer.{Answer, number_of}
use Rattle.numbers.specs.declared.Characters.{Characters}
use Rattle.records.specs.Numbers.{refusal_number}
use Rattle.records.specs.Setup.{contents_number}
use Rattle.records.proofs.Refusals.{refusal_bounds}
use Rattle.records.proofs.Walks.{contents_pass, contents_stop, contents_end}
use Rattle.records.proofs.Records.contents_answers.Goals as goal

pub returns-in_err-contents_answer : goal.returns-in_err-contents_answer
returns-in_err-contents_answer c = let p = err_from_is_err_and c.from_residual.result c.from_residual.ensures.1 in
    let refusal = c.in_err-contents_answer.field-0.0 in
    let number = sym (ap (λ (a : Answer Characters). number_of a) c.in_err-contents_answer.ensures) in
    let whole = ap contents_number c.used-record-items.ensures in
    let stop = contents_stop c.used-record-items.result.now c.loop-record.record-index (omega arith) (refusal_number refusal) number (omega (arith, (refusal_bounds refusal).0)) in
    rw (p.1, p.2) (sym (sym whole ∙ c.loop-record.invariant ∙ stop))

pub loop-record-preserved : goal.loop-record-preserved
loop-record-preserved c =
    let accepted = sym (ap (λ (a : Answer Characters). number_of a) c.in_ok-contents_answer.ensures) in
    rw add-one (c.loop-record.invariant ∙ contents_pass c.used-record-items.result.now c.loop-record.record-index (omega arith) accepted)

pub returns : goal.returns
returns c =
    let whole = ap contents_number c.used-record-items.ensures in
    sym (sym whole ∙ c.loop-record.invariant ∙ contents_end c.used-record-items.result.now c.loop-record.record-index (omega arith))
