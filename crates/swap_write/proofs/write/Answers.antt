-- `write`: too long first, then the first bad item, then a buffer too short; else the file is laid.
use mathlib.Core.Path.{sym, ap, ◌∙◌}
use Rattle.std.proofs.lemmas.Result.{err_from_is_err_and}
use Rattle.numbers.specs.declared.Octets.{Octets}
use Rattle.numbers.specs.Counts.{in_octets}
use Rattle.numbers.specs.Answer.{given}
use Rattle.numbers.specs.Table.{faulty_file}
use Rattle.swap.specs.Record.{file_limit}
use Rattle.swap.specs.Reading.{answer_of_verdict}
use Rattle.swap.proofs.Verdicts.{verdict_long}
use Rattle.swap_write.specs.Heads.{file_of}
use Rattle.swap_write.specs.Writing.{Outcome}
use Rattle.swap_write.proofs.Outcomes.{writing-refused, writing_short, writing_whole, sized_long, sized_within}
use Rattle.swap_write.proofs.write.Goals as goal

pub returns-in_err-length : goal.returns-in_err-length
returns-in_err-length c = let a = c.args in
    let p = err_from_is_err_and c.from_residual.result c.from_residual.ensures.1 in
    let l = sized_long _ _ _ _ c.file_size.ensures c.ok_or.ensures.value _ c.in_err-length.was in
    let e = writing-refused a.heads.now a.contents.now a.buffer.now faulty_file (in_octets file_limit) (verdict_long (file_of a.heads.now a.contents.now) l.0) in
    rw (p.1, p.2, l.1) (ap (λ (o : Outcome). o.answer) e, ap (λ (o : Outcome). o.buffer) e)

pub judge-requires : goal.judge-requires
judge-requires c = (sized_within _ _ _ _ c.file_size.ensures c.ok_or.ensures.value _ c.in_ok-length.was).0

pub returns-in_err-judge : goal.returns-in_err-judge
returns-in_err-judge c = let a = c.args in
    let p = err_from_is_err_and c.from_residual-in_err-judge.result c.from_residual-in_err-judge.ensures.1 in
    let e = writing-refused a.heads.now a.contents.now a.buffer.now faulty_file _ (sym (ap answer_of_verdict c.in_err-judge.was) ∙ c.judge.ensures) in
    rw (p.1, p.2) (ap (λ (o : Outcome). o.answer) e, ap (λ (o : Outcome). o.buffer) e)

pub returns-then-buffer-length : goal.returns-then-buffer-length
returns-then-buffer-length c = let a = c.args in
    let l = (sized_within _ _ _ _ c.file_size.ensures c.ok_or.ensures.value _ c.in_ok-length.was).1 in
    let e = writing_short a.heads.now a.contents.now a.buffer.now _ (sym (ap answer_of_verdict c.in_ok-judge.was) ∙ c.judge.ensures) (rw (ap (λ (o : Octets). o.0) l) at c.if-buffer-length.true) in
    (ap (λ (o : Outcome). o.answer) e, ap (λ (o : Outcome). o.buffer) e)

pub lay-requires-clause-contents_in_bounds : goal.lay-requires-clause-contents_in_bounds
lay-requires-clause-contents_in_bounds c =
    let l = (sized_within _ _ _ _ c.file_size.ensures c.ok_or.ensures.value _ c.in_ok-length.was).1 in
    rw (ap (λ (o : Octets). o.0) l) at c.if-buffer-length.false

pub returns : goal.returns
returns c = let a = c.args in
    let l = (sized_within _ _ _ _ c.file_size.ensures c.ok_or.ensures.value _ c.in_ok-length.was).1 in
    let e = writing_whole a.heads.now a.contents.now a.buffer.now _ (sym (ap answer_of_verdict c.in_ok-judge.was) ∙ c.judge.ensures) (rw (ap (λ (o : Octets). o.0) l) at c.if-buffer-length.false) in
    (ap (λ (o : Octets). given o) l ∙ ap (λ (o : Outcome). o.answer) e, c.lay.ensures ∙ ap (λ (o : Outcome). o.buffer) e)
