-- `verdict`: too long first, then the heads decide.
use Rattle.std.proofs.lemmas.Result.{err_from_is_err_and}
use Rattle.swap.proofs.Verdicts.{verdict_long}
use Rattle.swap_write.proofs.Outcomes.{sized_long, sized_within}
use Rattle.swap_write.proofs.verdict.Goals as goal

pub returns-in_err-ok_or : goal.returns-in_err-ok_or
returns-in_err-ok_or c =
    let p = err_from_is_err_and c.from_residual.result c.from_residual.ensures.1 in
    let l = sized_long _ _ _ _ c.file_size.ensures c.ok_or.ensures.value _ c.in_err-ok_or.was in
    rw (p.1, p.2, l.1) (verdict_long _ l.0)

pub judge-requires : goal.judge-requires
judge-requires c = (sized_within _ _ _ _ c.file_size.ensures c.ok_or.ensures.value _ c.in_ok-ok_or.was).0
