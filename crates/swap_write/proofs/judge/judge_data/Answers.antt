-- `judge_data`: each way out is a case of the definition.
use mathlib.Core.Path.{sym, ◌∙◌}
use Rattle.number.proofs.Laying.{encoded_short}
use Rattle.swap_write.proofs.Headed.{data_long, data_cut, data_ill, data_good}
use native.Mathlib.Omega.{arith}
use Rattle.swap_write.proofs.judge.judge_data.Goals.{then-contents-stated-via-then-contents-stated, then-contents-stated-via-else-contents-stated+then-not-fits_kind}
use Rattle.swap_write.proofs.judge.judge_data.Goals as goal

pub returns-then-length_limit-stated : goal.returns-then-length_limit-stated
returns-then-length_limit-stated c = let a = c.args in
    data_long a.kind a.stated.0 a.contents.now (rw (← c.length_limit.ensures) c.if-length_limit-stated.true)

pub overflow_add-result : goal.overflow_add-result
overflow_add-result c = omega (arith, c.width_of.ensures, encoded_short c.args.stated.0)

pub returns-then-contents-stated : goal.returns-then-contents-stated
returns-then-contents-stated c = let a = c.args in
    rw c.width_of.ensures
    (elim c.then-contents-stated.branch [
      | then-contents-stated-via-then-contents-stated w ↦ data_cut a.kind a.stated.0 a.contents.now (rw (← c.length_limit.ensures) c.if-length_limit-stated.false) w.if-contents-stated.true
      | then-contents-stated-via-else-contents-stated+then-not-fits_kind w ↦ data_ill a.kind a.stated.0 a.contents.now (rw (← c.length_limit.ensures) c.if-length_limit-stated.false) (sym w.fits_kind.ensures ∙ w.if-not-fits_kind.true)
    ])

pub returns : goal.returns
returns c = let a = c.args in
    data_good a.kind a.stated.0 a.contents.now (rw (← c.length_limit.ensures) c.if-length_limit-stated.false) c.if-contents-stated.false (sym c.fits_kind.ensures ∙ c.if-not-fits_kind.false)
