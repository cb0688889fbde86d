-- `schedule::round_key` meets its contract: permuted choice 2, with gaps, of C0 and D0 after the left shifts up to the round's own key.
-- Assumes nothing.
use Rattle.des.specs.Des.{key_halves, round_key}
use Rattle.des.proofs.KeySchedule.{length-key_halves}
use Rattle.des.proofs.RoundKeys.{shifted_key}
use Rattle.des.proofs.schedule.round_key.Goals as goal

pub returns : goal.returns
unfolding round_key
returns c = λ key held.
    let a = c.args in
    let s = c.shifts_to-behind in
    rw c.with_gaps.ensures
    (rw (s.ensures.1 key) at (shifted_key (key_halves key 0) s.result a.c a.d (length-key_halves key 0) s.ensures.0 held.first held.second))
