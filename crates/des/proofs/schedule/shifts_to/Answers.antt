-- `schedule::shifts_to` meets its contract: the shifts up to the round whose key it is.
-- Assumes nothing.
use Prim.Native.Nat.{◌-◌}
use native.Mathlib.Omega.{arith}
use Rattle.des.proofs.KeySchedule.{key_halves_at}
use Rattle.des.proofs.schedule.shifts_to.Goals as goal

pub returns-then-deciphering : goal.returns-then-deciphering
returns-then-deciphering c = let s = c in
    let at = key_halves_at (17 - s.args.n) c.shifts_up_to.result (omega arith) c.shifts_up_to.ensures in
    (at.0, λ key. rw c.if-deciphering.true (at.1 key))

pub returns-else-deciphering : goal.returns-else-deciphering
returns-else-deciphering c = let s = c in
    let at = key_halves_at s.args.n c.shifts_up_to-else-deciphering.result (omega arith) c.shifts_up_to-else-deciphering.ensures in
    (at.0, λ key. rw c.if-deciphering.false (at.1 key))
