-- `Receiver::complete` has the frame checked: the part that is lent is what was held with the last octet.
use Prim.Native.Nat.{◌≤◌, ◌+◌}
use mathlib.Core.Path.{◌≡◌, ap, ◌∙◌}
use native.Mathlib.Omega.{arith}
use lib.ListN.{length, take}
use Rattle.frame.specs.Checks.{answer_of_verdict, judged}
use Rattle.receiver.specs.Receiving.{judged_outcome}
use Rattle.receiver.specs.Receiver.{held_with, answer_to, frame_of}
use Rattle.receiver.proofs.Lengths.{octets_length}
use Rattle.receiver.proofs.Growth.{whole_front}
use Rattle.receiver.proofs.Receiver.complete.Goals.{After-judge}
use Rattle.receiver.proofs.Receiver.complete.Goals as goal

-- the verdict is the one on the octets held with the last one
judged_held : (c : After-judge) → answer_of_verdict c.judge.result ≡ judged (held_with c.args.self c.args.octet)
judged_held c =
    let n = c.args.self.count.0 in
    let within : n ≤ length c.args.self.octets = omega (arith, octets_length c.args.self _ c.well_formed.0) in
    c.judge.ensures ∙ ap judged (ap (take (n + 1)) c.whole-frame.ensures ∙ whole_front n c.args.self.octets c.args.octet within)

pub returns-in-Ok : goal.returns-in-Ok
unfolding judged_outcome answer_to frame_of
returns-in-Ok c = rw (← judged_held (goal.at.returns-in-Ok c).After-judge, c.in-Ok.is, c.empty-receiver.ensures, c.whole-frame.ensures)

pub returns-in-Err : goal.returns-in-Err
unfolding judged_outcome answer_to frame_of
returns-in-Err c = rw (← judged_held (goal.at.returns-in-Err c).After-judge, c.in-Err.is, c.answer.ensures, c.empty-receiver.ensures)
