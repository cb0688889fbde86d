-- `Receiver::extend` holds the octet while fewer octets than N states have come, and else has the frame checked.
use Prim.Native.Nat.{◌≤◌, ◌<◌}
use mathlib.Core.Path.{sym, ap, ◌∙◌}
use native.Mathlib.Omega.{arith}
use lib.ListN.{length, get_or}
use Rattle.receiver.specs.Receiver.{held_with, stepped, answer_to, frame_of}
use Rattle.receiver.proofs.Lengths.{octets_length}
use Rattle.receiver.proofs.Growth.{grown_more, grown_whole, length_held, first_held}
use Rattle.receiver.proofs.Receiver.extend.Goals.{Start}
use Rattle.receiver.proofs.Receiver.extend.Goals as goal

within : (c : Start) → c.args.self.count.0 ≤ length c.args.self.octets
within c = omega (arith, c.requires.1, octets_length c.args.self _ c.well_formed.0)

pub returns-then-self-whole : goal.returns-then-self-whole
unfolding answer_to frame_of
returns-then-self-whole c =
    let n = c.args.self.count.0 in
    let l = c.args.self.octets in
    let o = c.args.octet in
    let s = held_with c.args.self o in
    let w = within (goal.at.returns-then-self-whole c).Start in
    let more : length s < get_or s 0 0 = rw (length_held n l o w, first_held n l o w c.requires.0, ← c.from-whole.ensures) c.if-self-whole.true in
    rw (grown_more s more, c.answer.ensures, c.hold.ensures)

pub returns-else-self-whole : goal.returns-else-self-whole
returns-else-self-whole c =
    let n = c.args.self.count.0 in
    let l = c.args.self.octets in
    let o = c.args.octet in
    let s = held_with c.args.self o in
    let w = within (goal.at.returns-else-self-whole c).Start in
    let whole : get_or s 0 0 ≤ length s = rw (length_held n l o w, first_held n l o w c.requires.0, ← c.from-whole.ensures) c.if-self-whole.false in
    c.complete.ensures ∙ sym (ap (stepped c.args.self) (grown_whole s whole))
