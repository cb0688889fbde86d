-- `Receiver::gap` goes by the reception that the receiver holds, after the test for 12.
use mathlib.Core.Path.{sym, ◌∙◌}
use lib.ListN.{take}
use Rattle.receiver.specs.Receiving.{awaiting, skipping, partial, on_gap}
use Rattle.receiver.specs.Receiver.{answer_to, frame_of, after_gap}
use Rattle.receiver.proofs.Cases.{reception_skipping, reception_awaiting, reception_partial, sound_answered, unsound_answered}
use Rattle.receiver.proofs.Receiver.gap.Goals.{then-self-via-then-self, then-self-via-else-self+then-self-eq0}
use Rattle.receiver.proofs.Receiver.gap.Goals as goal

pub returns-then-not-is_sound : goal.returns-then-not-is_sound
unfolding after_gap
returns-then-not-is_sound c = c.answer.ensures ∙ sym (unsound_answered on_gap c.args.self (sym c.if-not-is_sound.ensures))

pub returns-then-self : goal.returns-then-self
unfolding after_gap on_gap answer_to frame_of
returns-then-self c =
    let r = c.args.self in
    let sound = sym c.if-not-is_sound.ensures in
    elim c.then-self.branch [
      | then-self-via-then-self w ↦ rw (sound_answered on_gap r skipping sound (reception_skipping r w.if-self.true), c.answer-then-self.ensures, c.empty.ensures)
      | then-self-via-else-self+then-self-eq0 w ↦ rw (sound_answered on_gap r awaiting sound (reception_awaiting r w.if-self.false w.if-self-eq0.true), c.answer-then-self.ensures, c.empty.ensures)
    ]

pub returns : goal.returns
unfolding after_gap on_gap answer_to frame_of
returns c =
    let r = c.args.self in
    rw (sound_answered on_gap r (partial (take r.count.0 r.octets)) (sym c.if-not-is_sound.ensures) (reception_partial r c.if-self.false c.if-self-eq0.false), c.answer-2.ensures, c.empty-2.ensures)
