-- `Receiver::octet` goes by the reception that the receiver holds, after the test for 12.
use Prim.Native.Nat.{◌<◌}
use mathlib.Core.Path.{sym, ◌∙◌}
use native.Mathlib.Omega.{arith}
use lib.ListN.{take}
use Rattle.receiver.specs.Receiving.{awaiting, skipping, partial, on_octet}
use Rattle.receiver.specs.Receiver.{answer_to, frame_of, after_octet}
use Rattle.receiver.proofs.Soundness.{test_sound}
use Rattle.receiver.proofs.Cases.{reception_skipping, reception_awaiting, reception_partial, still_skipping, sound_answered, unsound_answered}
use Rattle.receiver.proofs.Receiver.octet.Goals as goal

pub returns-then-not-is_sound : goal.returns-then-not-is_sound
unfolding after_octet
returns-then-not-is_sound c = c.answer.ensures ∙ sym (unsound_answered (on_octet c.args.octet) c.args.self (sym c.if-not-is_sound.ensures))

pub returns-then-self : goal.returns-then-self
unfolding after_octet on_octet answer_to frame_of
returns-then-self c =
    let r = c.args.self in
    rw (sound_answered (on_octet c.args.octet) r skipping (sym c.if-not-is_sound.ensures) (reception_skipping r c.if-self.true), still_skipping r c.if-self.true) c.answer-then-self.ensures

pub returns-then-self-eq0 : goal.returns-then-self-eq0
unfolding after_octet on_octet
returns-then-self-eq0 c = c.begin.ensures ∙ sym (sound_answered (on_octet c.args.octet) c.args.self awaiting (sym c.if-not-is_sound.ensures) (reception_awaiting c.args.self c.if-self.false c.if-self-eq0.true))

pub extend-requires : goal.extend-requires
extend-requires c =
    let some : 0 < c.args.self.count.0 = omega (arith, c.if-self-eq0.false) in
    (some, (test_sound c.args.self (sym c.if-not-is_sound.ensures)).partly c.if-self.false some)

pub returns : goal.returns
unfolding after_octet on_octet
returns c =
    let r = c.args.self in
    c.extend.ensures ∙ sym (sound_answered (on_octet c.args.octet) r (partial (take r.count.0 r.octets)) (sym c.if-not-is_sound.ensures) (reception_partial r c.if-self.false c.if-self-eq0.false))
