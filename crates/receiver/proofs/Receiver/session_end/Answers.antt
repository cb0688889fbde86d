-- `Receiver::session_end` empties the receiver, after the test for 12.
use mathlib.Core.Path.{refl, sym, ◌∙◌}
use Rattle.receiver.specs.Receiving.{on_session_end}
use Rattle.receiver.specs.Receiver.{answer_to, frame_of, reception_of, after_session_end}
use Rattle.receiver.proofs.Cases.{sound_answered, unsound_answered}
use Rattle.receiver.proofs.Receiver.session_end.Goals as goal

pub returns-then-not-is_sound : goal.returns-then-not-is_sound
unfolding after_session_end
returns-then-not-is_sound c = c.answer.ensures ∙ sym (unsound_answered on_session_end c.args.self (sym c.if-not-is_sound.ensures))

pub returns : goal.returns
unfolding after_session_end on_session_end answer_to frame_of
returns c = rw (sound_answered on_session_end c.args.self (reception_of c.args.self) (sym c.if-not-is_sound.ensures) refl, c.answer-2.ensures, c.empty.ensures)
