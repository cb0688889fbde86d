-- `Tool::session_end` empties the receiver and ends a request that runs.
use Rattle.tool.proofs.Lengths.{receiver_length}
use Rattle.tool.proofs.Sound.{test_sound}
use Rattle.tool.specs.Events.{after_session_end}
use Rattle.tool.specs.Soundness.{sound}
use Rattle.numbers.specs.Answer.{given, refused}
use Rattle.numbers.specs.Table.{session_ended}
use Rattle.tool.specs.Answers.{nothing}
use Rattle.tool.specs.Parts.{with_receiver, ended, told, responding}
use Rattle.receiver.proofs.Follows.{session_end_follows}
use Rattle.receiver.specs.Receiver.{Response, reception_of, holding}
use Rattle.receiver.specs.Receiving.{on_session_end}
use mathlib.Core.Bool.{true}
use mathlib.Core.Path.{◌≡◌, sym, ap, ◌∙◌}
use Rattle.tool.proofs.Tool.session_end.Goals.{After-session_end, Else-not-sound}
use Rattle.tool.proofs.Tool.session_end.Goals as goal

passed : (c : Else-not-sound) → sound c.args.self ≡ true
passed c = sym c.sound.ensures ∙ c.if-not-sound.false

emptied : (c : After-session_end) → c.session_end.result.receiver ≡ holding (on_session_end (reception_of c.args.self.receiver)).next c.args.self.receiver
emptied c =
    let a = c in
    let f = session_end_follows a.args.self.receiver (test_sound a.args.self (passed (goal.at.After-session_end c).Else-not-sound)).receiver (receiver_length a.args.self _ a.well_formed.0) in
    ap (λ (r : Response). r.receiver) (c.session_end.ensures ∙ f.answer)

pub returns-then-not-sound : goal.returns-then-not-sound
unfolding after_session_end
returns-then-not-sound c = rw (sym c.sound.ensures ∙ c.if-not-sound.true) c.answering.ensures

pub returns-then-idle : goal.returns-then-idle
unfolding after_session_end
returns-then-idle c = rw (passed (goal.at.returns-then-idle c).Else-not-sound, sym c.idle.ensures ∙ c.if-idle.true)
    (c.answering-then-idle.ensures ∙ ap (λ r. told (responding (with_receiver r c.args.self) (given nothing))) (emptied (goal.at.returns-then-idle c).After-session_end))

pub returns : goal.returns
unfolding after_session_end
returns c = rw (passed (goal.at.returns c).Else-not-sound, sym c.idle.ensures ∙ c.if-idle.false)
    (c.answering-2.ensures ∙ ap (λ n. told (responding n (refused session_ended))) (c.ended.ensures ∙ ap (λ r. ended (with_receiver r c.args.self)) (emptied (goal.at.returns c).After-session_end)))
