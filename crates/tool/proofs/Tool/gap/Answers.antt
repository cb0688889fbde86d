-- `Tool::gap` goes by the event of its sound receiver.
use Rattle.tool.proofs.Receiving.{told_nothing, told_bad, told_no_frame}
use Rattle.tool.proofs.Lengths.{receiver_length}
use Rattle.tool.proofs.Sound.{test_sound}
use Rattle.tool.specs.Events.{after_gap}
use Rattle.tool.specs.Soundness.{sound}
use Rattle.tool.specs.Parts.{told}
use Rattle.receiver.proofs.Follows.{Follows, gap_follows}
use Rattle.receiver.specs.Receiver.{Response, answer_of_event, answer_of_received, reception_of, stepped, after_gap as receiver_after_gap}
use Rattle.receiver.specs.Receiving.{on_gap}
use mathlib.Core.Bool.{true}
use mathlib.Core.Logic.{inl, inr}
use mathlib.Core.Path.{◌≡◌, sym, ap, ◌∙◌}
use Rattle.tool.proofs.Tool.gap.Goals.{After-gap-received, Else-not-sound}
use Rattle.tool.proofs.Tool.gap.Goals as goal

passed : (c : Else-not-sound) → sound c.args.self ≡ true
passed c = sym c.sound.ensures ∙ c.if-not-sound.false

rule : (c : After-gap-received) → Follows on_gap c.args.self.receiver (receiver_after_gap c.args.self.receiver)
rule c =
    let a = c in
    gap_follows a.args.self.receiver (test_sound a.args.self (passed (goal.at.After-gap-received c).Else-not-sound)).receiver (receiver_length a.args.self _ a.well_formed.0)

-- what the receiver gave is what 01, Receiving, gives
follows : (c : After-gap-received) → answer_of_received c.gap-received.result ≡ stepped c.args.self.receiver (on_gap (reception_of c.args.self.receiver))
follows c = c.gap-received.ensures ∙ (rule c).answer

pub returns-then-not-sound : goal.returns-then-not-sound
unfolding after_gap
returns-then-not-sound c = rw (sym c.sound.ensures ∙ c.if-not-sound.true) c.answering.ensures

pub returns-in-Nothing : goal.returns-in-Nothing
unfolding after_gap
returns-in-Nothing c = let t = c.args.self in
    let f = follows (goal.at.returns-in-Nothing c).After-gap-received in
    elim c.in-Nothing.is [
      | inl e ↦ rw (passed (goal.at.returns-in-Nothing c).Else-not-sound) (c.answering-in-Nothing.ensures ∙ ap told (told_nothing t _ c.gap-received.result f e))
      | inr e ↦ told_no_frame t c.gap-received.result f e.0 e.1
    ]

pub returns-in-Bad : goal.returns-in-Bad
unfolding after_gap
returns-in-Bad c = let t = c.args.self in
    let e = told_bad t _ c.gap-received.result (follows (goal.at.returns-in-Bad c).After-gap-received) _ c.in-Bad.is in
    rw (passed (goal.at.returns-in-Bad c).Else-not-sound) ((rw c.into.ensures at c.answering-in-Bad.ensures) ∙ ap told e)

pub returns-in-Refused : goal.returns-in-Refused
returns-in-Refused c = absurd ((rule (goal.at.returns-in-Refused c).After-gap-received).unbroken (sym (ap (λ (r : Response). r.answer) c.gap-received.ensures) ∙ ap answer_of_event c.in-Refused.is))
