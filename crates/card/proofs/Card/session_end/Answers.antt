-- `Card::session_end` tests the card, ends the wait and empties the receiver.
use mathlib.Core.Path.{◌≡◌, refl, ap, ◌∙◌}
use mathlib.Core.Bool.{true}
use Rattle.receiver.specs.Receiving.{awaiting, on_session_end}
use Rattle.receiver.specs.Receiver.{Response, holding}
use Rattle.receiver.proofs.Follows.{session_end_follows}
use Rattle.card.specs.Events.{after_session_end}
use Rattle.card.proofs.Shape.{receiver_length}
use Rattle.card.proofs.Soundness.{sound_means}
use Rattle.card.proofs.Giving.{told}
use Rattle.card.proofs.Card.session_end.Goals as goal

pub returns-then-not-sound : goal.returns-then-not-sound
unfolding after_session_end
returns-then-not-sound c = rw (← c.sound.ensures, c.if-not-sound.true) (told _ _ _ _ c.answered.ensures refl)

pub returns : goal.returns
unfolding after_session_end on_session_end
returns c =
    let passed : c.sound.result ≡ true = c.if-not-sound.false in
    let sound = (sound_means c.args.self).0 (rw c.sound.ensures at passed) in
    let follows = session_end_follows c.args.self.receiver sound.receiver (receiver_length c.args.self _ c.well_formed.0) in
    let emptied : c.session_end.result.receiver ≡ holding awaiting c.args.self.receiver = ap (λ (x : Response). x.receiver) (c.session_end.ensures ∙ follows.answer) in
    rw (← c.sound.ensures, passed)
    (told _ _ _ _ (rw (c.idle.ensures, emptied) at c.answered-2.ensures) refl)
