-- `Card::gap` tests the card, and takes over what its receiver gives.
use mathlib.Core.Path.{◌≡◌, refl, ◌∙◌}
use mathlib.Core.Bool.{true}
use Rattle.receiver.proofs.Follows.{gap_follows}
use Rattle.card.specs.Events.{after_gap}
use Rattle.card.proofs.Shape.{receiver_length}
use Rattle.card.proofs.Soundness.{sound_means}
use Rattle.card.proofs.Giving.{told}
use Rattle.card.proofs.Receptions.{gap_given}
use Rattle.card.proofs.Card.gap.Goals as goal

pub returns-then-not-sound : goal.returns-then-not-sound
unfolding after_gap
returns-then-not-sound c = rw (← c.sound.ensures, c.if-not-sound.true) (told _ _ _ _ c.answered.ensures refl)

pub returns : goal.returns
unfolding after_gap
returns c =
    let passed : c.sound.result ≡ true = c.if-not-sound.false in
    let sound = (sound_means c.args.self).0 (rw c.sound.ensures at passed) in
    let follows = gap_follows c.args.self.receiver sound.receiver (receiver_length c.args.self _ c.well_formed.0) in
    let given = gap_given c.args.self _ c.gap-received.result (c.gap-received.ensures ∙ follows.answer) in
    rw (← c.sound.ensures, passed, given)
    (told _ _ _ _ c.answered-2.ensures c.event_answer.ensures)
