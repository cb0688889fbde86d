-- `Card::sound` runs the five tests of the definition, in its order.
use mathlib.Core.Bool.{Bool, true, false, not, ◌&&◌}
use mathlib.Core.Path.{◌≡◌, refl}
use Rattle.des.specs.WeakKeys.{weak}
use Rattle.frame.specs.Addresses.{broadcast}
use Rattle.receiver.specs.Receiver as receiver
use Rattle.records.specs.Setup as records
use Rattle.card.specs.declared.Card.{Card}
use Rattle.card.specs.Soundness.{within_rec, sound}
use Rattle.card.proofs.Card.sound.Goals as goal
use Rattle.card.proofs.Card.sound.Goals.{then-not-broadcast, else-not-broadcast, then-not-weak, else-not-weak, then-within_rec, else-within_rec}

-- five tests, from the first on
regrouped : (a b d e f : Bool) → (((a && b) && d) && e) && f ≡ a && (b && (d && (e && f)))
regrouped false b d e f = refl
regrouped true false d e f = refl
regrouped true true false e f = refl
regrouped true true true e f = refl

passed : (c : Card) (p q r : Bool) → p ≡ not (broadcast c.identity.address) && not (weak c.identity.key) → q ≡ p && within_rec c.exchange.phase → r ≡ q && receiver.sound c.receiver → r && records.sound c.records ≡ sound c
unfolding sound
passed c p q r e f g =
    rw (g, f, e) (regrouped (not (broadcast c.identity.address)) (not (weak c.identity.key)) (within_rec c.exchange.phase) (receiver.sound c.receiver) (records.sound c.records))

pub returns-then-is_sound : goal.returns-then-is_sound
returns-then-is_sound c =
    let card = c.args.self.now in
    let first : c.if-not-broadcast.value ≡ not (broadcast card.identity.address) && not (weak card.identity.key) = elim c.if-not-broadcast.branch [
      | then-not-broadcast w ↦ rw (w.value-is, w.weak.ensures, ← c.broadcast.ensures, w.if-not-broadcast.true)
      | else-not-broadcast w ↦ rw (w.value-is, ← c.broadcast.ensures, w.if-not-broadcast.false)
    ] in
    let second : c.if-not-weak.value ≡ c.if-not-broadcast.value && within_rec card.exchange.phase = elim c.if-not-weak.branch [
      | then-not-weak w ↦ rw (w.value-is, w.within_rec.ensures, w.if-not-weak.true)
      | else-not-weak w ↦ rw (w.value-is, w.if-not-weak.false)
    ] in
    let third : c.if-within_rec.value ≡ c.if-not-weak.value && receiver.sound card.receiver = elim c.if-within_rec.branch [
      | then-within_rec w ↦ rw (w.value-is, w.is_sound.ensures, w.if-within_rec.true)
      | else-within_rec w ↦ rw (w.value-is, w.if-within_rec.false)
    ] in
    rw (← passed card _ _ _ first second third, c.if-is_sound.true) c.sound.ensures

pub returns-else-is_sound : goal.returns-else-is_sound
returns-else-is_sound c =
    let card = c.args.self.now in
    let first : c.if-not-broadcast.value ≡ not (broadcast card.identity.address) && not (weak card.identity.key) = elim c.if-not-broadcast.branch [
      | then-not-broadcast w ↦ rw (w.value-is, w.weak.ensures, ← c.broadcast.ensures, w.if-not-broadcast.true)
      | else-not-broadcast w ↦ rw (w.value-is, ← c.broadcast.ensures, w.if-not-broadcast.false)
    ] in
    let second : c.if-not-weak.value ≡ c.if-not-broadcast.value && within_rec card.exchange.phase = elim c.if-not-weak.branch [
      | then-not-weak w ↦ rw (w.value-is, w.within_rec.ensures, w.if-not-weak.true)
      | else-not-weak w ↦ rw (w.value-is, w.if-not-weak.false)
    ] in
    let third : c.if-within_rec.value ≡ c.if-not-weak.value && receiver.sound card.receiver = elim c.if-within_rec.branch [
      | then-within_rec w ↦ rw (w.value-is, w.is_sound.ensures, w.if-within_rec.true)
      | else-within_rec w ↦ rw (w.value-is, w.if-within_rec.false)
    ] in
    rw (← passed card _ _ _ first second third, c.if-is_sound.false)
