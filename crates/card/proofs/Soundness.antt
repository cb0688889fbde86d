-- The test for 12 is passed exactly if `Sound` holds.
use mathlib.Core.Bool.{true, not, ◌&&◌, and-eq-true_iff}
use mathlib.Core.Logic.{◌↔◌}
use mathlib.Core.Path.{◌≡◌}
use borrow.Author.Tests.{le-leb, leb-true, not-true}
use Rattle.frame.specs.Sizes.{most_programmed}
use Rattle.records.specs.Setup as records
use Rattle.records.proofs.Soundness as records_laws
use Rattle.receiver.specs.Receiver as receiver
use Rattle.receiver.proofs.Soundness as receiver_laws
use Rattle.card.specs.declared.Card.{Card}
use Rattle.frame.specs.Addresses.{broadcast}
use Rattle.des.specs.WeakKeys.{weak}
use Rattle.card.specs.Soundness.{waiting_length, within_rec, sound, Sound}

module _ (c : Card) where
  sound_of : sound c ≡ true → Sound c
  unfolding sound
  sound_of h =
      let held = receiver.sound c.receiver && records.sound c.records in
      let first = (and-eq-true_iff (not (broadcast c.identity.address)) (not (weak c.identity.key) && (within_rec c.exchange.phase && held))).0 h in
      let second = (and-eq-true_iff (not (weak c.identity.key)) (within_rec c.exchange.phase && held)).0 first.1 in
      let third = (and-eq-true_iff (within_rec c.exchange.phase) held).0 second.1 in
      let fourth = (and-eq-true_iff (receiver.sound c.receiver) (records.sound c.records)).0 third.1 in
      record {
        address = not-true (broadcast c.identity.address) first.0;
        key = not-true (weak c.identity.key) second.0;
        fits = leb-true (waiting_length c.exchange.phase) most_programmed third.0;
        receiver = receiver_laws.test_sound c.receiver fourth.0;
        records = (records_laws.sound_means c.records).0 fourth.1;
      }

  pub sound_test : Sound c → sound c ≡ true
  unfolding sound
  sound_test s =
      rw (
        s.address,
        s.key,
        le-leb (waiting_length c.exchange.phase) most_programmed s.fits,
        receiver_laws.sound_test c.receiver s.receiver,
        (records_laws.sound_means c.records).1 s.records,
      )

  pub sound_means : (sound c ≡ true) ↔ Sound c
  sound_means = (sound_of, sound_test)
