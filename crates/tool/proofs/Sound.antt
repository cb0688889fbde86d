-- The test for 12 says what `Sound` says.
use mathlib.Core.Path.{◌≡◌, refl}
use mathlib.Core.Bool.{Bool, true, false, ◌&&◌}
use borrow.Author.Tests.{leb-true, le-leb}
use Rattle.receiver.specs.Receiver as receiver
use Rattle.receiver.proofs.Soundness as receiver_soundness
use Rattle.tool.specs.declared.Tool.{Tool}
use Rattle.tool.specs.Soundness.{within_rec, sound, Sound}
use Rattle.octets.proofs.Impossible.{impossible}

pub test_sound : (t : Tool) → sound t ≡ true → Sound t
unfolding sound
test_sound t = go (within_rec t.phase) (receiver.sound t.receiver) refl refl
  where
    go : (a b : Bool) → within_rec t.phase ≡ a → receiver.sound t.receiver ≡ b → (a && b) ≡ true → Sound t
    go true true p q e = record { sent = leb-true _ _ p; receiver = receiver_soundness.test_sound t.receiver q }
    go true false p q e = impossible (cc)
    go false b p q e = impossible (cc)

pub sound_test : (t : Tool) → Sound t → sound t ≡ true
unfolding sound
sound_test t s = rw (le-leb _ _ s.sent, receiver_soundness.sound_test t.receiver s.receiver)
