-- A call over good memory leaves good memory, which holds the card that the same call makes of the card held before.
use Prim.Native.Nat.{ℕ, ◌≤◌}
use mathlib.Core.Path.{◌≡◌, refl}
use mathlib.Core.Bool.{Bool, true, false, cond, true≢false}
use mathlib.Core.List.{List}
use native.Mathlib.Omega.{arith}
use lib.ListN.{length}
use borrow.Author.Tests.{le-leb}
use Rattle.numbers.specs.Table.{broken_rule, wrong_length}
use Rattle.card.specs.declared.Card.{Card}
use Rattle.card.specs.Events.{Call, octet_call, gap, session_end, meter_write, after, after_octet}
use Rattle.card.proofs.Soundness.{sound_test}
use Rattle.card.proofs.Keeping.{Whole, course}
use Rattle.card.proofs.Reached.{reached}
use Rattle.card_memory.specs.Layout.{size}
use Rattle.card_memory.specs.Decoding.{decoded}
use Rattle.card_memory.specs.Legibility.{legible}
use Rattle.card_memory.proofs.CardPuts.{Shaped}
use Rattle.card_memory.proofs.RoundTrip.{encoded-length, encoded-legible, decoded-encoded}
use Rattle.card_memory.proofs.EncodableCards.{decoded_encodable, reached_encodable}
use Rattle.card_exports.specs.Outcome.{Outcome, refused, sound_memory, lent_right, done, call_outcome}

-- memory that holds a card which no call refuses
pub record Good (m : List ℕ) : Type 0 where
  pub long : size ≤ length m
  pub readable : legible m ≡ true
  pub whole : Whole (decoded m)
  pub shaped : Shaped (decoded m)

-- what a call left: the number is not 12, the memory is as long and good, and holds this card
pub record Next (m : List ℕ) (o : Outcome) (d : Card) : Type 0 where
  pub decodes : decoded o.memory ≡ d
  pub good : Good o.memory
  pub as_long : length o.memory ≡ length m
  pub unbroken : o.number ≡ broken_rule → ⊥

-- 17 for what is lent with an octet leaves the card
unlent : (c : Card) (k : Call) → lent_right k ≡ false → (after c k).card ≡ c
unfolding after after_octet
unlent c (octet_call o loan) e = rw e
unlent c gap e = absurd (true≢false e)
unlent c session_end e = absurd (true≢false e)
unlent c (meter_write t d) e = absurd (true≢false e)

module _ (m : List ℕ) (g : Good m) where
  pub good_sound : sound_memory m ≡ true
  unfolding sound_memory
  good_sound = rw (g.readable, sound_test (decoded m) g.whole.sound)

  done-next : (k : Call) → Next m (done m (after (decoded m) k)) (after (decoded m) k).card
  done-next k =
      let d = (after (decoded m) k).card in
      let encodable = reached_encodable m (reached (decoded m) g.whole k) (decoded_encodable m g.shaped) in
      let back = decoded-encoded m g.long d encodable in
      let long = encoded-length m g.long d encodable.shaped in
      record {
        decodes = back;
        good =
            record {
              long = rw long g.long;
              readable = encoded-legible m g.long d encodable.shaped g.readable;
              whole = rw back (course (decoded m) g.whole k).whole;
              shaped = rw back encodable.shaped;
            };
        as_long = long;
        unbroken = (course (decoded m) g.whole k).unbroken;
      }

  pub next : (k : Call) → Next m (call_outcome m k) (after (decoded m) k).card
  unfolding call_outcome
  next k = rw (le-leb size (length m) g.long, good_sound) (by (lent_right k) refl)
    where
      by : (b : Bool) → lent_right k ≡ b → Next m (cond b (done m (after (decoded m) k)) (refused wrong_length m)) (after (decoded m) k).card
      by true e = done-next k
      by false e = rw (unlent (decoded m) k e) (record { decodes = refl; good = g; as_long = refl; unbroken = λ t. omega arith })
