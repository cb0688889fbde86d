-- What every refusal leaves of card memory, number by number, whatever the memory holds.
use Prim.Native.Nat.{ℕ, ◌≤◌}
use mathlib.Core.Path.{◌≡◌, refl, ap, ◌∙◌}
use mathlib.Core.Bool.{Bool, true, false, cond}
use mathlib.Core.List.{List}
use mathlib.Core.Logic.{inl, inr}
use lib.Dec.{leb}
use lib.ListN.{length, get_or}
use borrow.Author.Tests.{leb-true, ne_eqb}
use Rattle.octets.proofs.Below.{Below}
use Rattle.numbers.specs.Table.{none, impossible_length, broken_rule, wrong_length}
use Rattle.card.specs.declared.Card.{Card}
use Rattle.card.specs.declared.Exchange.{Exchange}
use Rattle.card.specs.Events.{Call, octet_call, gap, session_end, meter_write, after}
use Rattle.card.proofs.Keeping.{Unchanged, course, meter_write-refused}
use Rattle.card_memory.specs.Layout.{size}
use Rattle.card_memory.specs.Decoding.{decoded}
use Rattle.card_memory.specs.Encoding.{encoded}
use Rattle.card_memory.proofs.CardPuts.{Shaped}
use Rattle.card_memory.proofs.EncodableCards.{decoded_shaped}
use Rattle.card_memory.proofs.Held.{receiver_alters, state_alters, encoded-decoded}
use Rattle.card_exports.specs.Outcome.{refused, sound_memory, lengths_fit, done, call_outcome}
use Rattle.card_exports.specs.Leaving.{receiver, state, bus_alters, Outside, StaysAt}
use Rattle.card_exports.proofs.Refusals.{bad_frame_keeps}
use Rattle.card_exports.proofs.Unchanged.{Passed, call_passed, passed_made}

-- a call that passes the tests for 17 and 12, on memory whose numbers are octets
module _ (m : List ℕ) (k : Call) (passed : Passed m k) (shaped : Shaped (decoded m)) (told : (after (decoded m) k).number ≡ none → ⊥) where
  abbrev next : Card
  next = (after (decoded m) k).card

  abbrev n : ℕ
  n = (after (decoded m) k).number

  unchanged : Unchanged (decoded m) next
  unchanged = (course (decoded m) passed.whole k).refused told

  bus_left : (b : Bool) → leb n impossible_length ≡ b → (j : ℕ) → Outside (cond b receiver state) j → get_or (encoded next m) j 0 ≡ get_or m j 0
  bus_left true e j out =
      receiver_alters m passed.long passed.readable shaped next unchanged (course (decoded m) passed.whole k).whole.long
      (ap (λ (x : Exchange). x.phase) (bad_frame_keeps (decoded m) passed.sound k told (leb-true _ _ e))) j out
  bus_left false e j out =
      state_alters m passed.long passed.readable shaped next unchanged (course (decoded m) passed.whole k).whole.long j out

  made : bus_alters n ≡ cond (leb n impossible_length) receiver state
  made = rw (ne_eqb n broken_rule (λ e. passed_made m k passed (inl e)), ne_eqb n wrong_length (λ e. passed_made m k passed (inr e)))

  over_bus : (j : ℕ) → Outside (bus_alters n) j → get_or (encoded next m) j 0 ≡ get_or m j 0
  over_bus j out = bus_left (leb n impossible_length) refl j (rw made at out)

-- a refused meter write leaves the card that the memory holds, and so every octet
meter_left : (m : List ℕ) (t : ℕ) (d : List ℕ) → Passed m (meter_write t d) → Shaped (decoded m) → ((after (decoded m) (meter_write t d)).number ≡ none → ⊥) → encoded (after (decoded m) (meter_write t d)).card m ≡ m
unfolding after
meter_left m t d passed shaped told =
    ap (λ (c : Card). encoded c m) (meter_write-refused (decoded m) t d told) ∙ encoded-decoded m passed.long passed.readable shaped

passed_left : (m : List ℕ) (k : Call) → Passed m k → Shaped (decoded m) → ((after (decoded m) k).number ≡ none → ⊥) → (j : ℕ) → StaysAt k (after (decoded m) k).number j → get_or (encoded (after (decoded m) k).card m) j 0 ≡ get_or m j 0
passed_left m (octet_call o loan) passed shaped told j out = over_bus m (octet_call o loan) passed shaped told j out
passed_left m gap passed shaped told j out = over_bus m gap passed shaped told j out
passed_left m session_end passed shaped told j out = over_bus m session_end passed shaped told j out
passed_left m (meter_write t d) passed shaped told j out = ap (λ (l : List ℕ). get_or l j 0) (meter_left m t d passed shaped told)

module _ (m : List ℕ) (shaped : size ≤ length m → Shaped (decoded m)) (k : Call) where
  -- "may still change the receiver and the mark of the wait .., as the rules above say, and nothing else": of every refusal of every call
  pub shaped_left : ((call_outcome m k).number ≡ none → ⊥) → (j : ℕ) → StaysAt k (call_outcome m k).number j → get_or (call_outcome m k).memory j 0 ≡ get_or m j 0
  unfolding call_outcome
  shaped_left = go (lengths_fit m k) (sound_memory m) refl refl
    where
      go : (x y : Bool) → lengths_fit m k ≡ x → sound_memory m ≡ y
          → let r = cond x (cond y (done m (after (decoded m) k)) (refused broken_rule m)) (refused wrong_length m) in
          (r.number ≡ none → ⊥) → (j : ℕ) → StaysAt k r.number j → get_or r.memory j 0 ≡ get_or m j 0
      go true true e s told j out = let p = call_passed m k e s in passed_left m k p (shaped p.long) told j out
      go true false e s told j out = refl
      go false y e s told j out = refl

-- over every memory of octets, sound or not, long enough or not
pub refusal_left : (m : List ℕ) → Below 256 m → (k : Call) → ((call_outcome m k).number ≡ none → ⊥) → (j : ℕ) → StaysAt k (call_outcome m k).number j → get_or (call_outcome m k).memory j 0 ≡ get_or m j 0
refusal_left m octets = shaped_left m (λ h. decoded_shaped m h octets)
