-- What a call on lent memory comes to, at each of its ways out.
use Prim.Native.Nat.{ℕ, ◌≤◌, ◌<◌}
use mathlib.Core.Path.{◌≡◌, refl, sym, subst, ◌∙◌}
use mathlib.Core.Bool.{Bool, true, false, cond}
use mathlib.Core.List.{List}
use lib.Dec.{eqb, leb}
use lib.ListN.{length}
use borrow.Author.Tests.{le-leb, lt-leb, leb-true, eq-eqb, ne_eqb}
use Rattle.std.specs.Prelude.{Ok, Err}
use Rattle.octets.proofs.Impossible.{impossible}
use Rattle.numbers.specs.Table.{broken_rule, wrong_length}
use Rattle.card.specs.declared.Card.{Card}
use Rattle.card.specs.declared.Refusal.{Refusal}
use Rattle.card.specs.declared.Refusal.TheVariants.{BrokenRule, WrongLength}
use Rattle.card.specs.Numbers.{refusal_number}
use Rattle.card.specs.Soundness.{sound}
use Rattle.card.specs.Events.{Call, octet_call, gap, session_end, meter_write, after, after_octet, after_gap, after_session_end, after_meter_write}
use Rattle.card.proofs.Keeping.{course}
use Rattle.card_memory.specs.Layout.{size}
use Rattle.card_memory.specs.Decoding.{decoded}
use Rattle.card_memory.specs.Encoding.{encoded}
use Rattle.card_memory.specs.Legibility.{legible}
use Rattle.card_memory.proofs.Shape.{decoded_whole}
use Rattle.card_exports.specs.Outcome.{refused, sound_memory, lent_right, done, call_outcome, finished, lent_card}

-- an unsound card is refused with 12, after 17
broken_number : (c : Card) → sound c ≡ false → (k : Call) → lent_right k ≡ true → (after c k).number ≡ broken_rule
unfolding after after_octet after_gap after_session_end after_meter_write
broken_number c e (octet_call o loan) f = rw (f, e)
broken_number c e gap f = rw e
broken_number c e session_end f = rw e
broken_number c e (meter_write t d) f = rw e

module _ (m : List ℕ) where
  pub too_short : length m < size → (k : Call) → call_outcome m k ≡ refused wrong_length m
  unfolding call_outcome
  too_short h k = rw (lt-leb size (length m) h)

  pub illegible_unsound : legible m ≡ false → sound_memory m ≡ false
  unfolding sound_memory
  illegible_unsound e = rw e

  pub legible-sound : legible m ≡ true → sound_memory m ≡ sound (decoded m)
  unfolding sound_memory
  legible-sound e = rw e

  -- a call in memory that is long enough, with what is lent with it of the right lengths
  module _ (h : size ≤ length m) (k : Call) (lent : lent_right k ≡ true) where
    pub unsound : sound_memory m ≡ false → call_outcome m k ≡ refused broken_rule m
    unfolding call_outcome
    unsound e = rw (le-leb size (length m) h, lent, e)

    pub sound_called : sound_memory m ≡ true → call_outcome m k ≡ done m (after (decoded m) k)
    unfolding call_outcome
    sound_called e = rw (le-leb size (length m) h, lent, e)

    -- a card by value is refused with 12 exactly if it is not sound
    pub call_finished : legible m ≡ true → (n : ℕ) (c : Card) → n ≡ (after (decoded m) k).number → c ≡ (after (decoded m) k).card → finished m n c ≡ call_outcome m k
    unfolding call_outcome finished
    call_finished e n c same card = rw (le-leb size (length m) h, lent, legible-sound e, card) (by (sound (decoded m)) refl)
      where
        by : (b : Bool) → sound (decoded m) ≡ b
            → cond (eqb n broken_rule) (refused broken_rule m) (record { number = n; memory = encoded (after (decoded m) k).card m }) ≡ cond b (done m (after (decoded m) k)) (refused broken_rule m)
        by true s = rw (ne_eqb n broken_rule (λ t. (course (decoded m) (decoded_whole m h s) k).unbroken (sym same ∙ t)), same)
        by false s = rw (eq-eqb n broken_rule (same ∙ broken_number (decoded m) s k lent))

-- the card that lent memory holds
pub record Holds (m : List ℕ) (c : Card) : Type 0 where
  pub whole : size ≤ length m
  pub legible : legible m ≡ true
  pub card : c ≡ decoded m

module _ (m : List ℕ) where
  pub lent_held : (c : Card) → lent_card m ≡ Ok c → Holds m c
  lent_held c e = go (leb size (length m)) refl (legible m) refl e
    where
      go : (x : Bool) → leb size (length m) ≡ x → (y : Bool) → legible m ≡ y → cond x (cond y (Ok (decoded m)) (Err BrokenRule)) (Err WrongLength) ≡ Ok c → Holds m c
      go true p true q f = record { whole = leb-true size (length m) p; legible = q; card = cc }
      go true p false q f = impossible (cc)
      go false p y q f = impossible (cc)

  -- 17 or 12, where no card is lent
  pub lent_refused : (r : Refusal) → lent_card m ≡ Err r → (Q : Refusal → Type 0) → (leb size (length m) ≡ false → Q WrongLength) → (size ≤ length m → legible m ≡ false → Q BrokenRule) → Q r
  lent_refused r e Q short broken = go (leb size (length m)) refl (legible m) refl e
    where
      go : (x : Bool) → leb size (length m) ≡ x → (y : Bool) → legible m ≡ y → cond x (cond y (Ok (decoded m)) (Err BrokenRule)) (Err WrongLength) ≡ Err r → Q r
      go true p true q f = impossible (cc)
      go true p false q f = let same : BrokenRule ≡ r = cc in subst Q same (broken (leb-true size (length m) p) q)
      go false p y q f = let same : WrongLength ≡ r = cc in subst Q same (short p)

  pub call_refused : (r : Refusal) → lent_card m ≡ Err r → (k : Call) → lent_right k ≡ true → call_outcome m k ≡ refused (refusal_number r) m
  unfolding call_outcome
  call_refused r e k lent =
      lent_refused r e (λ x. call_outcome m k ≡ refused (refusal_number x) m) (λ p. rw p) (λ h q. unsound m h k lent (illegible_unsound m q))
