-- What the octet call comes to where all lengths fit and the memory is legible.
use Prim.Native.Nat.{ℕ, ◌≤◌}
use mathlib.Core.Path.{◌≡◌, refl, sym, ap, ◌∙◌}
use mathlib.Core.Bool.{Bool, true, false, cond, and-eq-true_iff, and-false}
use mathlib.Core.List.{List}
use lib.Dec.{leb}
use lib.ListN.{length}
use borrow.Author.Tests.{leb-true, le-leb}
use Rattle.std.specs.Prelude.{Err}
use Rattle.octets.specs.Splice.{fronted}
use Rattle.numbers.specs.Table.{broken_rule, wrong_length}
use Rattle.card.specs.declared.Stepped.{Stepped}
use Rattle.card.specs.declared.Refusal.{Refusal}
use Rattle.card.specs.Loan.{usable, lending}
use Rattle.card.specs.Numbers.{refusal_number, answer_number}
use Rattle.card.specs.Parts.{Response, telling, Gives}
use Rattle.card.specs.Events.{Call, octet_call, after_octet}
use Rattle.card.specs.Events as events
use Rattle.card.proofs.Keeping.{course}
use Rattle.card_memory.specs.Layout.{size}
use Rattle.card_memory.specs.Decoding.{decoded}
use Rattle.card_memory.specs.Legibility.{legible}
use Rattle.card_memory.proofs.Shape.{decoded_whole}
use Rattle.card_exports.specs.Outcome.{Outcome, Replied, refused, sound_memory, lengths_fit, done, call_outcome, unreplied, replied, finished, lent_card, octet_outcome}
use Rattle.card_exports.proofs.Calls.{illegible_unsound, legible-sound, call_finished, lent_refused}

module _ (m : List ℕ) (o : ℕ) (na2 reply : List ℕ) where
  abbrev event : Call
  event = octet_call o (lending na2 reply)

  abbrev response : Response
  response = after_octet (decoded m) o (lending na2 reply)

  -- the number and the memory are those of the call without its buffer
  pub octet_call_lem : (cell : ℕ) → ◌≡◌ {A = Outcome} (record { number = (octet_outcome m o na2 reply cell).number; memory = (octet_outcome m o na2 reply cell).memory }) (call_outcome m event)
  unfolding octet_outcome call_outcome events.after
  octet_call_lem cell = by (lengths_fit m event) (sound_memory m)
    where
      by : (x y : Bool) → let r = cond x (cond y (replied m reply response) (unreplied broken_rule m reply cell)) (unreplied wrong_length m reply cell) in
          ◌≡◌ {A = Outcome} (record { number = r.number; memory = r.memory }) (cond x (cond y (done m response) (refused broken_rule m)) (refused wrong_length m))
      by true true = refl
      by true false = refl
      by false y = refl

  -- 17 for what is lent with the octet
  pub octet_unlent : (cell : ℕ) → usable (lending na2 reply) ≡ false → unreplied wrong_length m reply cell ≡ octet_outcome m o na2 reply cell
  unfolding octet_outcome
  octet_unlent cell e = rw (e, and-false (leb size (length m)))

  -- 17 or 12 for the memory
  pub octet_refused : (cell : ℕ) → usable (lending na2 reply) ≡ true → (r : Refusal) → lent_card m ≡ Err r → unreplied (refusal_number r) m reply cell ≡ octet_outcome m o na2 reply cell
  unfolding octet_outcome
  octet_refused cell u r e =
      lent_refused m r e (λ x. unreplied (refusal_number x) m reply cell ≡ octet_outcome m o na2 reply cell)
      (λ p. rw p) (λ h q. rw (le-leb size (length m) h, u, illegible_unsound m q))

  pub octet_fits : usable (lending na2 reply) ≡ true → size ≤ length m → lengths_fit m event ≡ true
  octet_fits u h = rw (le-leb size (length m) h, u)

  module _ (fits : lengths_fit m event ≡ true) (e : legible m ≡ true) where
    both : (leb size (length m) ≡ true) × (usable (lending na2 reply) ≡ true)
    both = (and-eq-true_iff (leb size (length m)) (usable (lending na2 reply))).0 fits

    whole : size ≤ length m
    whole = leb-true size (length m) both.0

    broken : sound_memory m ≡ false → response ≡ telling (decoded m) broken_rule
    unfolding after_octet
    broken t = rw (both.1, sym (legible-sound m e) ∙ t)

    module _ (after : List ℕ) (s : Stepped) (gives : Gives response reply after s) (n : ℕ) (last : List ℕ) (left : ◌≡◌ {A = Outcome} (record { number = n; memory = last }) (finished m (answer_number s.answer) s.card)) where
      abbrev Settles : Bool → Type 0
      Settles b = ◌≡◌ {A = Outcome} (record { number = n; memory = last }) (cond b (done m response) (refused broken_rule m))

      settles : Settles (sound_memory m)
      unfolding events.after call_outcome
      settles = left ∙ call_finished m whole event both.1 e _ _ gives.number gives.card ∙ rw fits

      -- 12, which comes of unsound memory alone
      pub octet_broken : (cell : ℕ) → n ≡ broken_rule → ◌≡◌ {A = Replied} (record { number = broken_rule; memory = last; reply = after; length = cell }) (octet_outcome m o na2 reply cell)
      unfolding octet_outcome fronted events.after
      octet_broken cell twelve = rw fits (by (sound_memory m) refl settles)
        where
          by : (b : Bool) → sound_memory m ≡ b → Settles b
              → ◌≡◌ {A = Replied} (record { number = broken_rule; memory = last; reply = after; length = cell }) (cond b (replied m reply response) (unreplied broken_rule m reply cell))
          by true t q = absurd ((course (decoded m) (decoded_whole m whole (sym (legible-sound m e) ∙ t)) event).unbroken (ap (λ (x : Outcome). x.number) (sym q) ∙ twelve))
          by false t q = rw (ap (λ (x : Outcome). x.memory) q, gives.buffer, broken t)

      pub octet_replied : (cell : ℕ) → (n ≡ broken_rule → ⊥) → ◌≡◌ {A = Replied} (record { number = n; memory = last; reply = after; length = s.reply.0 }) (octet_outcome m o na2 reply cell)
      unfolding octet_outcome
      octet_replied cell other = rw fits (by (sound_memory m) settles)
        where
          by : (b : Bool) → Settles b
              → ◌≡◌ {A = Replied} (record { number = n; memory = last; reply = after; length = s.reply.0 }) (cond b (replied m reply response) (unreplied broken_rule m reply cell))
          by true q = rw (ap (λ (x : Outcome). x.number) q, ap (λ (x : Outcome). x.memory) q, gives.buffer, gives.reply)
          by false q = absurd (other (ap (λ (x : Outcome). x.number) q))
