-- What the card makes of its receiver's answer to an octet or a gap.
use Prim.Native.Nat.{ℕ, ◌≤◌, ◌<◌}
use mathlib.Core.Path.{◌≡◌, refl, ap, ◌∙◌}
use mathlib.Core.Bool.{Bool, true, false, not}
use mathlib.Core.List.{List}
use native.Mathlib.Omega.{arith}
use lib.ListN.{length, get_or, take, get_or-append}
use borrow.Author.Tests.{eq-eqb, ne_eqb, le-leb, lt-leb, not-true, not-false}
use Rattle.octets.specs.Splice.{fronted}
use Rattle.numbers.specs.Table.{broken_rule, wrong_length}
use Rattle.numbers.specs.Answer.{number_of}
use Rattle.frame.specs.declared.codes.Command.{Command}
use Rattle.frame.specs.Sizes.{longest_frame, number_width}
use Rattle.frame.specs.Content.{fields_of, data_of}
use Rattle.receiver.specs.declared.Receiver.{Receiver}
use Rattle.receiver.specs.declared.Received.{Received}
use Rattle.receiver.specs.declared.Event.{Event}
use Rattle.receiver.specs.declared.Event.TheVariants.{Nothing, Bad, Good, Refused}
use Rattle.receiver.specs.Receiving.{Outcome, silent_outcome, dropped_outcome, complete_outcome, Step, on_octet, WholeFrame}
use Rattle.receiver.specs.Receiver.{Sound as ReceiverSound, reception_of, answer_of_event, Response, answer_of_received, answer_to, no_frame, stepped, after_octet}
use Rattle.receiver.proofs.Arrival.{Handed}
use Rattle.octets.proofs.Impossible.{impossible}
use Rattle.card.specs.declared.Card.{Card}
use Rattle.card.specs.Loan.{Loan}
use Rattle.card.specs.Parts.{with_receiver, telling}
use Rattle.card.specs.Soundness.{sound, Sound}
use Rattle.card.specs.Frames.{on_frame}
use Rattle.card.specs.Events.{outcome_number, after_step, heard_as, heard_step, heard, gap_step, after_octet as after_card_octet}

pub receiver_sound : (c : Card) (r : Receiver) → Sound c → ReceiverSound r → Sound (with_receiver r c)
receiver_sound c r s h = record { address = s.address; key = s.key; fits = s.fits; receiver = h; records = s.records }

-- the octets of a whole frame, as the receiver hands them over
pub first_octet : (f : List ℕ) → WholeFrame f → get_or (fronted f no_frame) 0 0 ≤ longest_frame
unfolding fronted
first_octet f w =
    let e : get_or (fronted f no_frame) 0 0 ≡ get_or f 0 0 = get_or-append f _ 0 0 (omega (arith, w.least)) in
    omega (arith, w.most, w.stated)

outcome_number_lem : (o : Outcome) → outcome_number o ≡ number_of (answer_to o)
unfolding answer_to
outcome_number_lem silent_outcome = refl
outcome_number_lem (dropped_outcome number) = refl
outcome_number_lem (complete_outcome command s) = refl

-- an outcome that an event without a frame answers as
no_frame_lem : (v : Event) (o : Outcome) (c : Card) (loan : Loan) → ((k : Command) → v ≡ Good k → ⊥) → answer_of_event v ≡ answer_to o → heard_as o c loan ≡ telling c (number_of (answer_to o))
unfolding heard_as answer_to
no_frame_lem v silent_outcome c loan h e = refl
no_frame_lem v (dropped_outcome number) c loan h e = refl
no_frame_lem Nothing (complete_outcome command s) c loan h e = impossible (cc)
no_frame_lem (Bad fault) (complete_outcome command s) c loan h e = impossible (cc)
no_frame_lem (Good k) (complete_outcome command s) c loan h e = absurd (h k refl)
no_frame_lem Refused (complete_outcome command s) c loan h e = impossible (cc)

-- a is the receiver's answer to an event with the step s
module _ (c : Card) (s : Step) (a : Received) (e : answer_of_received a ≡ stepped c.receiver s) where
  next : a.receiver ≡ (after_step s c).receiver
  next = ap (λ (x : Response). x.receiver) e

  answers : answer_of_event a.event ≡ answer_to s.outcome
  answers = ap (λ (x : Response). x.answer) e

  pub gap_given : gap_step s c ≡ telling (with_receiver a.receiver c) (number_of (answer_of_event a.event))
  gap_given = rw (next, answers, outcome_number_lem s.outcome)

  pub no_frame_given : (loan : Loan) → ((k : Command) → a.event ≡ Good k → ⊥) → heard_step s c loan ≡ telling (with_receiver a.receiver c) (number_of (answer_of_event a.event))
  no_frame_given loan h = rw (next, answers) (no_frame_lem a.event s.outcome (after_step s c) loan h answers)

-- what a good frame's last octet comes to
pub frame_given : (c : Card) (o : ℕ) (loan : Loan) (k : Command) → Handed c.receiver o k → (a : Received) → answer_of_received a ≡ after_octet c.receiver o → answer_of_received a ≡ stepped c.receiver (on_octet o (reception_of c.receiver))
    → heard c o loan ≡ on_frame (with_receiver a.receiver c) loan k (fields_of k (take (get_or a.frame 0 0) a.frame)) (data_of k (take (get_or a.frame 0 0) a.frame))
unfolding heard heard_as
frame_given c o loan k h a p q =
    let taken : take (get_or a.frame 0 0) a.frame ≡ h.octets = ap (λ (x : Response). take (get_or x.frame 0 0) x.frame) p ∙ h.taken in
    rw (h.arrived.outcome, taken, ap (λ (x : Response). x.receiver) q)

-- what an octet comes to, by the tests of what is lent (17) and of the card (12)
module _ (c : Card) (o : ℕ) (loan : Loan) where
  pub wrong_number : (length loan.na2 ≡ number_width → ⊥) → after_card_octet c o loan ≡ telling c wrong_length
  unfolding after_card_octet
  wrong_number n = rw (ne_eqb (length loan.na2) number_width n)

  pub wrong_buffer : length loan.na2 ≡ number_width → loan.reply < longest_frame → after_card_octet c o loan ≡ telling c wrong_length
  unfolding after_card_octet
  wrong_buffer e h = rw (eq-eqb (length loan.na2) number_width e, lt-leb longest_frame loan.reply h)

  module _ (e : length loan.na2 ≡ number_width) (h : longest_frame ≤ loan.reply) (t : Bool) (tested : t ≡ sound c) where
    pub broken_card : not t ≡ true → after_card_octet c o loan ≡ telling c broken_rule
    unfolding after_card_octet
    broken_card b = rw (eq-eqb (length loan.na2) number_width e, le-leb longest_frame loan.reply h, ← tested, not-true t b)

    pub octet_made : not t ≡ false → after_card_octet c o loan ≡ heard c o loan
    unfolding after_card_octet
    octet_made b = rw (eq-eqb (length loan.na2) number_width e, le-leb longest_frame loan.reply h, ← tested, not-false t b)
