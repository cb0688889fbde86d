-- What the number of a refusal tells of a sound card: 1 to 5 leave the wait too, and 17 is given for what is lent alone.
use Prim.Native.Nat.{ℕ, ◌≤◌, ◌<◌}
use mathlib.Core.Path.{◌≡◌, refl, ap}
use mathlib.Core.Bool.{Bool, true, false, cond}
use mathlib.Core.List.{List}
use mathlib.Core.Logic.{◌⊎◌, inl, inr}
use native.Mathlib.Omega.{arith}
use Rattle.numbers.specs.Table.{none, impossible_length, too_long, wrong_cipher, wrong_length}
use Rattle.numbers.specs.Answer.{Answer, given, refused, refused_at}
use Rattle.frame.specs.declared.content.Fields.{Fields}
use Rattle.frame.specs.Content.{fields_of, data_of}
use Rattle.records.specs.declared.Cause.{Cause}
use Rattle.records.specs.declared.Cause.TheVariants.{Meter}
use Rattle.records.specs.Finding.{attributes_of}
use Rattle.records.proofs.Refusals.{Bounded, readable_bounded}
use Rattle.records.proofs.Writes.{write_cases, write_number}
use Rattle.receiver.specs.Receiving.{Reception, awaiting, skipping, partial, Outcome, silent_outcome, dropped_outcome, complete_outcome, Step, on_octet, on_gap}
use Rattle.receiver.specs.Receiver.{reception_of}
use Rattle.receiver.proofs.Follows.{Numbered, octet_numbered}
use Rattle.card.specs.declared.Phase.{Phase}
use Rattle.card.specs.declared.Phase.TheVariants.{Idle, Waiting}
use Rattle.card.specs.declared.Card.{Card}
use Rattle.std.specs.Prelude.{Option, Some, None}
use Rattle.card.specs.declared.taking.Taken.{Taken}
use Rattle.card.specs.declared.taking.Taken.TheVariants as taking
use Rattle.card.specs.Loan.{Loan, usable}
use Rattle.card.specs.Parts.{without_wait, Response, telling}
use Rattle.card.specs.Soundness.{sound}
use Rattle.card.specs.Taking.{taken_for}
use Rattle.card.specs.Frames.{written, acknowledged, enq_for, on_enq, on_rec, authentic, aut_in, on_aut, on_trf, on_trb, on_ib, respond, on_frame}
use Rattle.card.specs.Events.{Call, octet_call, gap, session_end, meter_write, outcome_number, after_step, heard_as, heard, after_octet, after_gap, after_session_end, after_meter_write, after}
use Rattle.card_exports.specs.Outcome.{lent_right}

-- the number of a good frame, or of a write: none, or one of 7 to 13
abbrev Framed : ℕ → Type 0
Framed n = (n ≡ none) ⊎ ((too_long ≤ n) × (n ≤ wrong_cipher))

written_framed : (c : Card) (cause : Cause) (t : ℕ) (d : List ℕ) → Framed (written c cause t d).number
unfolding written
written_framed c cause t d =
    go (write_cases c.records cause t d (λ s n. (n ≡ none) ⊎ (too_long ≤ n)) (λ i g. inl refl) (λ n h. inr h))
  where
    go : ((written c cause t d).number ≡ none) ⊎ (too_long ≤ (written c cause t d).number) → Framed (written c cause t d).number
    go (inl e) = inl e
    go (inr h) = inr (h, omega (arith, write_number c.records cause t d))

enq_framed : (g : Answer ℕ) → Bounded g → (c : Card) (f : Fields) → Framed (enq_for g c f).number
unfolding enq_for
enq_framed (given i) h c f = inl refl
enq_framed (refused n) h c f = inr (h.0, omega (arith, h.1))
enq_framed (refused_at n offset) h c f = absurd h

cond_framed : (b : Bool) (r q : Response) → Framed r.number → Framed q.number → Framed (cond b r q).number
cond_framed true r q h k = h
cond_framed false r q h k = k

aut_framed : (p : Phase) (c : Card) (f : Fields) → Framed (aut_in p c f).number
unfolding aut_in acknowledged
aut_framed Idle c f = inl refl
aut_framed (Waiting adp tab n) c f =
    cond_framed (authentic c.identity.key c.exchange.na2 adp f) _ _ (written_framed (without_wait c) _ tab _) (inr (omega arith, omega arith))

respond_framed : (t : Option Taken) (c : Card) (loan : Loan) (f : Fields) (d : List ℕ) → Framed (respond t c loan f d).number
unfolding respond on_enq on_rec on_aut on_trf on_trb on_ib acknowledged
respond_framed (Some taking.Enq) c loan f d = enq_framed _ (readable_bounded (attributes_of c.records) f.tab) c f
respond_framed (Some taking.Rec) c loan f d = inl refl
respond_framed (Some taking.Aut) c loan f d = aut_framed c.exchange.phase c f
respond_framed (Some taking.Trf) c loan f d = written_framed (without_wait c) _ f.tab d
respond_framed (Some taking.Trb) c loan f d = written_framed (without_wait c) _ f.tab d
respond_framed (Some taking.Ib) c loan f d = inl refl
respond_framed None c loan f d = inl refl

-- a bad frame changes nothing more; no other frame gets such a number
Bad : ℕ → Type 0
Bad n = (n ≡ none → ⊥) × (n ≤ impossible_length)

never_bad : {X : Type 0} (n : ℕ) → Framed n → Bad n → X
unfolding Bad
never_bad n (inl e) b = absurd (b.0 e)
never_bad n (inr h) b = let z : ⊥ = omega (arith, h.0, b.1) in absurd z

heard_bad : (o : Outcome) (c : Card) (loan : Loan) → Bad (heard_as o c loan).number → (heard_as o c loan).card ≡ c
unfolding heard_as on_frame
heard_bad silent_outcome c loan b = refl
heard_bad (dropped_outcome number) c loan b = refl
heard_bad (complete_outcome k s) c loan b =
    never_bad _ (respond_framed (taken_for c.identity.address k (fields_of k s).ads) c loan (fields_of k s) (data_of k s)) b

heard_made : (o : Outcome) → Numbered o → (c : Card) (loan : Loan) → (heard_as o c loan).number < wrong_length
unfolding heard_as on_frame
heard_made silent_outcome n c loan = omega arith
heard_made (dropped_outcome number) n c loan = omega (arith, n.most)
heard_made (complete_outcome k s) n c loan = go (respond_framed (taken_for c.identity.address k (fields_of k s).ads) c loan (fields_of k s) (data_of k s))
  where
    go : {n : ℕ} → Framed n → n < wrong_length
    go (inl e) = omega arith
    go (inr h) = omega (arith, h.1)

module _ (c : Card) (whole : sound c ≡ true) where
  octet_bad : (o : ℕ) (loan : Loan) → Bad (after_octet c o loan).number → (after_octet c o loan).card.exchange ≡ c.exchange
  unfolding after_octet heard Bad
  octet_bad o loan = rw whole (by (usable loan))
    where
      s : Step
      s = on_octet o (reception_of c.receiver)

      by : (b : Bool) → Bad (cond b (heard_as s.outcome (after_step s c) loan) (telling c wrong_length)).number → (cond b (heard_as s.outcome (after_step s c) loan) (telling c wrong_length)).card.exchange ≡ c.exchange
      by true b = ap (λ (d : Card). d.exchange) (heard_bad s.outcome (after_step s c) loan b)
      by false b = refl

  -- 1 to 5: "frame dropped; all else kept"
  pub bad_frame_keeps : (k : Call) → ((after c k).number ≡ none → ⊥) → (after c k).number ≤ impossible_length → (after c k).card.exchange ≡ c.exchange
  unfolding after after_gap after_session_end after_meter_write written Bad
  bad_frame_keeps (octet_call o loan) n h = octet_bad o loan (n, h)
  bad_frame_keeps gap n h = rw whole
  bad_frame_keeps session_end n h = absurd (n (rw whole))
  bad_frame_keeps (meter_write t d) n h = rw whole

  gap_made : outcome_number (on_gap (reception_of c.receiver)).outcome < wrong_length
  unfolding on_gap
  gap_made = go (reception_of c.receiver)
    where
      go : (r : Reception) → outcome_number (on_gap r).outcome < wrong_length
      go awaiting = omega arith
      go skipping = omega arith
      go (partial s) = omega arith

  -- 17 is given where something that is lent has a wrong length, and nowhere else
  pub lent_made : (k : Call) → lent_right k ≡ true → (after c k).number < wrong_length
  unfolding after after_octet after_gap after_session_end after_meter_write heard written
  lent_made (octet_call o loan) e = rw (e, whole) (heard_made _ (octet_numbered o (reception_of c.receiver)) _ loan)
  lent_made gap e = rw whole gap_made
  lent_made session_end e = rw whole (omega arith)
  lent_made (meter_write t d) e = rw whole (omega (arith, write_number c.records Meter t d))
