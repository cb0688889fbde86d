-- What every call on a sound card comes to: a sound card again, no refusal with 12, and after a refusal no more than the receiver and the
-- phase another. By cases on the call, the receiver's outcome and what the card takes the frame for.
use Prim.Native.Nat.{ℕ, zero, suc, ◌≤◌}
use mathlib.Core.Path.{◌≡◌, refl, ap, ◌∙◌}
use mathlib.Core.Bool.{Bool, true, false, cond}
use mathlib.Core.List.{List, []}
use mathlib.Core.Logic.{◌⊎◌, inl, inr}
use native.Mathlib.Omega.{arith}
use lib.ListN.{length}
use Rattle.numbers.specs.Table.{none, cut_frame, not_open, broken_rule, wrong_cipher, wrong_length}
use Rattle.numbers.specs.Answer.{Answer, given, refused, refused_at, number_of}
use Rattle.frame.specs.declared.codes.Command.{Command}
use Rattle.frame.specs.declared.codes.Command.TheVariants.{Rec}
use Rattle.frame.specs.declared.content.Fields.{Fields}
use Rattle.frame.specs.Sizes.{most_programmed}
use Rattle.frame.specs.Layout.{layout_of, within}
use Rattle.frame.specs.Content.{fields_of, data_of}
use Rattle.records.specs.declared.Cause.{Cause}
use Rattle.records.specs.declared.Cause.TheVariants.{Meter, Programmed, Transferred, Broadcast}
use Rattle.records.specs.declared.Records.{Records}
use Rattle.records.specs.Finding.{attributes_of, find_readable}
use Rattle.records.specs.Writing.{write}
use Rattle.records.proofs.Refusals.{readable_bounded, number_bounded}
use Rattle.records.proofs.Writes.{write_sound, write-refused, write_number}
use Rattle.receiver.specs.Receiving.{Reception, awaiting, skipping, partial, Outcome, silent_outcome, dropped_outcome, complete_outcome, Step, to, on_octet, on_gap}
use Rattle.receiver.specs.Receiver.{most_held, reception_of}
use Rattle.receiver.proofs.Soundness.{SoundReception, holding-sound, holding_long, reception_sound}
use Rattle.receiver.proofs.Follows.{Numbered, octet_numbered, octet_keeps, gap_keeps}
use Rattle.receiver.proofs.Arrival.{completes}
use Rattle.card.specs.declared.Phase.{Phase}
use Rattle.card.specs.declared.Phase.TheVariants.{Idle, Waiting}
use Rattle.card.specs.declared.Card.{Card}
use Rattle.std.specs.Prelude.{Option, Some, None}
use Rattle.card.specs.declared.taking.Taken.{Taken}
use Rattle.card.specs.declared.taking.Taken.TheVariants as taking
use Rattle.card.specs.Loan.{Loan, usable}
use Rattle.card.specs.Parts.{with_records, without_wait, Response, responding, telling}
use Rattle.card.specs.Soundness.{sound, Sound}
use Rattle.card.specs.Taking.{taken_for}
use Rattle.card.specs.Frames.{written, acknowledged, enq_for, on_enq, waiting_for, on_rec, authentic, aut_in, on_aut, on_trf, on_trb, on_ib, respond, on_frame}
use Rattle.card.specs.Events.{Call, octet_call, gap, session_end, meter_write, outcome_number, after_step, heard_as, heard, after_octet, after_gap, after_session_end, after_meter_write, after}
use Rattle.card.proofs.Soundness.{sound_test}
use Rattle.card.proofs.Amounts.{good_data, rec_data, taken_data}

-- A sound card whose receiver has its 127 octets, as its type says.
pub record Whole (c : Card) : Type 0 where
  pub sound : Sound c
  pub long : length c.receiver.octets ≡ most_held

-- All but the receiver is as it was, and so is the wait, but that it may be over.
pub record Unchanged (c d : Card) : Type 0 where
  pub identity : d.identity ≡ c.identity
  pub records : d.records ≡ c.records
  pub content : d.exchange.content ≡ c.exchange.content
  pub na2 : d.exchange.na2 ≡ c.exchange.na2
  pub phase : (d.exchange.phase ≡ c.exchange.phase) ⊎ (d.exchange.phase ≡ Idle)

-- What holds of a response to a sound card.
pub record Course (c : Card) (r : Response) : Type 0 where
  pub fixed : r.card.identity ≡ c.identity
  pub whole : Whole r.card
  pub unbroken : r.number ≡ broken_rule → ⊥
  pub refused : (r.number ≡ none → ⊥) → Unchanged c r.card
  pub unmade : r.number ≡ wrong_length → (r.card ≡ c) × (r.reply ≡ [])

-- a number that is neither 12 nor 17
record Plain (n : ℕ) : Type 0 where
  no12 : n ≡ broken_rule → ⊥
  no17 : n ≡ wrong_length → ⊥

below : (n : ℕ) → n ≤ not_open → Plain n
below n h = record { no12 = λ e. omega arith; no17 = λ e. omega arith }

module _ (c : Card) where
  unchanged_self : Unchanged c c
  unchanged_self = record { identity = refl; records = refl; content = refl; na2 = refl; phase = inl refl }

  step_unchanged : (s : Step) → Unchanged c (after_step s c)
  step_unchanged s = record { identity = refl; records = refl; content = refl; na2 = refl; phase = inl refl }

  unmade_course : Whole c → Course c (telling c wrong_length)
  unmade_course h =
      record { fixed = refl; whole = h; unbroken = λ e. omega arith; refused = λ n. unchanged_self; unmade = λ e. (refl, refl) }

  done_course : (d : Card) (s : List ℕ) → d.identity ≡ c.identity → Whole d → Course c (responding d none s)
  done_course d s e h =
      record {
        fixed = e;
        whole = h;
        unbroken = λ e. omega arith;
        refused = λ n. absurd (n refl);
        unmade = λ e. let f : ⊥ = omega arith in absurd f;
      }

  refused_course : (d : Card) (n : ℕ) (s : List ℕ) → Plain n → Unchanged c d → Whole d → Course c (responding d n s)
  refused_course d n s p u h =
      record { fixed = u.identity; whole = h; unbroken = p.no12; refused = λ n. u; unmade = λ e. absurd (p.no17 e) }

cond_course : (c : Card) (b : Bool) (r q : Response) → Course c r → Course c q → Course c (cond b r q)
cond_course c true r q h k = h
cond_course c false r q h k = k

-- c is the card that the call was made on, and b that card after its receiver's step
module _ (c b : Card) (u : Unchanged c b) (h : Whole b) where
  idle_unchanged : Unchanged c (without_wait b)
  idle_unchanged = record { identity = u.identity; records = u.records; content = u.content; na2 = u.na2; phase = inr refl }

  idle_whole : Whole (without_wait b)
  idle_whole =
      record {
        sound = record { address = h.sound.address; key = h.sound.key; fits = omega arith; receiver = h.sound.receiver; records = h.sound.records };
        long = h.long;
      }

  records_whole : (cause : Cause) (t : ℕ) (d : List ℕ) → Whole (with_records (write b.records cause t d).records b)
  records_whole cause t d =
      record {
        sound =
            record {
              address = h.sound.address;
              key = h.sound.key;
              fits = h.sound.fits;
              receiver = h.sound.receiver;
              records = write_sound b.records cause t d h.sound.records;
            };
        long = h.long;
      }

  written_course : (cause : Cause) (t : ℕ) (d s : List ℕ) → Course c (responding (written b cause t d).card (written b cause t d).number s)
  unfolding written
  written_course cause t d s = go (write b.records cause t d).number refl
    where
      go : (n : ℕ) → (write b.records cause t d).number ≡ n → Course c (responding (with_records (write b.records cause t d).records b) n s)
      go zero e = done_course c _ s u.identity (records_whole cause t d)
      go (suc n) e =
          refused_course c _ (suc n) s (below (suc n) (omega (arith, write_number b.records cause t d)))
          (record {
            identity = u.identity;
            records = write-refused b.records cause t d (λ z. omega arith) ∙ u.records;
            content = u.content;
            na2 = u.na2;
            phase = u.phase;
          })
          (records_whole cause t d)

  waiting_whole : (loan : Loan) (f : Fields) (d : List ℕ) → length d ≤ most_programmed → Whole (waiting_for b loan f d)
  waiting_whole loan f d short =
      record {
        sound = record { address = h.sound.address; key = h.sound.key; fits = short; receiver = h.sound.receiver; records = h.sound.records };
        long = h.long;
      }

  enq_course : (g : Answer ℕ) → number_of g ≤ not_open → (f : Fields) → Course c (enq_for g b f)
  unfolding enq_for
  enq_course (given i) p f = done_course c (without_wait b) _ u.identity idle_whole
  enq_course (refused n) p f = refused_course c (without_wait b) n _ (below n p) idle_unchanged idle_whole
  enq_course (refused_at n offset) p f = refused_course c (without_wait b) n _ (below n p) idle_unchanged idle_whole

-- a write over the bus comes after the wait is over
module _ (c b : Card) (u : Unchanged c b) (h : Whole b) where
  bus_course : (cause : Cause) (t : ℕ) (d s : List ℕ) → Course c (responding (written (without_wait b) cause t d).card (written (without_wait b) cause t d).number s)
  bus_course = written_course c (without_wait b) (idle_unchanged c b u h) (idle_whole c b u h)

  aut_course : (p : Phase) (f : Fields) → Course c (aut_in p b f)
  unfolding aut_in acknowledged
  aut_course Idle f = done_course c b [] u.identity h
  aut_course (Waiting adp tab n) f =
      cond_course c (authentic b.identity.key b.exchange.na2 adp f) _ _ (bus_course (Programmed adp) tab _ _)
      (refused_course c (without_wait b) wrong_cipher _ (record { no12 = λ e. omega arith; no17 = λ e. omega arith }) (idle_unchanged c b u h) (idle_whole c b u h))

  respond_course : (t : Option Taken) (loan : Loan) (f : Fields) (d : List ℕ) → (t ≡ Some taking.Rec → within (layout_of Rec) (length d) ≡ true) → Course c (respond t b loan f d)
  unfolding respond on_enq on_rec on_aut on_trf on_trb on_ib acknowledged written
  respond_course (Some taking.Enq) loan f d w =
      let l = attributes_of b.records in
      enq_course c b u h (find_readable l f.tab) (number_bounded (find_readable l f.tab) (readable_bounded l f.tab)) f
  respond_course (Some taking.Rec) loan f d w = done_course c (waiting_for b loan f d) _ u.identity (waiting_whole c b u h loan f d (rec_data (length d) (w refl)))
  respond_course (Some taking.Aut) loan f d w = aut_course b.exchange.phase f
  respond_course (Some taking.Trf) loan f d w = bus_course (Transferred f.adp) f.tab d _
  respond_course (Some taking.Trb) loan f d w = bus_course (Broadcast f.adp) f.tab d []
  respond_course (Some taking.Ib) loan f d w = done_course c (without_wait b) [] u.identity (idle_whole c b u h)
  respond_course None loan f d w = done_course c b [] u.identity h

  heard_course : (o : Outcome) (loan : Loan) → Numbered o → ((k : Command) (s : List ℕ) → o ≡ complete_outcome k s → within (layout_of k) (length (data_of k s)) ≡ true) → Course c (heard_as o b loan)
  unfolding heard_as on_frame
  heard_course silent_outcome loan n w = done_course c b [] u.identity h
  heard_course (dropped_outcome number) loan n w = refused_course c b number [] (below number (omega (arith, n.most))) u h
  heard_course (complete_outcome k s) loan n w =
      let own = b.identity.address in
      let ads = (fields_of k s).ads in
      respond_course (taken_for own k ads) loan _ _ (taken_data own ads k _ (w k s refl))

module _ (c : Card) (h : Whole c) where
  reception : SoundReception (reception_of c.receiver)
  reception = reception_sound c.receiver h.sound.receiver h.long

  step_whole : (s : Step) → SoundReception s.next → Whole (after_step s c)
  step_whole s g =
      record {
        sound =
            record {
              address = h.sound.address;
              key = h.sound.key;
              fits = h.sound.fits;
              receiver = holding-sound s.next c.receiver g;
              records = h.sound.records;
            };
        long = holding_long s.next c.receiver g h.long;
      }

  octet_course : (o : ℕ) (loan : Loan) → Course c (heard c o loan)
  unfolding heard
  octet_course o loan =
      let s = on_octet o (reception_of c.receiver) in
      heard_course c (after_step s c) (step_unchanged c s) (step_whole s (octet_keeps o (reception_of c.receiver) reception)) s.outcome loan (octet_numbered o (reception_of c.receiver))
      (λ k f e. good_data k f (completes (reception_of c.receiver) o k f reception e).good)

  gap_course : Course c (telling (after_step (on_gap (reception_of c.receiver)) c) (outcome_number (on_gap (reception_of c.receiver)).outcome))
  unfolding on_gap
  gap_course = go (reception_of c.receiver) (step_whole (on_gap (reception_of c.receiver)) (gap_keeps (reception_of c.receiver) reception))
    where
      go : (r : Reception) → Whole (after_step (on_gap r) c) → Course c (telling (after_step (on_gap r) c) (outcome_number (on_gap r).outcome))
      go awaiting w = done_course c _ [] refl w
      go skipping w = done_course c _ [] refl w
      go (partial s) w = refused_course c _ cut_frame [] (below cut_frame (omega arith)) (step_unchanged c (on_gap (partial s))) w

  pub course : (k : Call) → Course c (after c k)
  unfolding after after_octet after_gap after_session_end after_meter_write written
  course (octet_call o loan) = rw (sound_test c h.sound) (cond_course c (usable loan) _ _ (octet_course o loan) (unmade_course c h))
  course gap = rw (sound_test c h.sound) gap_course
  course session_end =
      let s = to awaiting silent_outcome in
      rw (sound_test c h.sound) (done_course c _ [] refl (idle_whole c (after_step s c) (step_unchanged c s) (step_whole s tt)))
  course (meter_write t d) = rw (sound_test c h.sound) (written_course c c (unchanged_self c) h Meter t d [])

-- an unsound card is refused, and left as it is
pub broken_unmade : (c : Card) → sound c ≡ false → (k : Call) → ((after c k).card ≡ c) × ((after c k).reply ≡ [])
unfolding after after_octet after_gap after_session_end after_meter_write
broken_unmade c e (octet_call o loan) = rw e (go (usable loan))
  where
    go : (b : Bool) → ((cond b (telling c broken_rule) (telling c wrong_length)).card ≡ c) × ((cond b (telling c broken_rule) (telling c wrong_length)).reply ≡ [])
    go true = (refl, refl)
    go false = (refl, refl)
broken_unmade c e gap = rw e (refl, refl)
broken_unmade c e session_end = rw e (refl, refl)
broken_unmade c e (meter_write t d) = rw e (refl, refl)

-- 01, Numbers handed back: a meter write that is refused leaves the whole card
pub meter_write-refused : (c : Card) (t : ℕ) (d : List ℕ) → ((after_meter_write c t d).number ≡ none → ⊥) → (after_meter_write c t d).card ≡ c
unfolding after_meter_write written
meter_write-refused c t d = by (sound c)
  where
    by : (b : Bool) → ((cond b (written c Meter t d) (telling c broken_rule)).number ≡ none → ⊥) → (cond b (written c Meter t d) (telling c broken_rule)).card ≡ c
    by true n = ap (λ (s : Records). with_records s c) (write-refused c.records Meter t d n)
    by false n = refl
