-- How a call gets from a sound card to the next: by a chain of changes, each to one part. What every such change keeps, every call keeps.
use Prim.Native.Nat.{ℕ, ◌≤◌}
use mathlib.Core.Path.{◌≡◌, refl}
use mathlib.Core.Bool.{Bool, true, false, cond, and-eq-true_iff}
use mathlib.Core.List.{List}
use lib.Dec.{eqb, leb}
use lib.ListN.{length}
use borrow.Author.Tests.{eqb-true}
use Rattle.numbers.specs.Answer.{Answer, given, refused, refused_at}
use Rattle.frame.specs.declared.codes.Command.{Command}
use Rattle.frame.specs.declared.codes.Command.TheVariants.{Rec}
use Rattle.frame.specs.declared.content.Fields.{Fields}
use Rattle.frame.specs.Sizes.{longest_frame, number_width, most_programmed}
use Rattle.frame.specs.Layout.{layout_of, within}
use Rattle.frame.specs.Content.{fields_of, data_of}
use Rattle.records.specs.declared.Cause.{Cause}
use Rattle.records.specs.declared.Cause.TheVariants.{Meter, Programmed, Transferred, Broadcast}
use Rattle.records.specs.Finding.{attributes_of, find_readable}
use Rattle.records.specs.Writing.{write}
use Rattle.receiver.specs.Receiving.{Reception, awaiting, Outcome, silent_outcome, dropped_outcome, complete_outcome, on_octet, on_gap}
use Rattle.receiver.specs.Receiver.{reception_of, holding}
use Rattle.receiver.proofs.Soundness.{SoundReception, reception_sound}
use Rattle.receiver.proofs.Follows.{octet_keeps, gap_keeps}
use Rattle.receiver.proofs.Arrival.{completes}
use Rattle.card.specs.declared.Phase.{Phase}
use Rattle.card.specs.declared.Phase.TheVariants.{Idle, Waiting}
use Rattle.card.specs.declared.Card.{Card}
use Rattle.std.specs.Prelude.{Option, Some, None}
use Rattle.card.specs.declared.taking.Taken.{Taken}
use Rattle.card.specs.declared.taking.Taken.TheVariants as taking
use Rattle.card.specs.Loan.{Loan, usable}
use Rattle.card.specs.Parts.{with_records, with_receiver, without_wait, Response}
use Rattle.card.specs.Taking.{taken_for}
use Rattle.card.specs.Frames.{written, acknowledged, enq_for, on_enq, waiting_for, on_rec, authentic, aut_in, on_aut, on_trf, on_trb, on_ib, respond, on_frame}
use Rattle.card.specs.Events.{Call, octet_call, gap, session_end, meter_write, after_step, heard_as, heard, after_octet, after_gap, after_session_end, after_meter_write, after}
use Rattle.card.proofs.Soundness.{sound_test}
use Rattle.card.proofs.Amounts.{good_data, rec_data, taken_data}
use Rattle.card.proofs.Keeping.{Whole}

-- another reception; no wait; an exchange that waits; a write, granted or not
pub data Reached (c : Card) : Card → Type 0 where
  same : Reached c c
  receives : {d : Card} (r : Reception) → SoundReception r → Reached c d → Reached c (with_receiver (holding r d.receiver) d)
  ends : {d : Card} → Reached c d → Reached c (without_wait d)
  waits : {d : Card} (loan : Loan) (f : Fields) (s : List ℕ) → length loan.na2 ≡ number_width → length s ≤ most_programmed → Reached c d → Reached c (waiting_for d loan f s)
  writes : {d : Card} (cause : Cause) (t : ℕ) (s : List ℕ) → Reached c d → Reached c (with_records (write d.records cause t s).records d)

module _ (c : Card) where
  cond_reached : (b : Bool) (r q : Response) → Reached c r.card → Reached c q.card → Reached c (cond b r q).card
  cond_reached true r q h k = h
  cond_reached false r q h k = k

  module _ (d : Card) (h : Reached c d) where
    bus_reached : (cause : Cause) (t : ℕ) (s : List ℕ) → Reached c (written (without_wait d) cause t s).card
    unfolding written
    bus_reached cause t s = writes cause t s (ends h)

    enq_reached : (g : Answer ℕ) (f : Fields) → Reached c (enq_for g d f).card
    unfolding enq_for
    enq_reached (given i) f = ends h
    enq_reached (refused n) f = ends h
    enq_reached (refused_at n offset) f = ends h

    aut_reached : (p : Phase) (f : Fields) → Reached c (aut_in p d f).card
    unfolding aut_in acknowledged
    aut_reached Idle f = h
    aut_reached (Waiting adp tab n) f = cond_reached (authentic d.identity.key d.exchange.na2 adp f) _ _ (bus_reached (Programmed adp) tab _) (ends h)

    respond_reached : (t : Option Taken) (loan : Loan) → length loan.na2 ≡ number_width → (f : Fields) (s : List ℕ) → (t ≡ Some taking.Rec → within (layout_of Rec) (length s) ≡ true) → Reached c (respond t d loan f s).card
    unfolding respond on_enq on_rec on_aut on_trf on_trb on_ib acknowledged
    respond_reached (Some taking.Enq) loan e f s w = enq_reached (find_readable (attributes_of d.records) f.tab) f
    respond_reached (Some taking.Rec) loan e f s w = waits loan f s e (rec_data (length s) (w refl)) h
    respond_reached (Some taking.Aut) loan e f s w = aut_reached d.exchange.phase f
    respond_reached (Some taking.Trf) loan e f s w = bus_reached (Transferred f.adp) f.tab s
    respond_reached (Some taking.Trb) loan e f s w = bus_reached (Broadcast f.adp) f.tab s
    respond_reached (Some taking.Ib) loan e f s w = ends h
    respond_reached None loan e f s w = h

    heard_reached : (o : Outcome) (loan : Loan) → length loan.na2 ≡ number_width → ((k : Command) (s : List ℕ) → o ≡ complete_outcome k s → within (layout_of k) (length (data_of k s)) ≡ true) → Reached c (heard_as o d loan).card
    unfolding heard_as on_frame
    heard_reached silent_outcome loan e w = h
    heard_reached (dropped_outcome fault) loan e w = h
    heard_reached (complete_outcome k s) loan e w =
        let own = d.identity.address in
        let ads = (fields_of k s).ads in
        respond_reached (taken_for own k ads) loan e _ _ (taken_data own ads k _ (w k s refl))

  module _ (whole : Whole c) where
    reception : SoundReception (reception_of c.receiver)
    reception = reception_sound c.receiver whole.sound.receiver whole.long

    octet_reached : (o : ℕ) (loan : Loan) → length loan.na2 ≡ number_width → Reached c (heard c o loan).card
    unfolding heard
    octet_reached o loan e =
        let s = on_octet o (reception_of c.receiver) in
        heard_reached (after_step s c) (receives s.next (octet_keeps o (reception_of c.receiver) reception) same) s.outcome loan e
        (λ k f q. good_data k f (completes (reception_of c.receiver) o k f reception q).good)

    lent_reached : (b : Bool) (o : ℕ) (loan : Loan) (r : Response) → (b ≡ true → length loan.na2 ≡ number_width) → Reached c r.card → Reached c (cond b (heard c o loan) r).card
    lent_reached true o loan r e h = octet_reached o loan (e refl)
    lent_reached false o loan r e h = h

    pub reached : (k : Call) → Reached c (after c k).card
    unfolding after after_octet after_gap after_session_end after_meter_write written
    reached (octet_call o loan) =
        rw (sound_test c whole.sound)
        (lent_reached (usable loan) o loan _ (λ e. eqb-true _ _ ((and-eq-true_iff (eqb (length loan.na2) number_width) (leb longest_frame loan.reply)).0 e).0) same)
    reached gap = rw (sound_test c whole.sound) (receives (on_gap (reception_of c.receiver)).next (gap_keeps (reception_of c.receiver) reception) same)
    reached session_end = rw (sound_test c whole.sound) (ends (receives awaiting tt same))
    reached (meter_write t d) = rw (sound_test c whole.sound) (writes Meter t d same)
