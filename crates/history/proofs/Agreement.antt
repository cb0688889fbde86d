-- A sound card and a book that agree still do after every call.
use Prim.Native.Nat.{ℕ}
use mathlib.Core.Bool.{Bool, true, false, cond, not, ◌&&◌, ◌||◌}
use mathlib.Core.List.{List}
use mathlib.Core.Path.{◌≡◌, refl, sym, ap, subst, ◌∙◌}
use lib.Dec.{eqb, leb, ltb}
use lib.ListN.{length, take, replicate}
use borrow.Author.Tests.{leb-true, leb-false, lt-ltb, le-ltb}
use Rattle.octets.specs.Part.{same}
use Rattle.octets.proofs.Splice.{take-fronted}
use Rattle.des.specs.Des.{encipher}
use Rattle.numbers.specs.Answer.{Answer, given, refused, refused_at}
use Rattle.frame.specs.Addresses.{broadcast}
use Rattle.frame.specs.declared.codes.Command.{Command}
use Rattle.frame.specs.declared.codes.Command.TheVariants.{Enq, Dat, Rec, Ech, Aut, Eos, Aso, Rso, Ib, Drj, Arj, Trf, Trb, Tra, Pre, Sel}
use Rattle.frame.specs.declared.content.Fields.{Fields}
use Rattle.frame.specs.Sizes.{longest_frame, address_width, number_width}
use Rattle.frame.specs.Content.{fields_of, data_of}
use Rattle.records.specs.Finding.{attributes_of, find_readable}
use Rattle.records.proofs.Writes.{write_attributes}
use Rattle.records.specs.Setup.{Rules}
use Rattle.receiver.specs.Receiving.{Reception, awaiting, Outcome, silent_outcome, dropped_outcome, complete_outcome, on_octet, on_gap}
use Rattle.receiver.specs.Receiver.{reception_of}
use Rattle.receiver.proofs.Soundness.{SoundReception, reception_sound, holding_reception}
use Rattle.receiver.proofs.Follows.{octet_keeps, gap_keeps}
use Rattle.card.specs.declared.Phase.{Phase}
use Rattle.card.specs.declared.Phase.TheVariants.{Idle, Waiting}
use Rattle.card.specs.declared.Exchange.{Exchange as CardExchange}
use Rattle.card.specs.declared.Card.{Card}
use Rattle.std.specs.Prelude.{Option, Some, None}
use Rattle.card.specs.declared.taking.Taken.{Taken}
use Rattle.card.specs.declared.taking.Taken.TheVariants as taking
use Rattle.card.specs.Loan.{Loan}
use Rattle.card.specs.Parts.{Response, without_wait, with_exchange}
use Rattle.card.specs.Taking.{taken_if, taken_for}
use Rattle.card.specs.Frames as card
use Rattle.card.specs.Events as card_events
use Rattle.card.specs.Events.{Call, octet_call, gap, session_end, meter_write, after}
use Rattle.card.proofs.Soundness.{sound_test}
use Rattle.card.proofs.Keeping.{Whole}
use Rattle.card.proofs.Station.{frame_receiver}
use Rattle.history.specs.Book.{Setup, Wait, no_wait, exchange, Book, with_receiver, with_wait, Cause, metered, programmed, transferred, by_broadcast, cause_of, note, authenticated, Role, reading, programming, authentication, transfer, broadcast_transfer, initialisation, not_taken, role_of, on_role, on_frame, heard_as, heard, step}
use Rattle.history.proofs.Notes.{AsNoted, write_noted}

-- the exchange that a card waits with
abbrev pub wait_in : Phase → List ℕ → List ℕ → Wait
wait_in Idle content na2 = no_wait
wait_in (Waiting adp tab n) content na2 = exchange adp tab (take n.0 content) na2

abbrev pub wait_of : CardExchange → Wait
wait_of e = wait_in e.phase e.content e.na2

-- But for the receivers: the card has what setup gave, waits as the book does, and its records hold what the book has noted.
pub record StationAgrees (s : Setup) (c : Card) (b : Book) : Type 0 where
  pub address : c.identity.address ≡ s.address
  pub key : c.identity.key ≡ s.key
  pub attributes : attributes_of c.records ≡ s.attributes
  pub contents : AsNoted c.records b.noted
  pub wait : wait_of c.exchange ≡ b.wait

pub record Agrees (s : Setup) (c : Card) (b : Book) : Type 0 where
  pub station : StationAgrees s c b
  pub reception : reception_of c.receiver ≡ b.receiver

-- the book reads 17 from the loan as the card does
not_under : (n m : ℕ) → ltb m n ≡ not (leb n m)
not_under n m = by (leb n m) refl
  where
    by : (y : Bool) → leb n m ≡ y → ltb m n ≡ not y
    by true e = le-ltb m n (leb-true n m e)
    by false e = lt-ltb m n (leb-false n m e)

-- what the card takes a frame for, in the book's terms
abbrev pub role_taken : Option Taken → Role
role_taken (Some taking.Enq) = reading
role_taken (Some taking.Rec) = programming
role_taken (Some taking.Aut) = authentication
role_taken (Some taking.Trf) = transfer
role_taken (Some taking.Trb) = broadcast_transfer
role_taken (Some taking.Ib) = initialisation
role_taken None = not_taken

role_if : (b : Bool) (t : Taken) → role_taken (taken_if b t) ≡ cond b (role_taken (Some t)) not_taken
role_if true t = refl
role_if false t = refl

module _ (s : Setup) where
  -- card and book take the same frames
  pub same_role : (k : Command) (f : Fields) → role_taken (taken_for s.address k f.ads) ≡ role_of k s f
  unfolding taken_for role_of broadcast
  same_role Enq f = role_if (same f.ads s.address) taking.Enq
  same_role Rec f = role_if (same f.ads s.address) taking.Rec
  same_role Aut f = role_if (same f.ads s.address) taking.Aut
  same_role Trf f = role_if (same f.ads s.address) taking.Trf
  same_role Trb f = role_if (same f.ads (replicate address_width 0)) taking.Trb
  same_role Ib f = role_if (same f.ads (replicate address_width 0)) taking.Ib
  same_role Dat f = refl
  same_role Ech f = refl
  same_role Eos f = refl
  same_role Aso f = refl
  same_role Rso f = refl
  same_role Drj f = refl
  same_role Arj f = refl
  same_role Tra f = refl
  same_role Pre f = refl
  same_role Sel f = refl

  cond_agrees : (x y : Bool) → x ≡ y → (r q : Response) (a b : Book) → StationAgrees s r.card a → StationAgrees s q.card b → StationAgrees s (cond x r q).card (cond y a b)
  cond_agrees x y e r q a b h k = rw e (by y)
    where
      by : (z : Bool) → StationAgrees s (cond z r q).card (cond z a b)
      by true = h
      by false = k

  loan_agrees : (x y : Bool) (r q : Response) (a b : Book) → Agrees s r.card a → Agrees s q.card b → Agrees s (cond (x && y) r q).card (cond (not y || not x) b a)
  loan_agrees true true r q a b h k = h
  loan_agrees true false r q a b h k = k
  loan_agrees false true r q a b h k = k
  loan_agrees false false r q a b h k = k

  module _ (c : Card) (b : Book) (h : StationAgrees s c b) where
    -- another exchange, in both
    waits_agree : (e : CardExchange) (w : Wait) → wait_of e ≡ w → StationAgrees s (with_exchange e c) (with_wait w b)
    waits_agree e w q = record { address = h.address; key = h.key; attributes = h.attributes; contents = h.contents; wait = q }

    idle_agrees : StationAgrees s (without_wait c) (with_wait no_wait b)
    idle_agrees = waits_agree _ no_wait refl

    opened_agrees : (loan : Loan) (f : Fields) (d : List ℕ) → StationAgrees s (card.waiting_for c loan f d) (with_wait (exchange f.adp f.tab d loan.na2) b)
    opened_agrees loan f d =
        waits_agree _ (exchange f.adp f.tab d loan.na2) (ap (λ (l : List ℕ). exchange f.adp f.tab l loan.na2) (take-fronted d c.exchange.content))

    written_agrees : Rules c.records → (cause : Cause) (t : ℕ) (d : List ℕ) → StationAgrees s (card.written c (cause_of cause) t d).card (note s cause t d b)
    unfolding card.written note
    written_agrees rules cause t d =
        record {
          address = h.address;
          key = h.key;
          attributes = write_attributes c.records (cause_of cause) t d ∙ h.attributes;
          contents = rw (← h.attributes) (write_noted c.records rules b.noted h.contents (cause_of cause) t d);
          wait = h.wait;
        }

  module _ (c : Card) (b : Book) (h : StationAgrees s c b) (rules : Rules c.records) where
    enq_agrees : (g : Answer ℕ) (f : Fields) → StationAgrees s (card.enq_for g c f).card (with_wait no_wait b)
    unfolding card.enq_for
    enq_agrees (given i) f = idle_agrees c b h
    enq_agrees (refused n) f = idle_agrees c b h
    enq_agrees (refused_at n offset) f = idle_agrees c b h

    -- AUT, by whether an exchange waits
    aut_agrees : (p : Phase) → c.exchange.phase ≡ p → (f : Fields) → StationAgrees s (card.aut_in p c f).card (authenticated b.wait s f (with_wait no_wait b))
    unfolding card.aut_in card.authentic card.acknowledged authenticated
    aut_agrees Idle e f =
        let none : b.wait ≡ no_wait = sym h.wait ∙ ap (λ p. wait_in p c.exchange.content c.exchange.na2) e in
        rw none (waits_agree c b h c.exchange no_wait (h.wait ∙ none))
    aut_agrees (Waiting adp tab n) e f =
        let d = take n.0 c.exchange.content in
        let waits : b.wait ≡ exchange adp tab d c.exchange.na2 = sym h.wait ∙ ap (λ p. wait_in p c.exchange.content c.exchange.na2) e in
        let ended = idle_agrees c b h in
        rw waits
        (cond_agrees _ _ (ap (λ (key : List ℕ). eqb adp f.adp && same f.za2 (encipher key c.exchange.na2)) h.key) _ _ _ _ (written_agrees (without_wait c) (with_wait no_wait b) ended rules (programmed adp) tab d) ended)

    respond_agrees : (t : Option Taken) (loan : Loan) (f : Fields) (d : List ℕ) → StationAgrees s (card.respond t c loan f d).card (on_role (role_taken t) s loan f d b)
    unfolding card.respond card.on_enq card.on_rec card.on_aut card.on_trf card.on_trb card.on_ib card.acknowledged on_role
    respond_agrees (Some taking.Enq) loan f d = enq_agrees (find_readable (attributes_of c.records) f.tab) f
    respond_agrees (Some taking.Rec) loan f d = opened_agrees c b h loan f d
    respond_agrees (Some taking.Aut) loan f d = aut_agrees c.exchange.phase refl f
    respond_agrees (Some taking.Trf) loan f d = written_agrees (without_wait c) (with_wait no_wait b) (idle_agrees c b h) rules (transferred f.adp) f.tab d
    respond_agrees (Some taking.Trb) loan f d = written_agrees (without_wait c) (with_wait no_wait b) (idle_agrees c b h) rules (by_broadcast f.adp) f.tab d
    respond_agrees (Some taking.Ib) loan f d = idle_agrees c b h
    respond_agrees None loan f d = h

    -- a good frame keeps card and book in agreement, whatever their receivers hold
    pub frame_agrees : (k : Command) (loan : Loan) (f : Fields) (d : List ℕ) → StationAgrees s (card.on_frame c loan k f d).card (on_frame k s loan f d b)
    unfolding card.on_frame on_frame
    frame_agrees k loan f d =
        let role = ap (λ (own : List ℕ). role_taken (taken_for own k f.ads)) h.address ∙ same_role k f in
        subst (λ (x : Role). StationAgrees s (card.respond (taken_for c.identity.address k f.ads) c loan f d).card (on_role x s loan f d b)) role
        (respond_agrees (taken_for c.identity.address k f.ads) loan f d)

  -- a good frame leaves the book's receiver
  aut_receiver : (w : Wait) (f : Fields) (b : Book) → (authenticated w s f b).receiver ≡ b.receiver
  unfolding authenticated note
  aut_receiver no_wait f b = refl
  aut_receiver (exchange adp tab d na2) f b = by (eqb adp f.adp && same f.za2 (encipher s.key na2))
    where
      by : (x : Bool) → (cond x (note s (programmed adp) tab d b) b).receiver ≡ b.receiver
      by true = refl
      by false = refl

  book_receiver : (k : Role) (loan : Loan) (f : Fields) (d : List ℕ) (b : Book) → (on_role k s loan f d b).receiver ≡ b.receiver
  unfolding on_role note
  book_receiver reading loan f d b = refl
  book_receiver programming loan f d b = refl
  book_receiver authentication loan f d b = aut_receiver b.wait f (with_wait no_wait b)
  book_receiver transfer loan f d b = refl
  book_receiver broadcast_transfer loan f d b = refl
  book_receiver initialisation loan f d b = refl
  book_receiver not_taken loan f d b = refl

  heard_agrees : (c : Card) (b : Book) → Agrees s c b → Rules c.records → (o : Outcome) (loan : Loan) → Agrees s (card_events.heard_as o c loan).card (heard_as o s loan b)
  unfolding card_events.heard_as heard_as on_frame
  heard_agrees c b h rules silent_outcome loan = h
  heard_agrees c b h rules (dropped_outcome fault) loan = h
  heard_agrees c b h rules (complete_outcome k o) loan =
      let f = fields_of k o in
      let d = data_of k o in
      record {
        station = frame_agrees c b h.station rules k loan f d;
        reception = ap reception_of (frame_receiver c loan k f d) ∙ h.reception ∙ sym (book_receiver (role_of k s f) loan f d b);
      }

  module _ (c : Card) (whole : Whole c) (b : Book) (h : Agrees s c b) where
    partly : SoundReception (reception_of c.receiver)
    partly = reception_sound c.receiver whole.sound.receiver whole.long

    -- another reception, in both
    receiving_agrees : (r : Reception) → SoundReception r → Agrees s (card_events.after_step (record { next = r; outcome = silent_outcome }) c) (with_receiver r b)
    receiving_agrees r t =
        record {
          station = record { address = h.station.address; key = h.station.key; attributes = h.station.attributes; contents = h.station.contents; wait = h.station.wait };
          reception = holding_reception r c.receiver t;
        }

    heard_octet : (o : ℕ) (loan : Loan) → Agrees s (card_events.heard c o loan).card (heard (on_octet o b.receiver) s loan b)
    unfolding card_events.heard
    heard_octet o loan =
        let r = on_octet o (reception_of c.receiver) in
        subst (λ (q : Reception). Agrees s (card_events.heard_step r c loan).card (heard (on_octet o q) s loan b)) h.reception
        (heard_agrees (card_events.after_step r c) (with_receiver r.next b) (receiving_agrees r.next (octet_keeps o _ partly)) whole.sound.records.rules r.outcome loan)

    octet_agrees : (o : ℕ) (loan : Loan) → Agrees s (card_events.after_octet c o loan).card (step s b (octet_call o loan))
    unfolding card_events.after_octet step
    octet_agrees o loan =
        rw (sound_test c whole.sound, not_under longest_frame loan.reply)
        (loan_agrees (eqb (length loan.na2) number_width) (leb longest_frame loan.reply) (card_events.heard c o loan) _ _ b (heard_octet o loan) h)

    pub step_agrees : (k : Call) → Agrees s (after c k).card (step s b k)
    unfolding after card_events.after_gap card_events.after_session_end card_events.after_meter_write step note card.written
    step_agrees (octet_call o loan) = octet_agrees o loan
    step_agrees gap =
        rw (sound_test c whole.sound, ← h.reception) (receiving_agrees (on_gap (reception_of c.receiver)).next (gap_keeps _ partly))
    step_agrees session_end =
        let emptied = receiving_agrees awaiting tt in
        rw (sound_test c whole.sound) (record { station = idle_agrees _ _ emptied.station; reception = emptied.reception })
    step_agrees (meter_write t d) =
        rw (sound_test c whole.sound) (record { station = written_agrees c b h.station whole.sound.records.rules metered t d; reception = h.reception })
