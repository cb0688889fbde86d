-- A card that agrees with a book replies to a good frame, and tells its host, as setup and the book say.
use Prim.Native.Nat.{ℕ, zero, suc, ◌≤◌}
use mathlib.Core.Bool.{Bool, true, false, cond, ◌&&◌}
use mathlib.Core.List.{List, []}
use mathlib.Core.Path.{◌≡◌, refl, sym, ap, ◌∙◌}
use native.Mathlib.Omega.{arith}
use lib.Dec.{eqb}
use lib.ListN.{take}
use Rattle.octets.specs.Part.{same}
use Rattle.des.specs.Des.{encipher}
use Rattle.numbers.specs.Table.{too_long}
use Rattle.numbers.specs.Answer.{Answer, given, refused, refused_at, number_of}
use Rattle.frame.specs.declared.codes.Command.{Command}
use Rattle.frame.specs.declared.codes.Command.TheVariants.{Eos, Tra}
use Rattle.frame.specs.declared.content.Fields.{Fields}
use Rattle.frame.specs.Building.{frame_octets}
use Rattle.records.specs.declared.Attributes.{Attributes}
use Rattle.records.specs.Finding.{attributes_of, find_readable, record_at}
use Rattle.records.specs.Judging.{contents}
use Rattle.records.specs.Writing.{grant}
use Rattle.records.proofs.Grants.{readable_means}
use Rattle.records.proofs.InUse.{attributes_at}
use Rattle.records.proofs.Places.{found_used, found_tab}
use Rattle.records.proofs.Refusals.{Bounded, grant_bounded}
use Rattle.card.specs.declared.Phase.{Phase}
use Rattle.card.specs.declared.Phase.TheVariants.{Idle, Waiting}
use Rattle.card.specs.declared.Card.{Card}
use Rattle.std.specs.Prelude.{Option, Some, None}
use Rattle.card.specs.declared.taking.Taken.{Taken}
use Rattle.card.specs.declared.taking.Taken.TheVariants as taking
use Rattle.card.specs.Loan.{Loan}
use Rattle.card.specs.Parts.{Response, without_wait}
use Rattle.card.specs.Taking.{taken_for}
use Rattle.card.specs.Frames as card
use Rattle.history.specs.Book.{Setup, no_wait, exchange, Book, Cause, programmed, transferred, by_broadcast, cause_of, Role}
use Rattle.history.specs.Replies.{read_reply, write_reply, aut_reply, reply_as, reply_to, aut_number, number_as, number_to}
use Rattle.history.proofs.Agreement.{StationAgrees, wait_in, role_taken, same_role}

-- a write is acknowledged or answered with DRJ, by whether it is granted
acknowledged_as : (g : Answer ℕ) → Bounded g → (done : Command) (f : Fields) → frame_octets (card.acknowledgement (number_of g) done) f [] ≡ write_reply g done f
acknowledged_as (given i) h done f = refl
acknowledged_as (refused n) h done f = by n h.0
  where
    by : (m : ℕ) → too_long ≤ m → frame_octets (card.acknowledgement m done) f [] ≡ write_reply (refused n) done f
    by zero p = let z : ⊥ = omega arith in absurd z
    by (suc m) p = refl
acknowledged_as (refused_at n offset) h done f = absurd h

-- one part of the response that a test chooses
chosen : {X : Type 0} (part : Response → X) (a b : Bool) → a ≡ b → (x y : Response) (u v : X) → part x ≡ u → part y ≡ v → part (cond a x y) ≡ cond b u v
chosen part a b q x y u v e f = rw q (by b)
  where
    by : (z : Bool) → part (cond z x y) ≡ cond z u v
    by true = e
    by false = f

module _ (s : Setup) (c : Card) (b : Book) (h : StationAgrees s c b) where
  bus_reply : (cause : Cause) (t : ℕ) (d : List ℕ) (done : Command) (f : Fields) → (card.acknowledged (without_wait c) (cause_of cause) t d done f).reply ≡ write_reply (grant s.attributes (cause_of cause) t d) done f
  unfolding card.acknowledged card.written
  bus_reply cause t d done f =
      acknowledged_as (grant (attributes_of c.records) (cause_of cause) t d) (grant_bounded (attributes_of c.records) (cause_of cause) t d) done f
      ∙ ap (λ (l : List Attributes). write_reply (grant l (cause_of cause) t d) done f) h.attributes

  -- the record that is read holds what is noted for its TAB
  read_noted : (t i : ℕ) → find_readable (attributes_of c.records) t ≡ given i → contents (record_at c.records i) ≡ b.noted t
  read_noted t i e =
      let found = (readable_means (attributes_of c.records) t i e).0 in
      let in_use = found_used c.records t i found in
      let tab = ap (λ (a : Attributes). a.tab) (sym (attributes_at c.records i in_use)) ∙ found_tab (attributes_of c.records) t i found in
      (h.contents.each i in_use).octets ∙ ap b.noted tab

  enq_reply : (g : Answer ℕ) (f : Fields) → find_readable (attributes_of c.records) f.tab ≡ g → (card.enq_for g c f).reply ≡ read_reply g f (b.noted f.tab)
  unfolding card.enq_for
  enq_reply (given i) f e = rw (read_noted f.tab i e)
  enq_reply (refused n) f e = refl
  enq_reply (refused_at n offset) f e = refl

  aut_reply_lem : (p : Phase) → c.exchange.phase ≡ p → (f : Fields) → (card.aut_in p c f).reply ≡ aut_reply b.wait s f
  unfolding card.aut_in card.authentic
  aut_reply_lem Idle e f =
      let none : b.wait ≡ no_wait = sym h.wait ∙ ap (λ p. wait_in p c.exchange.content c.exchange.na2) e in
      rw none
  aut_reply_lem (Waiting adp tab n) e f =
      let d = take n.0 c.exchange.content in
      let waits : b.wait ≡ exchange adp tab d c.exchange.na2 = sym h.wait ∙ ap (λ p. wait_in p c.exchange.content c.exchange.na2) e in
      let tested = ap (λ (key : List ℕ). eqb adp f.adp && same f.za2 (encipher key c.exchange.na2)) h.key in
      rw waits (chosen (λ (r : Response). r.reply) _ _ tested (card.acknowledged (without_wait c) (cause_of (programmed adp)) tab d Eos f) _ _ _ (bus_reply (programmed adp) tab d Eos f) refl)

  respond_reply : (t : Option Taken) (loan : Loan) (f : Fields) (d : List ℕ) → (card.respond t c loan f d).reply ≡ reply_as (role_taken t) s b loan f d
  unfolding card.respond card.on_enq card.on_rec card.on_aut card.on_trf card.on_trb card.on_ib card.written reply_as
  respond_reply (Some taking.Enq) loan f d =
      enq_reply (find_readable (attributes_of c.records) f.tab) f refl ∙ ap (λ (l : List Attributes). read_reply (find_readable l f.tab) f (b.noted f.tab)) h.attributes
  respond_reply (Some taking.Rec) loan f d = rw h.key
  respond_reply (Some taking.Aut) loan f d = aut_reply_lem c.exchange.phase refl f
  respond_reply (Some taking.Trf) loan f d = bus_reply (transferred f.adp) f.tab d Tra f
  respond_reply (Some taking.Trb) loan f d = refl
  respond_reply (Some taking.Ib) loan f d = refl
  respond_reply None loan f d = refl

  pub reply_agrees : (k : Command) (loan : Loan) (f : Fields) (d : List ℕ) → (card.on_frame c loan k f d).reply ≡ reply_to k s b loan f d
  unfolding card.on_frame reply_to
  reply_agrees k loan f d =
      let role = ap (λ (own : List ℕ). role_taken (taken_for own k f.ads)) h.address ∙ same_role s k f in
      respond_reply (taken_for c.identity.address k f.ads) loan f d ∙ ap (λ (x : Role). reply_as x s b loan f d) role

  bus_number : (cause : Cause) (t : ℕ) (d : List ℕ) → (card.written (without_wait c) (cause_of cause) t d).number ≡ number_of (grant s.attributes (cause_of cause) t d)
  unfolding card.written
  bus_number cause t d = ap (λ (l : List Attributes). number_of (grant l (cause_of cause) t d)) h.attributes

  enq_number : (g : Answer ℕ) (f : Fields) → (card.enq_for g c f).number ≡ number_of g
  unfolding card.enq_for
  enq_number (given i) f = refl
  enq_number (refused n) f = refl
  enq_number (refused_at n offset) f = refl

  aut_number_lem : (p : Phase) → c.exchange.phase ≡ p → (f : Fields) → (card.aut_in p c f).number ≡ aut_number b.wait s f
  unfolding card.aut_in card.authentic card.acknowledged
  aut_number_lem Idle e f =
      let none : b.wait ≡ no_wait = sym h.wait ∙ ap (λ p. wait_in p c.exchange.content c.exchange.na2) e in
      rw none
  aut_number_lem (Waiting adp tab n) e f =
      let d = take n.0 c.exchange.content in
      let waits : b.wait ≡ exchange adp tab d c.exchange.na2 = sym h.wait ∙ ap (λ p. wait_in p c.exchange.content c.exchange.na2) e in
      let tested = ap (λ (key : List ℕ). eqb adp f.adp && same f.za2 (encipher key c.exchange.na2)) h.key in
      rw waits (chosen (λ (r : Response). r.number) _ _ tested (card.acknowledged (without_wait c) (cause_of (programmed adp)) tab d Eos f) _ _ _ (bus_number (programmed adp) tab d) refl)

  respond_number : (t : Option Taken) (loan : Loan) (f : Fields) (d : List ℕ) → (card.respond t c loan f d).number ≡ number_as (role_taken t) s b f d
  unfolding card.respond card.on_enq card.on_rec card.on_aut card.on_trf card.on_trb card.on_ib card.acknowledged number_as
  respond_number (Some taking.Enq) loan f d =
      enq_number (find_readable (attributes_of c.records) f.tab) f ∙ ap (λ (l : List Attributes). number_of (find_readable l f.tab)) h.attributes
  respond_number (Some taking.Rec) loan f d = refl
  respond_number (Some taking.Aut) loan f d = aut_number_lem c.exchange.phase refl f
  respond_number (Some taking.Trf) loan f d = bus_number (transferred f.adp) f.tab d
  respond_number (Some taking.Trb) loan f d = bus_number (by_broadcast f.adp) f.tab d
  respond_number (Some taking.Ib) loan f d = refl
  respond_number None loan f d = refl

  pub number_agrees : (k : Command) (loan : Loan) (f : Fields) (d : List ℕ) → (card.on_frame c loan k f d).number ≡ number_to k s b f d
  unfolding card.on_frame number_to
  number_agrees k loan f d =
      let role = ap (λ (own : List ℕ). role_taken (taken_for own k f.ads)) h.address ∙ same_role s k f in
      respond_number (taken_for c.identity.address k f.ads) loan f d ∙ ap (λ (x : Role). number_as x s b f d) role
