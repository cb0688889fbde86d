-- What a book notes: a granted meter write, a granted transfer, and REC then AUT over the wire, each octet with a loan of its own. With a session end
-- between REC and AUT nothing is noted.
use Prim.Native.Nat.{ℕ, zero, suc, ◌-◌}
use mathlib.Core.List.{List, [], ◌∷◌, ◌++◌}
use mathlib.Core.Path.{◌≡◌, refl, ap, ◌∙◌}
use lib.ListN.{length, replicate}
use borrow.Author.Tests.{eq-eqb, le-ltb}
use Rattle.octets.proofs.Impossible.{impossible}
use Rattle.octets.proofs.Same.{same_self}
use Rattle.numbers.specs.Answer.{given}
use Rattle.frame.specs.declared.codes.Command.{Command}
use Rattle.frame.specs.declared.codes.Command.TheVariants.{Rec, Aut, Trf, Trb}
use Rattle.frame.specs.Sizes.{longest_frame, address_width}
use Rattle.frame.specs.Content.{fields_of, data_of}
use Rattle.frame.specs.Checks.{inspected}
use Rattle.records.specs.Writing.{grant}
use Rattle.receiver.specs.Receiving.{awaiting, Outcome, silent_outcome, complete_outcome, on_octet, on_octets}
use Rattle.receiver.proofs.Frames.{good_frame}
use Rattle.card.specs.Loan.{Loan, Usable}
use Rattle.card.specs.Events.{Call, session_end, meter_write, octet_call}
use Rattle.card.specs.Feeding.{Handed, octets_in, last_loan, AllUsable}
use Rattle.history.specs.Book.{Setup, exchange, no_wait, Book, with_receiver, with_wait, Cause, metered, programmed, transferred, by_broadcast, cause_of, note, authenticated, role_of, on_role, on_frame, heard_as, heard, step, steps}
use Rattle.history.specs.Granted.{calls_sending, Authentic}

pub steps_append : (s : Setup) (h k : List Call) (b : Book) → steps s b (h ++ k) ≡ steps s (steps s b h) k
unfolding steps
steps_append s [] k b = refl
steps_append s (e ∷ h) k b = steps_append s h k (step s b e)

-- octets that end in a whole frame are not none
some_left : {X : Type 0} (n : ℕ) (y : Outcome) → [] ≡ replicate n silent_outcome ++ (y ∷ []) → X
some_left zero y e = impossible (cc)
some_left (suc n) y e = impossible (cc)

module _ (s : Setup) where
  octet_heard : (b : Book) (o : ℕ) (loan : Loan) → Usable loan → step s b (octet_call o loan) ≡ heard (on_octet o b.receiver) s loan b
  unfolding step
  octet_heard b o loan u = rw (le-ltb loan.reply longest_frame u.enough, eq-eqb _ _ u.eight)

  until : (f : List ℕ) (k : Command) (x : List Handed) → AllUsable x → (n : ℕ) (b : Book) → (on_octets (octets_in x) b.receiver).outcomes ≡ replicate n silent_outcome ++ (complete_outcome k f ∷ []) → (on_octets (octets_in x) b.receiver).last ≡ awaiting
      → steps s b (calls_sending x) ≡ on_frame k s (last_loan x) (fields_of k f) (data_of k f) (with_receiver awaiting b)
  unfolding on_octets steps heard_as
  until f k [] all n b e l = some_left n (complete_outcome k f) e
  until f k (h ∷ []) all zero b e l =
      let out : (on_octet h.octet b.receiver).outcome ≡ complete_outcome k f = cc in
      octet_heard b h.octet h.loan all.0 ∙ rw (l, out)
  until f k (h ∷ g ∷ x) all zero b e l = impossible (cc)
  until f k (h ∷ []) all (suc n) b e l = some_left n (complete_outcome k f) (cc)
  until f k (h ∷ g ∷ x) all (suc n) b e l =
      let out : (on_octet h.octet b.receiver).outcome ≡ silent_outcome = cc in
      let next = with_receiver (on_octet h.octet b.receiver).next b in
      let rest : (on_octets (octets_in (g ∷ x)) next.receiver).outcomes ≡ replicate n silent_outcome ++ (complete_outcome k f ∷ []) = cc in
      let here : step s b (octet_call h.octet h.loan) ≡ next = octet_heard b h.octet h.loan all.0 ∙ rw out in
      ap (λ (c : Book). steps s c (calls_sending (g ∷ x))) here ∙ until f k (g ∷ x) all.1 n next rest l

  -- a good frame that comes whole is heard with its last octet, and with what is lent with that octet
  pub frame_heard : (x : List Handed) → AllUsable x → (k : Command) → inspected (octets_in x) ≡ given k → (b : Book) → b.receiver ≡ awaiting
      → steps s b (calls_sending x) ≡ on_frame k s (last_loan x) (fields_of k (octets_in x)) (data_of k (octets_in x)) (with_receiver awaiting b)
  frame_heard x all k good b empty =
      let f = octets_in x in
      let e = ap (on_octets f) empty ∙ good_frame f k good in
      until f k x all (length f - 1) b (ap (λ c. c.outcomes) e) (ap (λ c. c.last) e)

-- a granted write is noted
pub note_granted : (s : Setup) (cause : Cause) (t : ℕ) (d : List ℕ) (b : Book) (i : ℕ) → grant s.attributes (cause_of cause) t d ≡ given i → (note s cause t d b).noted t ≡ d
unfolding note
note_granted s cause t d b i g = rw (g, eq-eqb t t refl)

pub meter_write_noted : (s : Setup) (b : Book) (t : ℕ) (d : List ℕ) (i : ℕ) → grant s.attributes (cause_of metered) t d ≡ given i → (step s b (meter_write t d)).noted t ≡ d
unfolding step
meter_write_noted s b t d i g = note_granted s metered t d b i g

module _ (s : Setup) (x : List Handed) (all : AllUsable x) (b : Book) (empty : b.receiver ≡ awaiting) (i : ℕ) where
  pub transfer_noted : inspected (octets_in x) ≡ given Trf → (fields_of Trf (octets_in x)).ads ≡ s.address
      → grant s.attributes (cause_of (transferred (fields_of Trf (octets_in x)).adp)) (fields_of Trf (octets_in x)).tab (data_of Trf (octets_in x)) ≡ given i
      → (steps s b (calls_sending x)).noted (fields_of Trf (octets_in x)).tab ≡ data_of Trf (octets_in x)
  unfolding on_frame role_of on_role
  transfer_noted good own g =
      let f = fields_of Trf (octets_in x) in
      rw (frame_heard s x all Trf good b empty, own, same_self)
      (note_granted s (transferred f.adp) f.tab (data_of Trf (octets_in x)) (with_wait no_wait (with_receiver awaiting b)) i g)

  pub broadcast_noted : inspected (octets_in x) ≡ given Trb → (fields_of Trb (octets_in x)).ads ≡ replicate address_width 0
      → grant s.attributes (cause_of (by_broadcast (fields_of Trb (octets_in x)).adp)) (fields_of Trb (octets_in x)).tab (data_of Trb (octets_in x)) ≡ given i
      → (steps s b (calls_sending x)).noted (fields_of Trb (octets_in x)).tab ≡ data_of Trb (octets_in x)
  unfolding on_frame role_of on_role
  broadcast_noted good everyone g =
      let f = fields_of Trb (octets_in x) in
      rw (frame_heard s x all Trb good b empty, everyone)
      (note_granted s (by_broadcast f.adp) f.tab (data_of Trb (octets_in x)) (with_wait no_wait (with_receiver awaiting b)) i g)

module _ (s : Setup) (x : List Handed) (first : AllUsable x) (y : List Handed) (second : AllUsable y) (a : Authentic s x y) (b : Book) (empty : b.receiver ≡ awaiting) where
  opened : Book
  opened = with_wait (exchange (fields_of Rec (octets_in x)).adp (fields_of Rec (octets_in x)).tab (data_of Rec (octets_in x)) (last_loan x).na2) (with_receiver awaiting b)

  rec_heard : steps s b (calls_sending x) ≡ opened
  unfolding opened on_frame role_of on_role
  rec_heard = frame_heard s x first Rec a.rec b empty ∙ rw (a.rec_own, same_self)

  pub exchange_noted : (i : ℕ) → grant s.attributes (cause_of (programmed (fields_of Rec (octets_in x)).adp)) (fields_of Rec (octets_in x)).tab (data_of Rec (octets_in x)) ≡ given i
      → (steps s b (calls_sending x ++ calls_sending y)).noted (fields_of Rec (octets_in x)).tab ≡ data_of Rec (octets_in x)
  unfolding opened on_frame role_of on_role authenticated
  exchange_noted i grants =
      rw (steps_append, rec_heard, frame_heard s y second Aut a.aut opened refl, a.aut_own, same_self, eq-eqb _ _ a.primary, a.cipher, same_self)
      (note_granted s _ (fields_of Rec (octets_in x)).tab (data_of Rec (octets_in x)) (with_wait no_wait (with_receiver awaiting opened)) i grants)

  pub ended_unnoted : (t : ℕ) → (steps s b (calls_sending x ++ (session_end ∷ calls_sending y))).noted t ≡ b.noted t
  unfolding opened on_frame role_of on_role authenticated steps step
  ended_unnoted t =
      rw (steps_append, rec_heard, frame_heard s y second Aut a.aut (with_receiver awaiting (with_wait no_wait opened)) refl, a.aut_own, same_self)
