-- What is granted is written, after every history: no grant uses a later one up. So neither a book that notes nothing nor a card that refuses all meets
-- the claim.
use Prim.Native.Nat.{ℕ, ◌<◌, ◌≤◌}
use mathlib.Core.List.{List, [], ◌∷◌, ◌++◌}
use mathlib.Core.Path.{◌≡◌, refl, ap, subst, ◌∙◌}
use mathlib.Core.Bool.{true}
use lib.ListN.{length, replicate}
use Rattle.numbers.specs.Table.{none}
use Rattle.numbers.specs.Answer as answer
use Rattle.frame.specs.declared.codes.Command.TheVariants.{Rec, Trf, Trb}
use Rattle.frame.specs.Sizes.{address_width}
use Rattle.frame.specs.Content.{fields_of, data_of}
use Rattle.frame.specs.Checks.{inspected}
use Rattle.label.specs.Utf8.{well_formed}
use Rattle.label.specs.Character.{characters}
use Rattle.numbers.specs.declared.Characters.{Characters}
use Rattle.records.specs.declared.Kind.TheVariants.{Label}
use Rattle.records.specs.declared.Record.{Record}
use Rattle.records.specs.declared.Records.{Records}
use Rattle.records.specs.Judging.{contents}
use Rattle.records.specs.Finding.{attributes_of, record_at}
use Rattle.records.specs.Writing.{grant}
use Rattle.records.specs.Setup.{Rules}
use Rattle.receiver.specs.Receiving.{awaiting}
use Rattle.card.specs.Setup.{after_setup}
use Rattle.card.proofs.Fresh.{setup_whole}
use Rattle.card.specs.Events.{Call, session_end, meter_write}
use Rattle.card.specs.Feeding.{Handed, octets_in, AllUsable}
use Rattle.history.specs.Book.{Setup, Book, no_wait, with_receiver, with_wait, Cause, metered, programmed, transferred, by_broadcast, cause_of, step, steps, setup_of, fresh, book_of}
use Rattle.history.specs.Claim.{Holds, run, Arrays}
use Rattle.history.specs.Granted.{TextWithin, Acceptable, Named, Granted, calls_sending, Authentic}
use Rattle.history.proofs.Start.{setup_accepted}
use Rattle.history.proofs.History.{run_whole, history_kept, kept_in_use, kept_attributes}
use Rattle.history.proofs.Grants.{acceptable_means, granted_means}
use Rattle.history.proofs.Noted.{steps_append, meter_write_noted, transfer_noted, broadcast_noted, exchange_noted}

module _ (address key : List ℕ) (first : Records) (arrays : Arrays first) (accepted : (after_setup address key first).number ≡ none) (past : List Call) where
  abbrev s : Setup
  s = setup_of address key first

  rules : Rules first
  rules = (setup_accepted address key first accepted).sound.rules

  finds : (cause : Cause) (t : ℕ) (d : List ℕ) (place : ℕ) → Granted first cause t d place → grant (attributes_of first) (cause_of cause) t d ≡ answer.given place
  finds cause t d place = (granted_means first arrays rules cause t d place).1

  -- what the book has last noted for a TAB, the record with that TAB holds
  held : (h : List Call) (t : ℕ) (d : List ℕ) (place : ℕ) → Named first t place → (book_of address key first h).noted t ≡ d → Holds d (record_at (run (after_setup address key first).card h).records place)
  held h t d place n e =
      subst (λ (x : List ℕ). Holds x (record_at (run (after_setup address key first).card h).records place)) (ap (book_of address key first h).noted n.tab ∙ e)
      ((history_kept address key first arrays accepted h).each place n.in_use)

  -- the book between frames, after any past and a session end
  ended : Book
  ended = with_receiver awaiting (with_wait no_wait (steps s (fresh first) past))

  after_end : (h : List Call) (t : ℕ) (d : List ℕ) → (steps s ended h).noted t ≡ d → (book_of address key first (past ++ (session_end ∷ h))).noted t ≡ d
  unfolding ended steps step
  after_end h t d e = ap (λ (b : Book). b.noted t) (steps_append s past (session_end ∷ h) (fresh first)) ∙ e

  pub meter_written : (t : ℕ) (d : List ℕ) (place : ℕ) → Granted first metered t d place
      → Holds d (record_at (run (after_setup address key first).card (past ++ (meter_write t d ∷ []))).records place)
  unfolding steps
  meter_written t d place g =
      held (past ++ (meter_write t d ∷ [])) t d place g.named
      (ap (λ (b : Book). b.noted t) (steps_append s past (meter_write t d ∷ []) (fresh first)) ∙ meter_write_noted s (steps s (fresh first) past) t d place (finds metered t d place g))

  module _ (x : List Handed) (all : AllUsable x) (place : ℕ) where
    pub transfer_written : inspected (octets_in x) ≡ answer.given Trf → (fields_of Trf (octets_in x)).ads ≡ address → Granted first (transferred (fields_of Trf (octets_in x)).adp) (fields_of Trf (octets_in x)).tab (data_of Trf (octets_in x)) place
        → Holds (data_of Trf (octets_in x)) (record_at (run (after_setup address key first).card (past ++ (session_end ∷ calls_sending x))).records place)
    unfolding ended
    transfer_written good own g = held _ _ _ place g.named (after_end (calls_sending x) _ _ (transfer_noted s x all ended refl place good own (finds _ _ _ place g)))

    pub broadcast_written : inspected (octets_in x) ≡ answer.given Trb → (fields_of Trb (octets_in x)).ads ≡ replicate address_width 0 → Granted first (by_broadcast (fields_of Trb (octets_in x)).adp) (fields_of Trb (octets_in x)).tab (data_of Trb (octets_in x)) place
        → Holds (data_of Trb (octets_in x)) (record_at (run (after_setup address key first).card (past ++ (session_end ∷ calls_sending x))).records place)
    unfolding ended
    broadcast_written good everyone g = held _ _ _ place g.named (after_end (calls_sending x) _ _ (broadcast_noted s x all ended refl place good everyone (finds _ _ _ place g)))

  pub exchange_written : (x : List Handed) → AllUsable x → (y : List Handed) → AllUsable y → Authentic s x y → (place : ℕ)
      → Granted first (programmed (fields_of Rec (octets_in x)).adp) (fields_of Rec (octets_in x)).tab (data_of Rec (octets_in x)) place
      → Holds (data_of Rec (octets_in x)) (record_at (run (after_setup address key first).card (past ++ (session_end ∷ (calls_sending x ++ calls_sending y)))).records place)
  unfolding ended
  exchange_written x all y also a place g = held _ _ _ place g.named (after_end (calls_sending x ++ calls_sending y) _ _ (exchange_noted s x all y also a ended refl place (finds _ _ _ place g)))

-- 00: no history leaves a label cut inside a character, or over one of its limits
module _ (address key : List ℕ) (first : Records) (arrays : Arrays first) (accepted : (after_setup address key first).number ≡ none) (h : List Call) (place : ℕ) (p : place < first.count) where
  abbrev left : Record
  left = record_at (run (after_setup address key first).card h).records place

  pub contents_acceptable : Acceptable (record_at first place).attributes (contents left)
  contents_acceptable =
      let c = run (after_setup address key first).card h in
      let whole = run_whole h (after_setup address key first).card (setup_whole address key first) in
      let rules = (setup_accepted address key first accepted).sound.rules in
      let e = (history_kept address key first arrays accepted h).attributes in
      let same = kept_attributes first arrays rules c e place p in
      let in_use = kept_in_use first arrays rules c e place p in
      rw same at ((acceptable_means left.attributes (whole.sound.records.rules.octet_limits place in_use) (contents left)).0 (whole.sound.records.accepted place in_use))

  pub label_kept : (limit : Characters) → (record_at first place).attributes.kind ≡ Label limit
      → (well_formed (contents left) ≡ true) × ((length (contents left) ≤ (record_at first place).attributes.limit.0) × (length (characters (contents left)) ≤ limit.0))
  label_kept limit label =
      let a = contents_acceptable in
      let text : TextWithin (Label limit) (contents left) = rw label at a.text in
      (text.0, (a.within, text.1))
