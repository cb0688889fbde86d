-- What is granted is written in the memory, after every history of exported calls: a meter write, a transfer, a broadcast transfer, a programming exchange.
use Prim.Native.Nat.{ℕ}
use mathlib.Core.Path.{◌≡◌, refl, sym, ap, subst, ◌∙◌}
use mathlib.Core.Bool.{Bool, true, false, cond}
use mathlib.Core.List.{List, [], ◌∷◌, ◌++◌, map}
use lib.Dec.{leb}
use lib.ListN.{replicate}
use Rattle.numbers.specs.Answer as answer
use Rattle.frame.specs.declared.codes.Command.TheVariants.{Rec, Trf, Trb}
use Rattle.frame.specs.Content.{fields_of, data_of}
use Rattle.frame.specs.Checks.{inspected}
use Rattle.records.specs.declared.Records.{Records}
use Rattle.records.specs.Finding.{record_at}
use Rattle.card.specs.Setup.{after_setup}
use Rattle.card.specs.Events.{Call, session_end, meter_write}
use Rattle.card.specs.Feeding.{Handed, octets_in, AllUsable}
use Rattle.history.specs.Book.{metered, programmed, transferred, by_broadcast, setup_of, book_of}
use Rattle.history.specs.Claim as by_value
use Rattle.history.specs.Claim.{Holds}
use Rattle.history.specs.Granted.{Named, Granted, calls_sending, Authentic}
use Rattle.history.proofs.History.{history_kept}
use Rattle.history.proofs.Written as written
use Rattle.card_memory.specs.Layout.{size}
use Rattle.card_memory.specs.Decoding.{decoded}
use Rattle.card_memory.specs.Setup.{entry_records}
use Rattle.card_exports.specs.Setup.{setup_outcome}
use Rattle.card_exports.proofs.Accepting.{setup_passed}
use Rattle.memory_history.specs.Claim.{MemoryCall, run, made, Accepted}
use Rattle.memory_history.proofs.History.{entry_arrays, memory_kept}

pub made_append : (h x : List MemoryCall) → made (h ++ x) ≡ made h ++ made x
unfolding made
made_append [] x = refl
made_append (k ∷ h) x = rw (made_append h x) (by (leb size k.room))
  where
    by : (b : Bool) → cond b (k.call ∷ (made h ++ made x)) (made h ++ made x) ≡ cond b (k.call ∷ made h) (made h) ++ made x
    by true = refl
    by false = refl

-- every list of calls is made where each is lent as much memory as a card has
pub all_made : (l : List Call) → made (map (λ k. record { room = size; call = k }) l) ≡ l
unfolding made
all_made [] = refl
all_made (k ∷ l) = ap (λ (x : List Call). k ∷ x) (all_made l)

module _ (before address key : List ℕ) (count : ℕ) (entries : List ℕ) (accepted : Accepted before address key count entries) (past x : List MemoryCall) where
  abbrev given : Records
  given = entry_records count entries

  -- the records in the memory, after any past and then the calls of x
  abbrev left : Records
  left = (decoded (run (setup_outcome before address key count entries).memory (past ++ x))).records

  -- what holds of a card by value after the calls that were made holds of the memory
  in_memory : (l : List Call) → made x ≡ l → (t : ℕ) (d : List ℕ) (place : ℕ) → Named given t place
      → Holds d (record_at (by_value.run (after_setup address key given).card (made past ++ l)).records place) → Holds d (record_at left place)
  in_memory l e t d place n h =
      let passed = setup_passed before address key count entries accepted.number in
      let calls : made (past ++ x) ≡ made past ++ l = made_append past x ∙ ap (λ (k : List Call). made past ++ k) e in
      let tab = (record_at given place).attributes.tab in
      let noted : (book_of address key given (made (past ++ x))).noted tab ≡ d
      = ap (λ (k : List Call). (book_of address key given k).noted tab) calls
      ∙ sym ((history_kept address key given (entry_arrays before address key count entries accepted) passed.accepted (made past ++ l)).each place n.in_use).octets
      ∙ h.octets
      in
      subst (λ (s : List ℕ). Holds s (record_at left place)) noted ((memory_kept before address key count entries accepted (past ++ x)).kept.each place n.in_use)

  pub meter_written : (t : ℕ) (d : List ℕ) (place : ℕ) → made x ≡ meter_write t d ∷ [] → Granted given metered t d place → Holds d (record_at left place)
  meter_written t d place e g =
      let passed = setup_passed before address key count entries accepted.number in
      in_memory _ e t d place g.named
      (written.meter_written address key given (entry_arrays before address key count entries accepted) passed.accepted (made past) t d place g)

  module _ (s : List Handed) (all : AllUsable s) (place : ℕ) (e : made x ≡ session_end ∷ calls_sending s) where
    pub transfer_written : inspected (octets_in s) ≡ answer.given Trf → (fields_of Trf (octets_in s)).ads ≡ address
        → Granted given (transferred (fields_of Trf (octets_in s)).adp) (fields_of Trf (octets_in s)).tab (data_of Trf (octets_in s)) place → Holds (data_of Trf (octets_in s)) (record_at left place)
    transfer_written good own g =
        let passed = setup_passed before address key count entries accepted.number in
        in_memory _ e _ _ place g.named
        (written.transfer_written address key given (entry_arrays before address key count entries accepted) passed.accepted (made past) s all place good own g)

    pub broadcast_written : inspected (octets_in s) ≡ answer.given Trb → (fields_of Trb (octets_in s)).ads ≡ replicate 6 0
        → Granted given (by_broadcast (fields_of Trb (octets_in s)).adp) (fields_of Trb (octets_in s)).tab (data_of Trb (octets_in s)) place → Holds (data_of Trb (octets_in s)) (record_at left place)
    broadcast_written good everyone g =
        let passed = setup_passed before address key count entries accepted.number in
        in_memory _ e _ _ place g.named
        (written.broadcast_written address key given (entry_arrays before address key count entries accepted) passed.accepted (made past) s all place good everyone g)

  pub exchange_written : (r : List Handed) → AllUsable r → (s : List Handed) → AllUsable s → (place : ℕ) → made x ≡ session_end ∷ (calls_sending r ++ calls_sending s) → Authentic (setup_of address key given) r s
      → Granted given (programmed (fields_of Rec (octets_in r)).adp) (fields_of Rec (octets_in r)).tab (data_of Rec (octets_in r)) place → Holds (data_of Rec (octets_in r)) (record_at left place)
  exchange_written r all s also place e a g =
      let passed = setup_passed before address key count entries accepted.number in
      in_memory _ e _ _ place g.named
      (written.exchange_written address key given (entry_arrays before address key count entries accepted) passed.accepted (made past) r all s also a place g)
