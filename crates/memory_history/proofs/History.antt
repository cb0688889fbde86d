-- Demand 3 over the exported calls: the memory that setup leaves holds a card that agrees with the fresh book, and a history keeps them in agreement.
use Prim.Native.Nat.{ℕ, zero, suc, ◌+◌, ◌*◌, ◌≤◌, ◌<◌}
use mathlib.Core.Path.{◌≡◌, refl, ap, subst, ◌∙◌}
use mathlib.Core.Bool.{true}
use mathlib.Core.List.{List, [], ◌∷◌, map}
use native.Mathlib.Decide.{dec_lt}
use native.Mathlib.Omega.{arith}
use lib.ListN.{length, get_or}
use Rattle.octets.proofs.Parts.{get_or_part}
use Rattle.octets.specs.Part.{part_of}
use Rattle.des.specs.WeakKeys.{weak}
use Rattle.frame.specs.Addresses.{broadcast}
use Rattle.records.specs.declared.Record.{Record}
use Rattle.records.specs.declared.Records.{Records}
use Rattle.records.specs.Finding.{used, attributes_of, record_at}
use Rattle.records.specs.Setup as records
use Rattle.records.specs.Setup.{keeps_rules}
use Rattle.records.proofs.InUse.{used_count}
use Rattle.records.proofs.Soundness.{sound_means}
use Rattle.receiver.specs.Receiving.{awaiting}
use Rattle.receiver.specs.Receiver.{reception_of}
use Rattle.receiver.proofs.Soundness.{empty_sound}
use Rattle.receiver_memory.specs.Receiver as receiver
use Rattle.card.specs.declared.Phase.TheVariants.{Idle}
use Rattle.card.specs.declared.Card.{Card}
use Rattle.card.specs.Setup.{after_setup}
use Rattle.card.proofs.Keeping.{Whole}
use Rattle.history.specs.Book as book
use Rattle.history.specs.Book.{contents_of, setup_of, book_of}
use Rattle.history.specs.Claim.{Arrays}
use Rattle.history.proofs.Notes.{AsNoted, first_noted}
use Rattle.history.proofs.Agreement.{Agrees}
use Rattle.history.proofs.Start.{Accepted as AcceptedByValue, setup_accepted}
use Rattle.history.proofs.History.{run_agrees, agrees_kept}
use Rattle.card_memory.specs.Layout.{address_size, key_size, count_at, records_at, length_at, record_size, record_places, records_size, receiver_at, size}
use Rattle.card_memory.specs.Decoding.{phase_in, decoded}
use Rattle.card_memory.specs.Legibility.{marks_in_use, legible}
use Rattle.card_memory.specs.Setup.{entry_records, set_up}
use Rattle.card_memory.proofs.RecordRuns.{length_records}
use Rattle.card_memory.proofs.Shape as shape
use Rattle.card_memory.proofs.CardPuts.{Shaped}
use Rattle.card_memory.proofs.EncodableCards.{length_at_lem}
use Rattle.card_memory.proofs.FreshMemory.{fresh-length, fresh_address, fresh_key, fresh_count, fresh_wait, fresh_receiver, fresh_kinds, fresh_records, fresh_unused}
use Rattle.card_exports.specs.Setup.{setup_outcome}
use Rattle.card_exports.proofs.Accepting.{Passed, setup_passed}
use Rattle.memory_history.specs.Claim.{MemoryCall, run, made, Accepted, KeptInMemory}
use Rattle.memory_history.proofs.Calls.{Good, good_sound}
use Rattle.memory_history.proofs.Lending.{lent_next, lent_leaves, ran}

-- records are sound by their count and those in use alone
sound_same : (s t : Records) → s.count ≡ t.count → used s ≡ used t → records.sound s ≡ records.sound t
unfolding records.sound keeps_rules attributes_of
sound_same s t e f = rw (f, e)

module _ (before address key : List ℕ) (count : ℕ) (entries : List ℕ) (accepted : Accepted before address key count entries) where
  abbrev given : Records
  given = entry_records count entries

  passed : Passed before address key count entries
  passed = setup_passed before address key count entries accepted.number

  pub by_value : AcceptedByValue address key given (after_setup address key given).card
  by_value = setup_accepted address key given passed.accepted

  few : count ≤ record_places
  few = by_value.sound.rules.few

  abbrev fresh : List ℕ
  fresh = set_up address key count entries before

  -- the laws of the memory that setup leaves, for these arguments
  module _ {X : Type 0} (law : size ≤ length before → length address ≡ address_size → length key ≡ key_size → count ≤ record_places → length entries ≡ records_size → X) where
    so : X
    so = law passed.long by_value.six by_value.eight few accepted.entered

  as_long : length fresh ≡ length before
  as_long = so (fresh-length before address key count entries)

  whole_memory : size ≤ length fresh
  whole_memory = rw as_long passed.long

  abbrev start : Card
  start = decoded fresh

  start_address : start.identity.address ≡ address
  unfolding decoded
  start_address = so (fresh_address before address key count entries)

  start_key : start.identity.key ≡ key
  unfolding decoded
  start_key = so (fresh_key before address key count entries)

  count_again : get_or fresh count_at 0 ≡ count
  count_again = so (fresh_count before address key count entries)

  start_count : start.records.count ≡ count
  unfolding decoded
  start_count = count_again

  start-used : used start.records ≡ used given
  unfolding decoded
  start-used = rw count_again (so (fresh_records before address key count entries))

  start_records : records.Sound start.records
  start_records = (sound_means start.records).0 (sound_same start.records given start_count start-used ∙ (sound_means given).1 by_value.sound)

  start_phase : start.exchange.phase ≡ Idle
  unfolding decoded phase_in
  start_phase = rw (so (fresh_wait before address key count entries))

  receiver_octet : (k : ℕ) → k < 2 → get_or (part_of fresh receiver_at size) k 0 ≡ 0
  receiver_octet k l =
      get_or_part fresh receiver_at size k whole_memory (omega arith) ∙ so (fresh_receiver before address key count entries) k l ∙ zeros k l
    where
      zeros : (k : ℕ) → k < 2 → ◌≡◌ {A = ℕ} (get_or (0 ∷ 0 ∷ []) k 0) 0
      zeros zero l = refl
      zeros (suc zero) l = refl
      zeros (suc (suc k)) l = let f : ⊥ = omega arith in absurd f

  start_reception : reception_of start.receiver ≡ awaiting
  unfolding decoded receiver.decoded reception_of
  start_reception = rw (receiver_octet receiver.mark_at (omega arith), receiver_octet receiver.count_at (omega arith))

  start_counted : start.receiver.count.0 < 256
  unfolding decoded receiver.decoded
  start_counted = rw (receiver_octet receiver.count_at (omega arith)) (omega arith)

  start_whole : Whole start
  start_whole =
      record {
        sound =
            record {
              address = ap broadcast start_address ∙ by_value.own;
              key = ap weak start_key ∙ by_value.strong;
              fits = rw start_phase (omega arith);
              receiver = empty_sound start.receiver start_reception;
              records = start_records;
            };
        long = shape.octets_length fresh whole_memory;
      }

  start_arrays : Arrays start.records
  start_arrays = record { each = shape.each_length fresh whole_memory; storage = shape.storage_length fresh whole_memory }

  start_agrees : Agrees (setup_of address key given) start (book.fresh given)
  unfolding attributes_of
  start_agrees =
      record {
        station =
            record {
              address = start_address;
              key = start_key;
              attributes = ap (map (λ (r : Record). r.attributes)) start-used;
              contents = subst (λ l. AsNoted start.records (contents_of l)) start-used (first_noted start.records start_arrays start_records);
              wait = rw start_phase;
            };
        reception = start_reception;
      }

  start-legible : legible fresh ≡ true
  unfolding legible marks_in_use
  start-legible =
      rw (so (fresh_wait before address key count entries), so (fresh_receiver before address key count entries) receiver.mark_at (omega arith), count_again)
      (so (fresh_kinds before address key count entries) ∙ passed.kinds)

  -- the length of every record is an octet: of those in use by its limit, of the others as it stood in the memory
  start-length : (i : ℕ) → i < record_places → (record_at start.records i).length.0 < 256
  start-length i inside = go (dec_lt i count)
    where
      go : Dec (i < count) → (record_at start.records i).length.0 < 256
      go (yes in_use) =
          let lt : i < length (used start.records) = omega (arith, used_count start.records start_arrays.each start_records.rules, start_count) in
          omega (arith, start_records.lengths i lt, start_records.rules.octet_limits i lt)
      go (no past) =
          let at = records_at + record_size * i in
          let same = so (fresh_unused before address key count entries) i length_at (omega arith) inside (omega arith) in
          omega (arith, length_at_lem fresh whole_memory i inside, same, accepted.octets (at + length_at))

  start_shaped : Shaped start
  start_shaped =
      record {
        content = shape.content_length fresh whole_memory;
        na2 = shape.na2_length fresh whole_memory;
        octets = shape.octets_length fresh whole_memory;
        counted = start_counted;
        phase = rw start_phase (omega arith);
        each = shape.each_length fresh whole_memory;
        stored = λ i k. shape.storage_length fresh whole_memory i (omega (arith, shape.each_length fresh whole_memory));
        lengths = start-length;
      }

  start_good : Good fresh
  start_good = record { long = whole_memory; readable = start-legible; whole = start_whole; shaped = start_shaped }

  pub entry_arrays : Arrays given
  entry_arrays = record { each = length_records record_places 0 entries; storage = shape.places_long count 0 entries (omega (arith, accepted.entered)) }

  -- For every memory that setup accepted and every history of exported calls, with any numbers and buffers lent and any part of the memory, refused calls included.
  pub memory_kept : (h : List MemoryCall) → KeptInMemory before address key count entries h (run (setup_outcome before address key count entries).memory h)
  memory_kept h =
      let r = ran h fresh start_good in
      rw passed.memory
      (record {
        kept =
            rw r.decodes
            (agrees_kept address key given entry_arrays by_value.sound.rules _ _
            (run_agrees (setup_of address key given) (made h) start (book.fresh given) start_whole start_agrees));
        long = r.as_long ∙ as_long;
        sound = good_sound (run fresh h) r.good;
        unbroken = λ k. (lent_next (run fresh h) r.good k).unbroken;
        leaves = lent_leaves (run fresh h) r.good;
      })
