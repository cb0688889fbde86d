-- The card that a memory of octets holds can be encoded over it again, and so can every card that calls reach from there.
use Prim.Native.Nat.{ℕ, ◌+◌, ◌*◌, ◌≤◌, ◌<◌}
use mathlib.Core.Path.{◌≡◌, refl, ◌∙◌}
use mathlib.Core.Bool.{Bool, true, false, cond}
use mathlib.Core.List.{List}
use native.Mathlib.Decide.{dec_lt}
use native.Mathlib.Omega.{arith}
use lib.Dec.{eqb}
use lib.ListN.{length, get_or, set, length-set}
use lib.Seq.{get_or-set_same, get_or-set_other}
use Rattle.octets.specs.Part.{part_of}
use Rattle.octets.proofs.Splice.{length-fronted}
use Rattle.octets.proofs.Parts.{get_or_part}
use Rattle.octets.proofs.Below.{Below}
use Rattle.records.specs.declared.Record.{Record}
use Rattle.records.specs.declared.Records.{Records}
use Rattle.records.specs.Finding.{blank, record_at}
use Rattle.records.specs.Writing.{hold, store}
use Rattle.records.proofs.Limits.{accepted_fits}
use Rattle.records.proofs.Writes.{write_cases}
use Rattle.receiver.specs.declared.Receiver.{Receiver}
use Rattle.receiver.specs.Receiver.{holding}
use Rattle.receiver.proofs.Soundness.{holding_long, holding_narrow}
use Rattle.receiver_memory.specs.Receiver as receiver
use Rattle.card.specs.declared.Phase.TheVariants.{Idle, Waiting}
use Rattle.card.specs.declared.Exchange.{Exchange}
use Rattle.card.specs.declared.Card.{Card}
use Rattle.card.specs.Soundness.{waiting_length}
use Rattle.card.specs.Parts.{with_exchange, with_records, with_receiver}
use Rattle.card.proofs.Reached.{Reached, same, receives, ends, waits, writes}
use Rattle.card_memory.specs.Layout.{wait_mark_at, wait_adp_at, wait_tab_at, wait_length_at, wait_data_size, na2_size, records_at, length_at, storage_size, record_size, record_places, receiver_at, size}
use Rattle.card_memory.specs.Decoding.{attributes_in, record_in, phase_in, decoded}
use Rattle.card_memory.proofs.RecordRuns.{record_at_lem}
use Rattle.card_memory.proofs.Shape as shape
use Rattle.card_memory.proofs.CardPuts.{Shaped}
use Rattle.card_memory.proofs.RoundTrip.{Encodable}

waiting_low : (b : Bool) (adp tab n : ℕ) → n < 256 → waiting_length (cond b (Waiting adp tab (record { 0 = n })) Idle) < 256
waiting_low true adp tab n h = h
waiting_low false adp tab n h = omega arith

-- where the length of a record stands in the memory
pub length_at_lem : (m : List ℕ) → size ≤ length m → (i : ℕ) → i < record_places → (record_at (decoded m).records i).length.0 ≡ get_or m (records_at + record_size * i + length_at) 0
unfolding decoded record_in
length_at_lem m h i k =
    let at = records_at + record_size * i in
    rw (record_at_lem record_places i records_at m k) (get_or_part m at (at + record_size) length_at (omega arith) (omega arith))

module _ (m : List ℕ) (h : size ≤ length m) (octets : Below 256 m) where
  length_low : (i : ℕ) → i < record_places → (record_at (decoded m).records i).length.0 < 256
  length_low i k = rw (length_at_lem m h i k) (octets (records_at + record_size * i + length_at))

  pub decoded_shaped : Shaped (decoded m)
  unfolding decoded phase_in receiver.decoded
  decoded_shaped =
      record {
        content = shape.content_length m h;
        na2 = shape.na2_length m h;
        octets = shape.octets_length m h;
        counted = rw (get_or_part m receiver_at size receiver.count_at h (omega arith)) (octets (receiver_at + receiver.count_at));
        phase = waiting_low (eqb (get_or m wait_mark_at 0) 1) (get_or m wait_adp_at 0) (get_or m wait_tab_at 0) (get_or m wait_length_at 0) (octets wait_length_at);
        each = shape.each_length m h;
        stored = λ i k. shape.storage_length m h i (omega (arith, shape.each_length m h));
        lengths = length_low;
      }

-- the card that a memory holds, where its numbers are octets
pub decoded_encodable : (m : List ℕ) → Shaped (decoded m) → Encodable m (decoded m)
unfolding decoded record_in
decoded_encodable m shaped =
    record { identity = refl; count = refl; attributes = λ i k. rw (record_at_lem record_places i records_at m k); shaped = shaped }

-- data over the front of a storage that has room for it
laid_length : (r : Record) (d : List ℕ) → length d ≤ storage_size → length r.storage ≡ storage_size → length (hold r d).storage ≡ storage_size
laid_length r d k e = length-fronted d r.storage (omega (arith, e)) ∙ e

-- one record holds other data: what is so of every record and of that one is so of every record
stored_each : (P : ℕ → Record → Type 0) (s : Records) (i : ℕ) (d : List ℕ) → ((j : ℕ) → j < length s.each → P j (record_at s j)) → (i < length s.each → P i (hold (record_at s i) d))
    → (j : ℕ) → j < length s.each → P j (record_at (store s i d) j)
stored_each P s i d all own j lt = go (dec_lt i j) (dec_lt j i)
  where
    other : (j ≡ i → ⊥) → P j (get_or (set s.each i (hold (record_at s i) d)) j blank)
    other n = rw (get_or-set_other s.each i j (hold (record_at s i) d) blank n) (all j lt)

    go : Dec (i < j) → Dec (j < i) → P j (get_or (set s.each i (hold (record_at s i) d)) j blank)
    go (yes q) r = other (λ e. omega arith)
    go (no q) (yes r) = other (λ e. omega arith)
    go (no q) (no r) =
        let e : j ≡ i = omega arith in
        let inside : i < length s.each = omega (arith, lt) in
        rw (e, get_or-set_same s.each i (hold (record_at s i) d) blank inside) (own inside)

module _ (m : List ℕ) where
  -- a granted write
  stored_encodable : (c : Card) (i : ℕ) (d : List ℕ) → length d ≤ storage_size → Encodable m c → Encodable m (with_records (store c.records i d) c)
  stored_encodable c i d k b =
      let s = c.records in
      let long : length (store s i d).each ≡ length s.each = length-set s.each i _ in
      record {
        identity = b.identity;
        count = b.count;
        attributes =
            λ j p.
            stored_each (λ j r. attributes_in (part_of m (records_at + record_size * j) (records_at + record_size * j + record_size)) ≡ r.attributes) s i d
            (λ j q. b.attributes j (omega (arith, b.shaped.each))) (λ q. b.attributes i (omega (arith, b.shaped.each))) j (omega (arith, b.shaped.each));
        shaped =
            record {
              content = b.shaped.content;
              na2 = b.shaped.na2;
              octets = b.shaped.octets;
              counted = b.shaped.counted;
              phase = b.shaped.phase;
              each = long ∙ b.shaped.each;
              stored =
                  λ j p.
                  stored_each (λ j r. length r.storage ≡ storage_size) s i d (λ j q. b.shaped.stored j q) (λ q. laid_length (record_at s i) d k (b.shaped.stored i q)) j (omega (arith, long));
              lengths =
                  λ j p.
                  stored_each (λ j r. r.length.0 < 256) s i d (λ j q. b.shaped.lengths j (omega (arith, b.shaped.each))) (λ q. omega arith) j (omega (arith, b.shaped.each));
            };
      }

  -- another wait
  waits_encodable : (c : Card) (e : Exchange) → length e.content ≡ wait_data_size → length e.na2 ≡ na2_size → waiting_length e.phase < 256 → Encodable m c → Encodable m (with_exchange e c)
  waits_encodable c e content na2 phase b =
      let s = b.shaped in
      record {
        identity = b.identity;
        count = b.count;
        attributes = b.attributes;
        shaped =
            record {
              content = content;
              na2 = na2;
              octets = s.octets;
              counted = s.counted;
              phase = phase;
              each = s.each;
              stored = s.stored;
              lengths = s.lengths;
            };
      }

  -- another receiver
  receives_encodable : (c : Card) (r : Receiver) → length r.octets ≡ receiver.most_held → r.count.0 < 256 → Encodable m c → Encodable m (with_receiver r c)
  receives_encodable c r long narrow b =
      let s = b.shaped in
      record {
        identity = b.identity;
        count = b.count;
        attributes = b.attributes;
        shaped =
            record {
              content = s.content;
              na2 = s.na2;
              octets = long;
              counted = narrow;
              phase = s.phase;
              each = s.each;
              stored = s.stored;
              lengths = s.lengths;
            };
      }

  pub reached_encodable : {c d : Card} → Reached c d → Encodable m c → Encodable m d
  reached_encodable same k = k
  reached_encodable (receives {d} r sound x) k =
      let b = reached_encodable x k in
      receives_encodable d (holding r d.receiver) (holding_long r d.receiver sound b.shaped.octets) (holding_narrow r d.receiver sound b.shaped.counted) b
  reached_encodable (ends {d} x) k =
      let b = reached_encodable x k in
      waits_encodable d _ b.shaped.content b.shaped.na2 (omega arith) b
  reached_encodable (waits {d} loan f s e short x) k =
      let b = reached_encodable x k in
      waits_encodable d _ (length-fronted s d.exchange.content (omega (arith, b.shaped.content)) ∙ b.shaped.content) e (omega arith) b
  reached_encodable (writes {d} cause t s x) k =
      let b = reached_encodable x k in
      write_cases d.records cause t s (λ next n. Encodable m (with_records next d))
      (λ i g. stored_encodable d i s (accepted_fits _ s g.accepted) b)
      (λ n h. b)
