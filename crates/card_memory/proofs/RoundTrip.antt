-- Decoding an encoded card gives the card back, and what encoding leaves as it was.
use Prim.Native.Nat.{ℕ, zero, suc, ◌+◌, ◌*◌, ◌≤◌, ◌<◌, min}
use mathlib.Core.Path.{◌≡◌, refl, sym, ap, ◌∙◌}
use mathlib.Core.Bool.{Bool, true, false, and-eq-true_iff}
use mathlib.Core.List.{List}
use native.Mathlib.Omega.{arith}
use lib.Dec.{leb}
use lib.ListN.{length, get_or}
use lib.Seq.{ext_get_or}
use Rattle.octets.specs.Part.{part_of}
use Rattle.octets.proofs.Parts.{length_part, get_or_part}
use Rattle.records.specs.declared.Record.{Record}
use Rattle.records.specs.Finding.{blank}
use Rattle.receiver_memory.specs.Fields.{mark_of, field_at}
use Rattle.receiver_memory.specs.Puts.{Put}
use Rattle.receiver_memory.specs.Receiver as receiver
use Rattle.receiver_memory.proofs.Fields.{narrowed_fits}
use Rattle.receiver_memory.proofs.Puts.{Among, here, later, AllSpare, put_all-length, put_there, spared, field_agree, field_is}
use Rattle.receiver_memory.proofs.Receiver.{image-length, decoded-image}
use Rattle.card.specs.declared.Phase.{Phase}
use Rattle.card.specs.declared.Phase.TheVariants.{Idle, Waiting}
use Rattle.card.specs.declared.Card.{Card}
use Rattle.card.specs.Soundness.{waiting_length}
use Rattle.card_memory.specs.Layout.{address_at, address_size, key_at, key_size, wait_mark_at, wait_data_at, wait_data_size, na2_at, na2_size, count_at, records_at, kind_at, length_at, storage_at, storage_size, record_size, record_places, receiver_at, size}
use Rattle.card_memory.specs.Decoding.{attributes_in, record_in, records_in, phase_in, identity_in, decoded}
use Rattle.card_memory.specs.Encoding.{phase_image, contents_image, card_puts, encoded}
use Rattle.card_memory.specs.Legibility.{kinds_known, marks_in_use, used_kinds_known, legible}
use Rattle.card_memory.proofs.RecordRuns.{length_records, record_at_lem}
use Rattle.card_memory.proofs.Shape.{part_long}
use Rattle.card_memory.proofs.CardPuts.{contents-length, contents_among, Shaped, card_rising, in_wait, in_contents, in_receiver, identity_spare, count_spare, attributes_spare}

-- The memory holds what no call alters of the card, and has room for the rest.
pub record Encodable (m : List ℕ) (c : Card) : Type 0 where
  pub identity : c.identity ≡ identity_in m
  pub count : c.records.count ≡ get_or m count_at 0
  pub attributes : (i : ℕ) → i < record_places → attributes_in (part_of m (records_at + record_size * i) (records_at + record_size * i + record_size)) ≡ (get_or c.records.each i blank).attributes
  pub shaped : Shaped c

attributes_agree : (s t : List ℕ) → ((k : ℕ) → k < length_at → get_or s k 0 ≡ get_or t k 0) → attributes_in s ≡ attributes_in t
unfolding attributes_in
attributes_agree s t f = rw (f 0 (omega arith), f 1 (omega arith), f 2 (omega arith), f 3 (omega arith), f 4 (omega arith))

-- the kinds of two memories that agree there
pub kinds_agree : (n a b : ℕ) (s t : List ℕ) → ((i : ℕ) → i < n → get_or s (a + record_size * i + kind_at) 0 ≡ get_or t (b + record_size * i + kind_at) 0) → kinds_known n a s ≡ kinds_known n b t
unfolding kinds_known
kinds_agree zero a b s t f = refl
kinds_agree (suc n) a b s t f =
    let here_a : a + record_size * 0 + kind_at ≡ a + kind_at = omega arith in
    let here_b : b + record_size * 0 + kind_at ≡ b + kind_at = omega arith in
    let first : get_or s (a + kind_at) 0 ≡ get_or t (b + kind_at) 0 = rw (here_a, here_b) at (f 0 (omega arith)) in
    rw (
      first,
      kinds_agree n (a + record_size) (b + record_size) s t
          (λ i k.
          let next_a : a + record_size + record_size * i + kind_at ≡ a + record_size * suc i + kind_at = omega arith in
          let next_b : b + record_size + record_size * i + kind_at ≡ b + record_size * suc i + kind_at = omega arith in
          rw (next_a, next_b) (f (suc i) (omega arith))),
    )

phase_read : (s : List ℕ) (q : Phase) → waiting_length q < 256 → ((k : ℕ) → k < length (phase_image q) → get_or s (wait_mark_at + k) 0 ≡ get_or (phase_image q) k 0) → phase_in s ≡ q
unfolding phase_in
phase_read s Idle n f = rw (f 0 (omega arith))
phase_read s (Waiting adp tab k) n f = rw (f 0 (omega arith), f 1 (omega arith), f 2 (omega arith), f 3 (omega arith), narrowed_fits k.0 n)

phase_mark : (s : List ℕ) (q : Phase) → ((k : ℕ) → k < length (phase_image q) → get_or s (wait_mark_at + k) 0 ≡ get_or (phase_image q) k 0) → leb (get_or s wait_mark_at 0) 1 ≡ true
phase_mark s Idle f = rw (f 0 (omega arith))
phase_mark s (Waiting adp tab k) f = rw (f 0 (omega arith))

mark_low : (b : Bool) → leb (mark_of b) 1 ≡ true
mark_low true = refl
mark_low false = refl

module _ (m : List ℕ) (h : size ≤ length m) (c : Card) (shaped : Shaped c) where
  abbrev left : List ℕ
  left = encoded c m

  pub encoded-length : length left ≡ length m
  unfolding encoded
  encoded-length = put_all-length (card_puts c) m

  -- what no run of octets covers is left, and each run stands where it was put
  pub encoded_spared : (j : ℕ) → AllSpare m j (card_puts c) → get_or left j 0 ≡ get_or m j 0
  unfolding encoded
  encoded_spared j a = spared (card_puts c) m j a

  encoded_there : {p : Put} → Among p (card_puts c) → (k : ℕ) → k < length p.octets → get_or left (p.at + k) 0 ≡ get_or p.octets k 0
  unfolding encoded
  encoded_there x k lt = put_there (card_puts c) wait_mark_at size m x (card_rising c shaped) h k lt

  -- a field in front of the wait
  front : (n at : ℕ) → at + n ≤ wait_mark_at → field_at n left at ≡ field_at n m at
  front n at k =
      field_agree n at left m (omega (arith, encoded-length)) (omega arith) (λ j l. encoded_spared (at + j) (identity_spare c shaped m (at + j) (omega arith)))

  phase_there : (k : ℕ) → k < length (phase_image c.exchange.phase) → get_or left (wait_mark_at + k) 0 ≡ get_or (phase_image c.exchange.phase) k 0
  phase_there = encoded_there (in_wait c shaped here)

  content_back : field_at wait_data_size left wait_data_at ≡ c.exchange.content
  content_back =
      field_is wait_data_size wait_data_at left c.exchange.content (omega (arith, encoded-length)) shaped.content
      (λ k l. encoded_there (in_wait c shaped (later here)) k (omega (arith, shaped.content)))

  na2_back : field_at na2_size left na2_at ≡ c.exchange.na2
  na2_back =
      field_is na2_size na2_at left c.exchange.na2 (omega (arith, encoded-length)) shaped.na2
      (λ k l. encoded_there (in_wait c shaped (later (later here))) k (omega (arith, shaped.na2)))

  image_long : length (receiver.image c.receiver) ≡ receiver.size
  image_long = image-length c.receiver shaped.octets

  receiver_octet : (k : ℕ) → k < receiver.size → get_or left (receiver_at + k) 0 ≡ get_or (receiver.image c.receiver) k 0
  receiver_octet k l = encoded_there (in_receiver c shaped) k (omega (arith, image_long))

  receiver_part : part_of left receiver_at size ≡ receiver.image c.receiver
  receiver_part =
      ext_get_or 0 (part_of left receiver_at size) (receiver.image c.receiver) (own_long ∙ sym image_long)
      (λ k l. get_or_part left receiver_at size k (omega (arith, encoded-length)) (omega (arith, own_long)) ∙ receiver_octet k (omega (arith, own_long)))
    where
      own_long : length (part_of left receiver_at size) ≡ receiver.size
      own_long = length_part left receiver_at size (omega arith) (omega (arith, encoded-length)) ∙ omega arith

  receiver_back : receiver.decoded (part_of left receiver_at size) ≡ c.receiver
  receiver_back = ap receiver.decoded receiver_part ∙ decoded-image c.receiver shaped.octets shaped.counted

  -- the i-th record
  module _ (i : ℕ) (inside : i < record_places) where
    abbrev at : ℕ
    at = records_at + record_size * i

    abbrev own : List ℕ
    own = part_of left at (at + record_size)

    abbrev r : Record
    r = get_or c.records.each i blank

    own_long : length own ≡ record_size
    own_long = part_long left at (omega (arith, encoded-length))

    own_octet : (k : ℕ) → k < record_size → get_or own k 0 ≡ get_or left (at + k) 0
    own_octet k l = get_or_part left at (at + record_size) k (omega (arith, encoded-length)) (omega arith)

    stored : length r.storage ≡ storage_size
    stored = shaped.stored i (omega (arith, shaped.each))

    contents_octet : (k : ℕ) → k < suc storage_size → get_or left (at + length_at + k) 0 ≡ get_or (contents_image r) k 0
    contents_octet k l =
        encoded_there (in_contents c shaped (contents_among c.records.each records_at i (omega (arith, shaped.each)))) k
        (omega (arith, contents-length r stored))

    attributes_kept : attributes_in own ≡ attributes_in (part_of m at (at + record_size))
    attributes_kept =
        attributes_agree own (part_of m at (at + record_size))
        (λ k l.
        own_octet k (omega arith) ∙ encoded_spared (at + k) (attributes_spare c shaped m i k inside l)
        ∙ sym (get_or_part m at (at + record_size) k (omega arith) (omega arith)))

    length_back : get_or own length_at 0 ≡ r.length.0
    unfolding contents_image
    length_back =
        let e : at + length_at + 0 ≡ at + length_at = omega arith in
        own_octet length_at (omega arith) ∙ (rw e at (contents_octet 0 (omega arith))) ∙ narrowed_fits r.length.0 (shaped.lengths i inside)

    storage_back : field_at storage_size own storage_at ≡ r.storage
    unfolding contents_image
    storage_back =
        field_is storage_size storage_at own r.storage (omega (arith, own_long)) stored
        (λ k l.
        let e : at + length_at + suc k ≡ at + (storage_at + k) = omega arith in
        own_octet (storage_at + k) (omega arith) ∙ (rw e at (contents_octet (suc k) (omega arith))))

    record_back : attributes_in (part_of m at (at + record_size)) ≡ r.attributes → record_in own ≡ r
    unfolding record_in
    record_back e = rw (attributes_kept, e, length_back, storage_back)

  -- the marks are in use, and the kinds are those that were there
  pub encoded-legible : legible m ≡ true → legible left ≡ true
  unfolding legible marks_in_use receiver.image
  encoded-legible e =
      let before = (and-eq-true_iff (marks_in_use m) (used_kinds_known (get_or m count_at 0) records_at m)).0 e in
      rw (
        phase_mark left c.exchange.phase phase_there,
        receiver_octet receiver.mark_at (omega arith),
        mark_low c.receiver.skipping,
        encoded_spared count_at (count_spare c shaped m),
      )
      (kinds_agree (min (get_or m count_at 0) record_places) records_at records_at left m
      (λ i k. encoded_spared (records_at + record_size * i + kind_at) (attributes_spare c shaped m i kind_at (omega arith) (omega arith)))
      ∙ before.1)

module _ (m : List ℕ) (h : size ≤ length m) (c : Card) (encodable : Encodable m c) where
  abbrev shaped : Shaped c
  shaped = encodable.shaped

  records_back : records_in record_places records_at (encoded c m) ≡ c.records.each
  records_back =
      ext_get_or blank (records_in record_places records_at (encoded c m)) c.records.each (length_records record_places records_at (encoded c m) ∙ sym shaped.each)
      (λ i k.
      let inside : i < record_places = omega (arith, length_records record_places records_at (encoded c m)) in
      record_at_lem record_places i records_at (encoded c m) inside ∙ record_back m h c shaped i inside (encodable.attributes i inside))

  pub decoded-encoded : decoded (encoded c m) ≡ c
  unfolding decoded
  decoded-encoded =
      rw (
        front m h c shaped address_size address_at (omega arith),
        front m h c shaped key_size key_at (omega arith),
        ← encodable.identity,
        encoded_spared m h c shaped count_at (count_spare c shaped m),
        ← encodable.count,
        records_back,
        phase_read (encoded c m) c.exchange.phase shaped.phase (phase_there m h c shaped),
        content_back m h c shaped,
        na2_back m h c shaped,
        receiver_back m h c shaped,
      )
