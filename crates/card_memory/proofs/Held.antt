-- What the memory has already of the card that it holds, and so what encoding another card over it leaves.
use Prim.Native.Nat.{ℕ, zero, suc, ◌+◌, ◌*◌, ◌≤◌, ◌<◌}
use mathlib.Core.Path.{◌≡◌, refl, sym, ap, ◌∙◌}
use mathlib.Core.Bool.{Bool, true, false, cond, and-eq-true_iff}
use mathlib.Core.List.{List, [], ◌∷◌}
use mathlib.Core.Logic.{◌⊎◌, inl, inr}
use native.Mathlib.Omega.{arith}
use native.Mathlib.Decide.{dec_lt}
use lib.Dec.{eqb, leb}
use lib.ListN.{length, get_or}
use lib.Seq.{ext_get_or}
use borrow.Author.Tests.{leb-true, eqb-true, eqb-false}
use Rattle.octets.specs.Part.{part_of}
use Rattle.octets.proofs.Parts.{get_or_part}
use Rattle.records.specs.Finding.{blank}
use Rattle.receiver_memory.specs.Fields.{field_at}
use Rattle.receiver_memory.specs.Puts.{put}
use Rattle.receiver_memory.specs.Receiver as receiver
use Rattle.receiver_memory.proofs.Fields.{length_field, get_or_field, narrowed_fits}
use Rattle.receiver_memory.proofs.Puts.{Held, Spares, AllSpare, spared, spare_append, put_all-length}
use Rattle.receiver_memory.proofs.Receiver.{image-length, image-decoded}
use Rattle.card.specs.declared.Phase.{Phase}
use Rattle.card.specs.declared.Phase.TheVariants.{Idle, Waiting}
use Rattle.card.specs.declared.Card.{Card}
use Rattle.card.specs.Soundness.{waiting_length}
use Rattle.card.proofs.Keeping.{Unchanged}
use Rattle.card_memory.specs.Layout.{wait_mark_at, wait_adp_at, wait_tab_at, wait_length_at, wait_data_at, wait_data_size, na2_at, na2_size, count_at, records_at, length_at, storage_at, storage_size, record_size, record_places, receiver_at, receiver_mark_at, size}
use Rattle.card_memory.specs.Decoding.{record_in, records_in, phase_in, decoded}
use Rattle.card_memory.specs.Encoding.{phase_image, contents_image, contents_puts, card_puts, encoded}
use Rattle.card_memory.specs.Legibility.{marks_in_use, used_kinds_known, legible}
use Rattle.card_memory.specs.Leaving.{OutsideReceiver, OutsideState}
use Rattle.card_memory.proofs.Shape.{part_long, stored_long, receiver_long}
use Rattle.card_memory.proofs.CardPuts.{Shaped}

-- the marks of the wait and of the receiver, in memory in which they are in use
mark_used : (m : List ℕ) → legible m ≡ true → (get_or m wait_mark_at 0 ≤ 1) × (get_or m receiver_mark_at 0 ≤ 1)
unfolding legible marks_in_use
mark_used m e =
    let marks = ((and-eq-true_iff (marks_in_use m) (used_kinds_known (get_or m count_at 0) records_at m)).0 e).0 in
    let each = (and-eq-true_iff (leb (get_or m wait_mark_at 0) 1) (leb (get_or m receiver_mark_at 0) 1)).0 marks in
    (leb-true _ _ each.0, leb-true _ _ each.1)

module _ (m : List ℕ) where
  field_held : (n at : ℕ) → at + n ≤ length m → Held m (put at (field_at n m at))
  field_held n at h k l = get_or_field n m at h k (omega (arith, length_field n m at h))

  record_held : (at : ℕ) → at + record_size ≤ length m → (record_in (part_of m at (at + record_size))).length.0 < 256 → Held m (put (at + length_at) (contents_image (record_in (part_of m at (at + record_size)))))
  unfolding contents_image record_in
  record_held at h narrow zero l =
      let e : at + length_at + 0 ≡ at + length_at = omega arith in
      rw e (narrowed_fits (get_or (part_of m at (at + record_size)) length_at 0) narrow ∙ get_or_part m at (at + record_size) length_at h (omega arith))
  record_held at h narrow (suc k) l =
      let e : at + length_at + suc k ≡ at + (storage_at + k) = omega arith in
      let part = part_of m at (at + record_size) in
      let lt : k < storage_size = omega (arith, stored_long m at h) in
      rw e
      (get_or_field storage_size part storage_at (omega (arith, part_long m at h)) k lt
      ∙ get_or_part m at (at + record_size) (storage_at + k) h (omega arith))

  records_held : (n at j : ℕ) → at + record_size * n ≤ length m → ((i : ℕ) → i < n → (get_or (records_in n at m) i blank).length.0 < 256) → AllSpare m j (contents_puts at (records_in n at m))
  unfolding contents_puts records_in
  records_held zero at j h narrow = tt
  records_held (suc n) at j h narrow =
      (inr (record_held at (omega arith) (narrow 0 (omega arith))), records_held n (at + record_size) j (omega arith) (λ i k. narrow (suc i) (omega arith)))

  -- legible memory whose numbers are octets
  module _ (h : size ≤ length m) (readable : legible m ≡ true) (shaped : Shaped (decoded m)) where
    phase_held : Held m (put wait_mark_at (phase_image (phase_in m)))
    unfolding phase_in decoded
    phase_held = by (eqb (get_or m wait_mark_at 0) 1) refl shaped.phase
      where
        by : (b : Bool) → eqb (get_or m wait_mark_at 0) 1 ≡ b → waiting_length (cond b (Waiting (get_or m wait_adp_at 0) (get_or m wait_tab_at 0) (record { 0 = get_or m wait_length_at 0 })) Idle) < 256
            → Held m (put wait_mark_at (phase_image (cond b (Waiting (get_or m wait_adp_at 0) (get_or m wait_tab_at 0) (record { 0 = get_or m wait_length_at 0 })) Idle)))
        by true e narrow zero l = sym (eqb-true _ _ e)
        by true e narrow (suc zero) l = refl
        by true e narrow (suc (suc zero)) l = refl
        by true e narrow (suc (suc (suc zero))) l = narrowed_fits (get_or m wait_length_at 0) narrow
        by true e narrow (suc (suc (suc (suc k)))) l = let z : ⊥ = omega arith in absurd z
        by false e narrow zero l = omega (arith, (mark_used m readable).0, eqb-false (get_or m wait_mark_at 0) 1 e)
        by false e narrow (suc k) l = let z : ⊥ = omega arith in absurd z

    receiver_octets : get_or (part_of m receiver_at size) receiver.mark_at 0 ≤ 1
    receiver_octets = rw (get_or_part m receiver_at size receiver.mark_at h (omega arith)) (mark_used m readable).1

    receiver_held : Held m (put receiver_at (receiver.image (receiver.decoded (part_of m receiver_at size))))
    unfolding decoded receiver.decoded
    receiver_held k l =
        let same = image-decoded (part_of m receiver_at size) (receiver_long m h) receiver_octets shaped.counted in
        ap (λ (s : List ℕ). get_or s k 0) same ∙ get_or_part m receiver_at size k h (omega (arith, ap length same, receiver_long m h))

    -- a card with the records, DATA and NA2 that the memory holds
    module _ (d : Card) (same : Unchanged (decoded m) d) where
      unaltered : (j : ℕ) → Spares m j (put wait_mark_at (phase_image d.exchange.phase)) → Spares m j (put receiver_at (receiver.image d.receiver)) → get_or (encoded d m) j 0 ≡ get_or m j 0
      unfolding encoded decoded
      unaltered j p r =
          spared (card_puts d) m j
          (rw (same.content, same.na2, same.records)
          (p, (inr (field_held wait_data_size wait_data_at (omega arith)), (inr (field_held na2_size na2_at (omega arith)), spare_append (contents_puts records_at (records_in record_places records_at m)) (put receiver_at (receiver.image d.receiver) ∷ []) m j (records_held record_places records_at j (omega arith) shaped.lengths) (r, tt)))))

      module _ (long : length d.receiver.octets ≡ receiver.most_held) where
        receiver_spares : (j : ℕ) → OutsideReceiver j → Spares m j (put receiver_at (receiver.image d.receiver))
        receiver_spares j (inl k) = inl (inl k)
        receiver_spares j (inr k) = inl (inr (omega (arith, image-length d.receiver long)))

        -- with the same wait, the receiver's octets alone are altered
        pub receiver_alters : d.exchange.phase ≡ (decoded m).exchange.phase → (j : ℕ) → OutsideReceiver j → get_or (encoded d m) j 0 ≡ get_or m j 0
        unfolding decoded
        receiver_alters e j k = unaltered j (rw e (inr phase_held)) (receiver_spares j k)

        mark_spares : (p : Phase) → p ≡ Idle → (j : ℕ) → (j ≡ wait_mark_at → ⊥) → Spares m j (put wait_mark_at (phase_image p))
        mark_spares p e j n = rw e (inl (go (dec_lt j wait_mark_at)))
          where
            go : Dec (j < wait_mark_at) → (j < wait_mark_at) ⊎ (wait_mark_at + 1 ≤ j)
            go (yes l) = inl l
            go (no l) = inr (omega arith)

        -- with the same wait or none, the receiver's octets and the wait's mark alone
        pub state_alters : (j : ℕ) → OutsideState j → get_or (encoded d m) j 0 ≡ get_or m j 0
        state_alters j k = by same.phase
          where
            by : (d.exchange.phase ≡ (decoded m).exchange.phase) ⊎ (d.exchange.phase ≡ Idle) → get_or (encoded d m) j 0 ≡ get_or m j 0
            by (inl e) = receiver_alters e j k.1
            by (inr e) = unaltered j (mark_spares d.exchange.phase e j k.0) (receiver_spares j k.1)

    -- the card that the memory holds alters nothing, free octets included
    pub encoded-decoded : encoded (decoded m) m ≡ m
    unfolding encoded decoded
    encoded-decoded =
        ext_get_or 0 (encoded (decoded m) m) m (put_all-length (card_puts (decoded m)) m)
        (λ j l. unaltered (decoded m) (record { identity = refl; records = refl; content = refl; na2 = refl; phase = inl refl }) j (inr phase_held) (inr receiver_held))
