-- The memory that setup leaves: each field where setup put it, and the records of the entries in use.
use Prim.Native.Nat.{ℕ, ◌+◌, ◌*◌, ◌≤◌, ◌<◌, min}
use mathlib.Core.Path.{◌≡◌, sym, ap, ◌∙◌}
use mathlib.Core.List.{List, [], ◌∷◌}
use mathlib.Core.Logic.{inl, inr}
use native.Mathlib.Omega.{arith}
use lib.ListN.{length, take, get_or}
use lib.Seq.{length-take-le, get_or-take, ext_get_or}
use Rattle.octets.specs.Part.{part_of}
use Rattle.octets.proofs.Parts.{length_part, get_or_part}
use Rattle.records.specs.declared.Record.{Record}
use Rattle.records.specs.Finding.{blank}
use Rattle.receiver_memory.specs.Fields.{field_at}
use Rattle.receiver_memory.specs.Puts.{Put}
use Rattle.receiver_memory.proofs.Puts.{Rising, Among, here, later, put_all-length, put_there, spared, field_is}
use Rattle.card_memory.specs.Layout.{address_at, address_size, key_at, key_size, wait_mark_at, count_at, records_at, kind_at, record_size, record_places, records_size, receiver_at, size}
use Rattle.card_memory.specs.Decoding.{record_in, records_in}
use Rattle.card_memory.specs.Legibility.{used_kinds_known}
use Rattle.card_memory.specs.Setup.{fresh_puts, set_up}
use Rattle.card_memory.proofs.RecordRuns.{length_records, record_at_lem}
use Rattle.card_memory.proofs.RoundTrip.{kinds_agree}

module _ (m address key : List ℕ) (count : ℕ) (entries : List ℕ) (long : size ≤ length m) (six : length address ≡ address_size) (eight : length key ≡ key_size) (few : count ≤ record_places) (entered : length entries ≡ records_size) where
  abbrev fresh : List ℕ
  fresh = set_up address key count entries m

  abbrev puts : List Put
  puts = fresh_puts address key count entries

  abbrev taken : List ℕ
  taken = part_of entries 0 (count * record_size)

  taken_length : length taken ≡ count * record_size
  taken_length = length_part entries 0 (count * record_size) (omega arith) (omega arith) ∙ omega arith

  rising : Rising address_at puts size
  rising = omega (arith, taken_length)

  pub fresh-length : length fresh ≡ length m
  unfolding set_up
  fresh-length = put_all-length puts m

  there : {p : Put} → Among p puts → (k : ℕ) → k < length p.octets → get_or fresh (p.at + k) 0 ≡ get_or p.octets k 0
  unfolding set_up
  there x k lt = put_there puts address_at size m x rising long k lt

  pub fresh_address : field_at address_size fresh address_at ≡ address
  fresh_address = field_is address_size address_at fresh address (omega (arith, fresh-length)) six (λ k l. there here k (omega arith))

  pub fresh_key : field_at key_size fresh key_at ≡ key
  fresh_key = field_is key_size key_at fresh key (omega (arith, fresh-length)) eight (λ k l. there (later here) k (omega arith))

  pub fresh_wait : get_or fresh wait_mark_at 0 ≡ 0
  fresh_wait = there (later (later here)) 0 (omega arith)

  pub fresh_count : get_or fresh count_at 0 ≡ count
  fresh_count = there (later (later (later here))) 0 (omega arith)

  -- the receiver's mark and count
  pub fresh_receiver : (k : ℕ) → k < 2 → get_or fresh (receiver_at + k) 0 ≡ get_or (0 ∷ 0 ∷ []) k 0
  fresh_receiver k l = there (later (later (later (later (later here))))) k (omega arith)

  entry_octet : (k : ℕ) → k < record_size * count → get_or fresh (records_at + k) 0 ≡ get_or entries (0 + k) 0
  entry_octet k l =
      there (later (later (later (later here)))) k (omega (arith, taken_length))
      ∙ get_or_part entries 0 (count * record_size) k (omega arith) (omega arith)

  pub fresh_kinds : used_kinds_known count records_at fresh ≡ used_kinds_known count 0 entries
  fresh_kinds =
      kinds_agree (min count record_places) records_at 0 fresh entries
      (λ i k.
      let a : records_at + (record_size * i + kind_at) ≡ records_at + record_size * i + kind_at = omega arith in
      let b : 0 + (record_size * i + kind_at) ≡ 0 + record_size * i + kind_at = omega arith in
      rw (a, b) at (entry_octet (record_size * i + kind_at) (omega arith)))

  entry_part : (i : ℕ) → i < count → part_of fresh (records_at + record_size * i) (records_at + record_size * i + record_size) ≡ part_of entries (0 + record_size * i) (0 + record_size * i + record_size)
  entry_part i k =
      let a = records_at + record_size * i in
      let b = 0 + record_size * i in
      let p : length (part_of fresh a (a + record_size)) ≡ record_size = length_part fresh a (a + record_size) (omega arith) (omega (arith, fresh-length)) ∙ omega arith in
      let q : length (part_of entries b (b + record_size)) ≡ record_size = length_part entries b (b + record_size) (omega arith) (omega arith) ∙ omega arith in
      ext_get_or 0 (part_of fresh a (a + record_size)) (part_of entries b (b + record_size)) (p ∙ sym q)
      (λ j l.
      let e : records_at + (record_size * i + j) ≡ a + j = omega arith in
      let f : 0 + (record_size * i + j) ≡ b + j = omega arith in
      get_or_part fresh a (a + record_size) j (omega (arith, fresh-length)) (omega arith)
      ∙ (rw (e, f) at (entry_octet (record_size * i + j) (omega arith)))
      ∙ sym (get_or_part entries b (b + record_size) j (omega arith) (omega arith)))

  pub fresh_records : take count (records_in record_places records_at fresh) ≡ take count (records_in record_places 0 entries)
  fresh_records =
      let own = records_in record_places records_at fresh in
      let given = records_in record_places 0 entries in
      ext_get_or blank (take count own) (take count given) (front own (length_records record_places records_at fresh) ∙ sym (front given (length_records record_places 0 entries)))
      (λ i k.
      let lt : i < count = omega (arith, front own (length_records record_places records_at fresh)) in
      get_or-take count own i blank lt ∙ record_at_lem record_places i records_at fresh (omega arith) ∙ ap record_in (entry_part i lt)
      ∙ sym (record_at_lem record_places i 0 entries (omega arith)) ∙ sym (get_or-take count given i blank lt))
    where
      front : (l : List Record) → length l ≡ record_places → length (take count l) ≡ count
      front l e = length-take-le count l (omega (arith, e))

  -- records that are not in use stay as they were
  pub fresh_unused : (i k : ℕ) → count ≤ i → i < record_places → k < record_size → get_or fresh (records_at + record_size * i + k) 0 ≡ get_or m (records_at + record_size * i + k) 0
  unfolding set_up
  fresh_unused i k past inside l =
      let j = records_at + record_size * i + k in
      spared puts m j
      (inl (inr (omega arith)), (inl (inr (omega arith)), (inl (inr (omega arith)), (inl (inr (omega arith)), (inl (inr (omega (arith, taken_length))), (inl (inl (omega arith)), tt))))))
