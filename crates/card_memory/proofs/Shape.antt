-- The arrays of a card that a whole memory holds have their lengths.
use Prim.Native.Nat.{ℕ, ◌+◌, ◌*◌, ◌≤◌, ◌<◌}
use mathlib.Core.Path.{◌≡◌, ◌∙◌}
use mathlib.Core.Bool.{true}
use mathlib.Core.List.{List}
use native.Mathlib.Omega.{arith}
use lib.ListN.{length, get_or}
use Rattle.octets.specs.Part.{part_of}
use Rattle.octets.proofs.Parts.{length_part}
use Rattle.records.specs.Finding.{record_at}
use Rattle.receiver_memory.specs.Receiver as receiver
use Rattle.receiver_memory.proofs.Fields.{length_field}
use Rattle.card.specs.Soundness.{sound}
use Rattle.card.proofs.Soundness.{sound_means}
use Rattle.card.proofs.Keeping.{Whole}
use Rattle.card_memory.specs.Layout.{address_at, address_size, key_at, key_size, wait_data_at, wait_data_size, na2_at, na2_size, count_at, records_at, storage_at, storage_size, record_size, record_places, receiver_at, size}
use Rattle.card_memory.specs.Decoding.{record_in, records_of, decoded}
use Rattle.card_memory.proofs.RecordRuns.{length_records, record_at_lem}

-- a record that a memory has room for
pub part_long : (m : List ℕ) (at : ℕ) → at + record_size ≤ length m → length (part_of m at (at + record_size)) ≡ record_size
part_long m at h = length_part m at (at + record_size) (omega arith) h ∙ omega arith

pub stored_long : (m : List ℕ) (at : ℕ) → at + record_size ≤ length m → length (record_in (part_of m at (at + record_size))).storage ≡ storage_size
unfolding record_in
stored_long m at h = length_field storage_size (part_of m at (at + record_size)) storage_at (rw (part_long m at h) (omega arith))

-- the places of all records from an offset on, in a memory or among setup's entries
pub places_long : (count at : ℕ) (m : List ℕ) → at + record_places * record_size ≤ length m → (i : ℕ) → i < record_places → length (record_at (records_of count at m) i).storage ≡ storage_size
places_long count at m h i k = rw (record_at_lem record_places i at m k) (stored_long m (at + record_size * i) (omega arith))

module _ (m : List ℕ) (h : size ≤ length m) where
  pub address_length : length (decoded m).identity.address ≡ address_size
  unfolding decoded
  address_length = length_field address_size m address_at (omega arith)

  pub key_length : length (decoded m).identity.key ≡ key_size
  unfolding decoded
  key_length = length_field key_size m key_at (omega arith)

  pub content_length : length (decoded m).exchange.content ≡ wait_data_size
  unfolding decoded
  content_length = length_field wait_data_size m wait_data_at (omega arith)

  pub na2_length : length (decoded m).exchange.na2 ≡ na2_size
  unfolding decoded
  na2_length = length_field na2_size m na2_at (omega arith)

  pub receiver_long : length (part_of m receiver_at size) ≡ receiver.size
  receiver_long = length_part m receiver_at size (omega arith) h ∙ omega arith

  pub octets_length : length (decoded m).receiver.octets ≡ receiver.most_held
  unfolding decoded receiver.decoded
  octets_length = length_field receiver.most_held (part_of m receiver_at size) receiver.octets_at (rw receiver_long (omega arith))

  pub each_length : length (decoded m).records.each ≡ record_places
  unfolding decoded
  each_length = length_records record_places records_at m

  pub storage_length : (i : ℕ) → i < record_places → length (record_at (decoded m).records i).storage ≡ storage_size
  unfolding decoded
  storage_length = places_long (get_or m count_at 0) records_at m (omega arith)

  -- a sound card in whole memory is one that no call refuses
  pub decoded_whole : sound (decoded m) ≡ true → Whole (decoded m)
  decoded_whole e = record { sound = (sound_means (decoded m)).0 e; long = octets_length }
