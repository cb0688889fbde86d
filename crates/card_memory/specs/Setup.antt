-- The entries that setup takes, and the memory that it leaves.
use Rattle.std.specs.Prelude.{ℕ, ◌*◌, Bool, List, [], ◌∷◌}
use Rattle.octets.specs.Part.{part_of}
use Rattle.records.specs.declared.Records.{Records}
use Rattle.receiver_memory.specs.Puts.{Put, put, put_all}
use Rattle.card_memory.specs.Layout.{address_at, key_at, wait_mark_at, count_at, records_at, record_size, receiver_at}
use Rattle.card_memory.specs.Decoding.{records_of}
use Rattle.card_memory.specs.Legibility.{used_kinds_known}

-- entries with the layout of a record, as many as a card has places, of which the first are in use
abbrev pub entry_records : ℕ → List ℕ → Records
entry_records count entries = records_of count 0 entries

abbrev pub entry_kinds_known : ℕ → List ℕ → Bool
entry_kinds_known count entries = used_kinds_known count 0 entries

-- "Fresh, as setup leaves a card: receiver empty, no wait, first contents." The entries in use are taken as they stand.
abbrev pub fresh_puts : List ℕ → List ℕ → ℕ → List ℕ → List Put
fresh_puts address key count entries =
    put address_at address
    ∷ put key_at key
    ∷ put wait_mark_at (0 ∷ [])
    ∷ put count_at (count ∷ [])
    ∷ put records_at (part_of entries 0 (count * record_size))
    ∷ put receiver_at (0 ∷ 0 ∷ [])
    ∷ []

-- the wait's octets, the receiver's and those of records that are not in use are free, and stay as they were
unfoldable pub set_up : List ℕ → List ℕ → ℕ → List ℕ → List ℕ → List ℕ
set_up address key count entries m = put_all (fresh_puts address key count entries) m
