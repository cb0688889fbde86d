-- The card that a memory holds (docs/MEMORY.md). A field or record that a memory is too short for counts as zero.
use Rattle.std.specs.Prelude.{ℕ, zero, suc, ◌+◌, ◌/◌, ◌%◌, cond, List, [], ◌∷◌, eqb, get_or}
use Rattle.octets.specs.Part.{part_of}
use Rattle.records.specs.declared.Kind.{Kind}
use Rattle.records.specs.declared.Kind.TheVariants.{Raw, Label}
use Rattle.records.specs.declared.Attributes.{Attributes}
use Rattle.records.specs.declared.Record.{Record}
use Rattle.records.specs.declared.Records.{Records}
use Rattle.card.specs.declared.Identity.{Identity}
use Rattle.card.specs.declared.Phase.{Phase}
use Rattle.card.specs.declared.Phase.TheVariants.{Idle, Waiting}
use Rattle.card.specs.declared.Exchange.{Exchange}
use Rattle.card.specs.declared.Card.{Card}
use Rattle.receiver_memory.specs.Fields.{field_at}
use Rattle.receiver_memory.specs.Receiver as receiver
use Rattle.card_memory.specs.Layout.{address_at, address_size, key_at, key_size, wait_mark_at, wait_adp_at, wait_tab_at, wait_length_at, wait_data_at, wait_data_size, na2_at, na2_size, count_at, records_at, tab_at, kind_at, octet_limit_at, character_limit_at, marks_at, length_at, storage_at, storage_size, record_size, record_places, receiver_at, size}

-- "a kind (raw or label), .. for labels a character limit": a raw record's octet for that limit is free
abbrev pub kind_for : ℕ → ℕ → Kind
kind_for kind limit = cond (eqb kind 1) (Label (record { 0 = limit })) Raw

-- "three marks (readable, open to programming, open to transfer)" are bits 0, 1 and 2 of one octet, whose other bits are free
unfoldable pub attributes_in : List ℕ → Attributes
attributes_in s =
    record {
      tab = get_or s tab_at 0;
      kind = kind_for (get_or s kind_at 0) (get_or s character_limit_at 0);
      limit = record { 0 = get_or s octet_limit_at 0 };
      readable = eqb (get_or s marks_at 0 % 2) 1;
      programming = eqb (get_or s marks_at 0 / 2 % 2) 1;
      transfer = eqb (get_or s marks_at 0 / 4 % 2) 1;
    }

unfoldable pub record_in : List ℕ → Record
record_in s = record { attributes = attributes_in s; length = record { 0 = get_or s length_at 0 }; storage = field_at storage_size s storage_at }

-- so many records from an offset on
unfoldable pub records_in : ℕ → ℕ → List ℕ → List Record
records_in zero at m = []
records_in (suc n) at m = record_in (part_of m at (at + record_size)) ∷ records_in n (at + record_size) m

-- the places of all records, of which the first are in use
abbrev pub records_of : ℕ → ℕ → List ℕ → Records
records_of count at m = record { count = count; each = records_in record_places at m }

-- ADP, TAB and length are free while nothing waits
unfoldable pub phase_in : List ℕ → Phase
phase_in m = cond (eqb (get_or m wait_mark_at 0) 1) (Waiting (get_or m wait_adp_at 0) (get_or m wait_tab_at 0) (record { 0 = get_or m wait_length_at 0 })) Idle

abbrev pub exchange_in : List ℕ → Exchange
exchange_in m = record { phase = phase_in m; content = field_at wait_data_size m wait_data_at; na2 = field_at na2_size m na2_at }

abbrev pub identity_in : List ℕ → Identity
identity_in m = record { address = field_at address_size m address_at; key = field_at key_size m key_at }

unfoldable pub decoded : List ℕ → Card
decoded m =
    record {
      identity = identity_in m;
      records = records_of (get_or m count_at 0) records_at m;
      exchange = exchange_in m;
      receiver = receiver.decoded (part_of m receiver_at size);
    }
