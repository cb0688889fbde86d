-- Where each field of card memory stands (docs/MEMORY.md). Each place follows from the one before, so that a field that joins them moves the rest.
use Rattle.std.specs.Prelude.{ℕ, ◌+◌, ◌*◌}
use Rattle.frame.specs.Sizes.{address_width, number_width, most_programmed}
use Rattle.records.specs.Sizes.{most_records, most_octets}
use Rattle.receiver_memory.specs.Receiver as receiver

-- the identity: address, and key, which is as long as the numbers that it enciphers
abbrev pub address_at : ℕ
address_at = 0

abbrev pub address_size : ℕ
address_size = address_width

abbrev pub key_at : ℕ
key_at = address_at + address_size

abbrev pub key_size : ℕ
key_size = number_width

-- the wait: its mark, ADP, TAB, length of DATA, DATA, NA2
abbrev pub wait_mark_at : ℕ
wait_mark_at = key_at + key_size

abbrev pub wait_adp_at : ℕ
wait_adp_at = wait_mark_at + 1

abbrev pub wait_tab_at : ℕ
wait_tab_at = wait_adp_at + 1

abbrev pub wait_length_at : ℕ
wait_length_at = wait_tab_at + 1

abbrev pub wait_data_at : ℕ
wait_data_at = wait_length_at + 1

abbrev pub wait_data_size : ℕ
wait_data_size = most_programmed

abbrev pub na2_at : ℕ
na2_at = wait_data_at + wait_data_size

abbrev pub na2_size : ℕ
na2_size = number_width

-- the records: their count, then a place for each
abbrev pub count_at : ℕ
count_at = na2_at + na2_size

abbrev pub records_at : ℕ
records_at = count_at + 1

-- in a record, from its start on: TAB, kind, octet limit, character limit, marks, length, storage
abbrev pub tab_at : ℕ
tab_at = 0

abbrev pub kind_at : ℕ
kind_at = tab_at + 1

abbrev pub octet_limit_at : ℕ
octet_limit_at = kind_at + 1

abbrev pub character_limit_at : ℕ
character_limit_at = octet_limit_at + 1

abbrev pub marks_at : ℕ
marks_at = character_limit_at + 1

abbrev pub length_at : ℕ
length_at = marks_at + 1

abbrev pub storage_at : ℕ
storage_at = length_at + 1

abbrev pub storage_size : ℕ
storage_size = most_octets

abbrev pub record_size : ℕ
record_size = storage_at + storage_size

abbrev pub record_places : ℕ
record_places = most_records

-- all records, and all entries of setup
abbrev pub records_size : ℕ
records_size = record_places * record_size

-- the receiver, last, since a station that shares one has none of its own
abbrev pub receiver_at : ℕ
receiver_at = records_at + records_size

abbrev pub receiver_mark_at : ℕ
receiver_mark_at = receiver_at + receiver.mark_at

-- the octets of a card memory
abbrev pub size : ℕ
size = receiver_at + receiver.size
