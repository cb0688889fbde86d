-- Where each field of tool memory stands (docs/TOOL_MEMORY.md). Each place follows from the one before, so that a field that joins them moves the rest.
use Rattle.std.specs.Prelude.{ℕ, ◌+◌, ◌≤◌, ◌<◌, ◌⊎◌}
use Rattle.receiver_memory.specs.Receiver as receiver
use Rattle.frame.specs.Sizes.{address_width, number_width, most_transferred}

-- the request: its mark, its TAB, the length of its DATA, its station and its ADP
abbrev pub mark_at : ℕ
mark_at = 0

abbrev pub tab_at : ℕ
tab_at = mark_at + 1

abbrev pub length_at : ℕ
length_at = tab_at + 1

abbrev pub ads_at : ℕ
ads_at = length_at + 1

abbrev pub adp_at : ℕ
adp_at = ads_at + address_width

-- what a programming request keeps: its key, NA1 and DATA
abbrev pub key_at : ℕ
key_at = adp_at + 1

abbrev pub na1_at : ℕ
na1_at = key_at + number_width

abbrev pub sent_at : ℕ
sent_at = na1_at + number_width

-- what the wake-up rule remembers: the station of the last ENQ or TRF, and how many have succeeded
abbrev pub station_at : ℕ
station_at = sent_at + most_transferred

abbrev pub successes_at : ℕ
successes_at = station_at + address_width

-- the receiver, with its mark and its count, and the whole memory
abbrev pub receiver_at : ℕ
receiver_at = successes_at + 1

abbrev pub receiver_mark_at : ℕ
receiver_mark_at = receiver_at + receiver.mark_at

abbrev pub receiver_count_at : ℕ
receiver_count_at = receiver_at + receiver.count_at

abbrev pub size : ℕ
size = receiver_at + receiver.size

-- an offset that is not the receiver's
abbrev pub OutsideReceiver : ℕ → Type 0
OutsideReceiver j = (j < receiver_at) ⊎ (size ≤ j)
