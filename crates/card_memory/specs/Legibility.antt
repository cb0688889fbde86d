-- What a memory can hold and a card by value cannot: state marks not in use, and kinds that are none (01, The card: "card memory that breaks a setup
-- rule .. or a state mark not in use is refused with 12").
use Rattle.std.specs.Prelude.{ℕ, zero, suc, ◌+◌, min, Bool, true, ◌&&◌, List, leb, get_or}
use Rattle.card_memory.specs.Layout.{wait_mark_at, count_at, records_at, kind_at, record_size, record_places, receiver_mark_at}

-- the state marks, the wait's and the receiver's, are 0 or 1
unfoldable pub marks_in_use : List ℕ → Bool
marks_in_use m = leb (get_or m wait_mark_at 0) 1 && leb (get_or m receiver_mark_at 0) 1

-- "known kinds" of so many records from an offset on: 0 raw, 1 label
abbrev pub kind_known : List ℕ → ℕ → Bool
kind_known m at = leb (get_or m (at + kind_at) 0) 1

unfoldable pub kinds_known : ℕ → ℕ → List ℕ → Bool
kinds_known zero at m = true
kinds_known (suc n) at m = kind_known m at && kinds_known n (at + record_size) m

-- of so many records as a count says, and of no more than there are places for; the kinds of records that are not in use are free
abbrev pub used_kinds_known : ℕ → ℕ → List ℕ → Bool
used_kinds_known count at m = kinds_known (min count record_places) at m

unfoldable pub legible : List ℕ → Bool
legible m = marks_in_use m && used_kinds_known (get_or m count_at 0) records_at m
