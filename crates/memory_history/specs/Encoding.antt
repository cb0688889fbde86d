-- A history of exported calls in octets. Every list of octets is one.
use Rattle.std.specs.Prelude.{ℕ, zero, suc, ◌+◌, ◌*◌, ◌/◌, ◌%◌, cond, List, [], ◌∷◌, ◌++◌, leb, length, get_or, drop, replicate}
use Rattle.octets.specs.Splice.{spliced}
use Rattle.history.specs.Encoding.{call_at, size_at, octets_of_call}
use Rattle.card_memory.specs.Layout.{records_size}
use Rattle.memory_history.specs.Claim.{MemoryCall}

-- A call is how many octets of the memory are lent to it, low octet first, and then a call as a history by value has it.
abbrev pub room_width : ℕ
room_width = 2

abbrev pub room_at : List ℕ → ℕ
room_at h = get_or h 0 0 + 256 * get_or h 1 0

-- the call that the octets begin with; what is missing of its room is 0
unfoldable pub memory_call_at : List ℕ → MemoryCall
memory_call_at h = record { room = room_at h; call = call_at (drop room_width h) }

-- how many of the octets it takes
unfoldable pub memory_size_at : List ℕ → ℕ
memory_size_at h = cond (leb room_width (length h)) (room_width + size_at (drop room_width h)) (length h)

-- the first calls of the octets, at most n
unfoldable pub memory_calls_within : ℕ → List ℕ → List MemoryCall
memory_calls_within zero h = []
memory_calls_within (suc n) [] = []
memory_calls_within (suc n) (x ∷ h) = memory_call_at (x ∷ h) ∷ memory_calls_within n (drop (memory_size_at (x ∷ h)) (x ∷ h))

-- each call takes an octet or more, so there are no more calls than octets
abbrev pub memory_calls_of : List ℕ → List MemoryCall
memory_calls_of h = memory_calls_within (length h) h

-- the octets of one call, and of a history
unfoldable pub octets_of_memory_call : MemoryCall → List ℕ
octets_of_memory_call k = k.room % 256 ∷ k.room / 256 ∷ octets_of_call k.call

unfoldable pub octets_of_memory_calls : List MemoryCall → List ℕ
octets_of_memory_calls [] = []
octets_of_memory_calls (k ∷ h) = octets_of_memory_call k ++ octets_of_memory_calls h

-- the entries of a setup, of which a slice has the first octets, with zeros after them; zeros alone where it has too many
unfoldable pub entries_of : List ℕ → List ℕ
entries_of s = spliced (replicate records_size 0) 0 s
