-- Values as octets at fixed offsets of lent memory.
use Rattle.std.specs.Prelude.{ℕ, ◌+◌, min, Bool, true, false, List, replicate}
use Rattle.octets.specs.Splice.{spliced}
use Rattle.octets.specs.Part.{part_of}

-- a state mark: 0 and 1 are in use
abbrev pub mark_of : Bool → ℕ
mark_of true = 1
mark_of false = 0

-- A length or count as an octet. Those that 01 allows are under 255; of any other the octet is 255, over every limit too.
abbrev pub narrowed : ℕ → ℕ
narrowed n = min n 255

-- so many octets from an offset on; zeros where the memory ends before them
unfoldable pub field_at : ℕ → List ℕ → ℕ → List ℕ
field_at n m at = spliced (replicate n 0) 0 (part_of m at (at + n))
