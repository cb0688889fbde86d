-- The permutations of a word of 64 bits that the code makes in steps (computed, Steps).
-- Assumes nothing.
use Rattle.std.specs.Prelude.{ℕ}
use Rattle.computed.specs.Steps.{Steps}
use Rattle.computed.specs.Steps.{whole, right, left, kept, then, sum}

-- the bits of the mask that differ from the bit s places to their left
abbrev pub differing : ℕ → ℕ → Steps
differing s mask = then (sum whole (right s)) (kept mask)

-- each bit of the mask exchanged with the bit s places to its left, where no bit is named twice and none leaves the word
abbrev pub exchange : ℕ → ℕ → Steps
exchange s mask = sum (sum whole (differing s mask)) (then (differing s mask) (left s))

-- the octets in the reverse order
abbrev pub reversed : Steps
reversed =
    sum (sum (sum (sum (sum (sum (sum (right 56)
    (then (right 40) (kept 0xFF00)))
    (then (right 24) (kept 0xFF0000)))
    (then (right 8) (kept 0xFF000000)))
    (then (left 8) (kept 0xFF00000000)))
    (then (left 24) (kept 0xFF0000000000)))
    (then (left 40) (kept 0xFF000000000000)))
    (left 56)

-- C and D from the rows of the turned matrix: C is the first three and the left half of the fourth, D the seventh, the sixth, the fifth and the right half of the fourth
abbrev pub gathered : Steps
gathered =
    sum (sum (sum (sum (then (right 8) (kept 0xFFFFFFF0000000))
    (then (left 12) (kept 0xFF00000)))
    (then (right 4) (kept 0xFF000)))
    (then (right 20) (kept 0xFF0)))
    (then (right 32) (kept 0xF))
