-- A word of 64 bits made of another in steps that keep exclusive or.
-- Assumes nothing.
use Rattle.std.specs.Prelude.{ℕ, ◌*◌, ◌/◌, ◌%◌, ◌^◌}
use Rattle.std.specs.Int.Bits.{bit_and, bit_xor}

-- the word as it is, shifted by s places to the right or to the left, under a mask; one step after another, and the exclusive or of two
pub data Steps : Type 0 where
  whole : Steps
  right : ℕ → Steps
  left : ℕ → Steps
  kept : ℕ → Steps
  then : Steps → Steps → Steps
  sum : Steps → Steps → Steps

-- the word that the steps make of w
abbrev pub value : Steps → ℕ → ℕ
value whole w = w
value (right s) w = w / 2 ^ s
value (left s) w = w * 2 ^ s % 2 ^ 64
value (kept m) w = bit_and w m
value (then e g) w = value g (value e w)
value (sum e g) w = bit_xor (value e w) (value g w)
