-- How the code holds strings of bits, and what it holds of the key schedule.
-- Assumes nothing.
use Rattle.std.specs.Prelude.{◌≡◌, Bool, true, false, List, [], ◌∷◌, ◌++◌, ℕ, ◌-◌, ◌^◌, ◌<◌, take, drop}
use Rattle.des.specs.Des.{bits_of, key_halves, round_key}
use Rattle.des.specs.Windows.{WithGaps}

-- w is the word of n bits that holds the string b, bit 1 the highest
pub record Word (n : ℕ) (b : List ℕ) (w : ℕ) : Type 0 where
  pub small : w < 2 ^ n
  pub same : bits_of n w ≡ b

-- the number of the round key that round n has: n in enciphering, 17 - n in deciphering
abbrev pub order : Bool → ℕ → ℕ
order false n = n
order true n = 17 - n

-- entry n is how many left shifts C and D have had up to round n
abbrev pub shifts_up_to : List ℕ
shifts_up_to = 0 ∷ 1 ∷ 2 ∷ 4 ∷ 6 ∷ 8 ∷ 10 ∷ 12 ∷ 14 ∷ 15 ∷ 17 ∷ 19 ∷ 21 ∷ 23 ∷ 25 ∷ 27 ∷ 28 ∷ []

-- ---- what is held of the key schedule in a round (document 02, E3)

-- C0 and D0, twice each
pub record HalvesHeld (key : List ℕ) (c d : ℕ) : Type 0 where
  pub first : Word 56 (take 28 (key_halves key 0) ++ take 28 (key_halves key 0)) c
  pub second : Word 56 (drop 28 (key_halves key 0) ++ drop 28 (key_halves key 0)) d

-- the own key of round n, the one round key that is held
abbrev pub KeyHeld : List ℕ → Bool → ℕ → ℕ → Type 0
KeyHeld key deciphering n k = WithGaps (round_key key (order deciphering n)) k
