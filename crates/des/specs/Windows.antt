-- How R and a round key are laid out so that they meet: six bits for each box, four places apart.
-- Assumes nothing.
use Rattle.std.specs.Prelude.{◌≡◌, List, [], ◌∷◌, ℕ, ◌+◌, ◌-◌, ◌*◌, ◌/◌, ◌%◌, ◌^◌, ◌<◌, take, drop}
use Rattle.des.specs.Des.{bits_of}

-- the 32 bits of R between its last bit and its first: E selects six of them for each box, the first of which is four places after that of the box before
abbrev pub wrapped : List ℕ
wrapped =
    32 ∷ 1 ∷ 2 ∷ 3 ∷ 4 ∷ 5 ∷ 6 ∷ 7 ∷ 8 ∷ 9 ∷ 10 ∷ 11 ∷ 12 ∷ 13 ∷ 14 ∷ 15 ∷ 16 ∷
    17 ∷ 18 ∷ 19 ∷ 20 ∷ 21 ∷ 22 ∷ 23 ∷ 24 ∷ 25 ∷ 26 ∷ 27 ∷ 28 ∷ 29 ∷ 30 ∷ 31 ∷ 32 ∷ 1 ∷
    []

-- permuted choice 2 with gaps: the blocks of six bits for boxes 1, 3, 5 and 7 in the upper 34 bits, those for boxes 2, 4, 6 and 8 in the lower 30,
-- eight bits apart each; 57 names no bit of C and D
abbrev pub gapped : List ℕ
gapped =
    14 ∷ 17 ∷ 11 ∷ 24 ∷ 1 ∷ 5 ∷ 57 ∷ 57 ∷ 23 ∷ 19 ∷ 12 ∷ 4 ∷ 26 ∷ 8 ∷ 57 ∷ 57 ∷
    41 ∷ 52 ∷ 31 ∷ 37 ∷ 47 ∷ 55 ∷ 57 ∷ 57 ∷ 44 ∷ 49 ∷ 39 ∷ 56 ∷ 34 ∷ 53 ∷ 57 ∷ 57 ∷
    57 ∷ 57 ∷ 3 ∷ 28 ∷ 15 ∷ 6 ∷ 21 ∷ 10 ∷ 57 ∷ 57 ∷ 16 ∷ 7 ∷ 27 ∷ 20 ∷ 13 ∷ 2 ∷
    57 ∷ 57 ∷ 30 ∷ 40 ∷ 51 ∷ 45 ∷ 33 ∷ 48 ∷ 57 ∷ 57 ∷ 46 ∷ 42 ∷ 50 ∷ 36 ∷ 29 ∷ 32 ∷
    []

-- how far the word that has the bits for box j + 1 is shifted: boxes 1, 3, 5 and 7 take theirs from the upper 34 bits
abbrev pub upper_places : ℕ → ℕ
upper_places j = (1 - j % 2) * 30

-- the bits of a round key for box j + 1 stand above this place
abbrev pub place : ℕ → ℕ
place j = upper_places j + (28 - 4 * j)

-- k holds the round key K with gaps
abbrev pub WithGaps : List ℕ → ℕ → Type 0
WithGaps K k = (j : ℕ) → j < 8 → bits_of 6 (k / 2 ^ place j) ≡ take 6 (drop (6 * j) K)
