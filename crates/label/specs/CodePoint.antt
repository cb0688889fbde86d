-- The code point that a sequence stands for (RFC 3629 section 3).
use Rattle.std.specs.Prelude.{List, [], ◌∷◌, ℕ, ◌+◌, ◌-◌, ◌*◌}

-- the six free bits of a tail octet, 10xxxxxx, behind those before it
abbrev pub tailed : ℕ → ℕ → ℕ
tailed before octet = before * 64 + (octet - 0x80)

-- the free bits of 0xxxxxxx, 110xxxxx, 1110xxxx or 11110xxx and of each tail octet after it, as one number; 0 of no octets, and no sequence has more than four
unfoldable pub code_point : List ℕ → ℕ
code_point [] = 0
code_point (a ∷ []) = a
code_point (a ∷ b ∷ []) = tailed (a - 0xC0) b
code_point (a ∷ b ∷ c ∷ []) = tailed (tailed (a - 0xE0) b) c
code_point (a ∷ b ∷ c ∷ d ∷ rest) = tailed (tailed (tailed (a - 0xF0) b) c) d
