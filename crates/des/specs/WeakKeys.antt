-- DES's weak keys (02, E5).
-- Assumes nothing.
use Rattle.std.specs.Prelude.{Bool, false, ◌||◌, List, [], ◌∷◌, ◌++◌, map, ℕ, ◌/◌, replicate}
use Rattle.octets.specs.Part.{same}

-- "with parity bits disregarded": each octet without its lowest bit
unfoldable pub without_parity : List ℕ → List ℕ
without_parity key = map (λ o. o / 2) key

-- "01 eight times", "FE eight times; E0 four times then F1 four times; 1F four times then 0E four times"
unfoldable pub weak_keys : List (List ℕ)
weak_keys =
    replicate 8 0x01 ∷ replicate 8 0xFE ∷ (replicate 4 0xE0 ++ replicate 4 0xF1) ∷ (replicate 4 0x1F ++ replicate 4 0x0E) ∷ []

-- the key is one of these, parity bits disregarded
abbrev pub among : List ℕ → List (List ℕ) → Bool
among key [] = false
among key (w ∷ ws) = same (without_parity key) (without_parity w) || among key ws

unfoldable pub weak : List ℕ → Bool
weak key = among key weak_keys
