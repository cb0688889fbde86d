-- Octets as the bits that are transmitted: "bits are transmitted in ascending order" (004 Table 8, read_data and send_octet).
-- Assumes nothing.
use Rattle.std.specs.Prelude.{Bool, cond, List, [], ◌∷◌, ◌++◌, ℕ, zero, suc, ◌+◌, ◌*◌, ◌/◌, ◌%◌, eqb}

-- The n lowest bits of x, the least significant first.
unfoldable pub bits : ℕ → ℕ → List Bool
bits zero x = []
bits (suc n) x = eqb (x % 2) 1 ∷ bits n (x / 2)

-- The number whose bits these are, the least significant first.
unfoldable pub number : List Bool → ℕ
number [] = 0
number (b ∷ p) = number p * 2 + cond b 1 0

-- The bit string of a list of octets, as it goes over the bus.
unfoldable pub transmitted : List ℕ → List Bool
transmitted [] = []
transmitted (o ∷ s) = bits 8 o ++ transmitted s
