-- Polynomials over GF(2) as lists of coefficients, their sum, their product and their long division.
-- Assumes nothing.
use Rattle.std.specs.Prelude.{Bool, true, false, ◌&&◌, List, [], ◌∷◌, map, ℕ, zero, suc, drop, get_or}
use Rattle.std.specs.Bool.{xor}

-- The sum, place by place from the first; of the longer list the rest stays. Over GF(2) the sum is the difference too.
unfoldable pub plus : List Bool → List Bool → List Bool
plus [] q = q
plus (a ∷ p) [] = a ∷ p
plus (a ∷ p) (b ∷ q) = xor a b ∷ plus p q

-- The product with one coefficient.
abbrev pub scaled : Bool → List Bool → List Bool
scaled c = map (λ b. c && b)

-- The product, the lowest power first: (a + X p) q = a q + X (p q).
unfoldable pub times : List Bool → List Bool → List Bool
times [] q = []
times (a ∷ p) q = plus (scaled a q) (false ∷ times p q)

-- One step of long division by d, the highest power first: where the leading coefficient is 1, d is taken away, aligned to it.
-- The leading place is then 0 and falls away.
unfoldable pub step : List Bool → List Bool → List Bool
step d [] = []
step d (false ∷ a) = a
step d (true ∷ a) = drop 1 (plus d (true ∷ a))

-- What n steps of long division leave.
unfoldable pub reduce : List Bool → ℕ → List Bool → List Bool
reduce d zero a = a
reduce d (suc n) a = reduce d n (step d a)

-- The quotient's coefficients that n steps find, the highest power first: the leading coefficients met.
unfoldable pub quotients : List Bool → ℕ → List Bool → List Bool
quotients d zero a = []
quotients d (suc n) a = get_or a 0 false ∷ quotients d n (step d a)
