-- The check key and the receiver's test of 004 Annex E. The first bit transmitted is the coefficient of the highest power (E.2).
-- Assumes nothing.
use Rattle.std.specs.Prelude.{Bool, true, false, not, ◌&&◌, List, [], ◌∷◌, ◌++◌, ℕ, ◌-◌, ◌/◌, ◌%◌, length, replicate}
use Rattle.crc.specs.Polynomial.{reduce, quotients}
use Rattle.crc.specs.Transmission.{number, transmitted}

-- D(X) = X^16 + X^15 + X^2 + 1 (E.4), the highest power first.
abbrev pub divisor : List Bool
divisor = true ∷ true ∷ (replicate 12 false ++ true ∷ false ∷ true ∷ [])

-- The remainder by D(X), of degree at most 15: a polynomial of n coefficients is divided in n - 16 steps.
unfoldable pub remainder : List Bool → List Bool
remainder a = reduce divisor (length a - 16) a

-- The quotient by D(X).
unfoldable pub quotient : List Bool → List Bool
quotient a = quotients divisor (length a - 16) a

-- The check key of a list of octets: the remainder of A(X) X^16 (E.2), as a number whose least significant bit is r1, which is sent first.
unfoldable pub check_key : List ℕ → ℕ
check_key s = number (remainder (transmitted s ++ replicate 16 false))

-- The octets of the key in the order of transmission: the low octet holds r1 to r8.
abbrev pub check_key_octets : List ℕ → List ℕ
check_key_octets s = check_key s % 256 ∷ check_key s / 256 ∷ []

-- Every coefficient is 0.
unfoldable pub is_zero : List Bool → Bool
is_zero [] = true
is_zero (b ∷ p) = not b && is_zero p

-- The receiver's test: the bit string's polynomial is exactly divisible by D(X) (E.3).
unfoldable pub divides : List ℕ → Bool
divides s = is_zero (remainder (transmitted s))
