-- The check key without a table: D(X) = X^16 + X^15 + X^2 + 1 (004 Annex E.4) is (X + 1) (X^15 + X + 1), and A(X) is kept by each factor.
-- A word holds 64 coefficients, bit 0 that of X^63, as bits are transmitted: a shift to the right is a product with a power of X.
-- That this leads to the check key is proved; the contract of check_key cites none of it.
-- Assumes nothing.
use Rattle.std.specs.Prelude.{◌≡◌, List, ℕ, ◌-◌, ◌^◌, ◌<◌}
use Rattle.std.specs.Int.Bits.{bit_xor}
use Rattle.computed.specs.Steps.{Steps, value}
use Rattle.computed.specs.Steps.{whole, right, left, kept, then, sum}
use Rattle.crc.specs.AnnexE.{check_key}

-- The powers from X^n on, by X^n = X^k + 1: by X^15 + X + 1 that is so of X^15 = X + 1 and X^30 = X^2 + 1.
abbrev pub folded : ℕ → ℕ → Steps
folded n k = sum (sum (then (right (64 - n)) (left (64 - n))) (left n)) (then (left n) (right k))

-- The product with X^j + X^k by X^15 + X + 1, for j and k up to 28: folded, the word has no power over X^35. X^64 = X^8 + X^4 and X^128 = X^16 + X^8.
abbrev pub moved : ℕ → ℕ → Steps
moved j k = then (folded 30 2) (sum (right j) (right k))

-- X A(X) by X^15 + X + 1, of degree at most 14.
abbrev pub lowest : Steps
lowest = then (then (then (folded 30 2) (right 1)) (folded 15 1)) (folded 15 1)

-- The powers from X^n on added to those below, by X^n = 1.
abbrev pub by_power : ℕ → Steps
by_power n = sum whole (left n)

-- The sum of the coefficients, which is A(X) by X + 1, as the coefficient of X^0.
abbrev pub sum_of : Steps
sum_of =
    then (then (then (then (then (then (by_power 32) (by_power 16)) (by_power 8)) (by_power 4)) (by_power 2)) (by_power 1)) (kept 0x8000000000000000)

-- X^15 + X + 1 where that sum is 1.
abbrev pub parity_part : Steps
parity_part = then sum_of (sum (sum whole (right 1)) (right 15))

-- A(X) X^16 (E.2) is the sum of (X + 1) X A(X) and the parity's part, by either factor. Its 16 coefficients are the word's last.
abbrev pub of_word : Steps
of_word = then lowest (sum (right 48) (right 49))

-- The parity's part, as 16 coefficients.
abbrev pub of_parity : Steps
of_parity = then parity_part (right 48)

-- The check key, from A(X) by each factor.
unfoldable pub check_key_of : ℕ → ℕ → ℕ
check_key_of word parity = bit_xor (value of_word word) (value of_parity parity)

-- The word is the polynomial of the octets by X^15 + X + 1, and the parity is it by X + 1: the check key is found from them.
pub record Represent (word parity : ℕ) (s : List ℕ) : Type 0 where
  pub word_fits : word < 2 ^ 64
  pub parity_fits : parity < 2 ^ 64
  pub same_check_key : check_key_of word parity ≡ check_key s
