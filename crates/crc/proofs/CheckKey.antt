-- The check key: it fits 16 bits, they are the remainder, and the key of more octets is a sum, since the remainder is additive.
-- Assumes nothing.
use mathlib.Core.Path.{◌≡◌, refl, sym, ap, ap₂, ◌∙◌}
use mathlib.Core.Bool.{Bool, false}
use mathlib.Core.List.{List, [], ◌∷◌, ◌++◌, append_assoc, append-nil}
use Prim.Native.Nat.{ℕ, ◌+◌, ◌*◌, ◌<◌}
use native.Mathlib.Omega.{arith}
use lib.Bits.{bit_xor, xor_lt}
use lib.ListN.{length, replicate, length-append, replicate-append-replicate}
use Rattle.computed.proofs.Additive.{Additive}
use Rattle.crc.specs.Polynomial.{plus, reduce}
use Rattle.crc.specs.Transmission.{bits, number, transmitted}
use Rattle.crc.specs.AnnexE.{remainder, check_key}
use Rattle.crc.proofs.Bits.{length-bits, number_16, bits_16, number-bits, bits_high, bits-xor, length-transmitted, transmitted_append}
use Rattle.crc.proofs.Remainder.{length-remainder, remainder_short, remainder-plus, remainder_sum, remainder_more}

padded_length : (a : List Bool) → length (remainder (a ++ replicate 16 false)) ≡ 16
padded_length a = length-remainder (a ++ replicate 16 false) (rw length-append (omega arith))

pub check_key_lt : (s : List ℕ) → check_key s < 65536
unfolding check_key
check_key_lt s = number_16 (remainder (transmitted s ++ replicate 16 false)) (padded_length (transmitted s))

-- the bits of the key, in the order of transmission, are the remainder
pub check_key-bits : (s : List ℕ) → bits 16 (check_key s) ≡ remainder (transmitted s ++ replicate 16 false)
unfolding check_key
check_key-bits s = bits_16 (remainder (transmitted s ++ replicate 16 false)) (padded_length (transmitted s))

pub check_key_nil : check_key [] ≡ 0
unfolding check_key remainder reduce number transmitted
check_key_nil = refl

-- 16 bits after the octets: the remainder is the sum of the key's bits and these
pub remainder-check_key : (s : List ℕ) (x : ℕ) → remainder (transmitted s ++ bits 16 x) ≡ bits 16 (bit_xor (check_key s) x)
remainder-check_key s x =
    remainder_sum 16 (transmitted s) (bits 16 x) (length-bits 16 x) (omega arith)
    ∙ ap₂ plus (sym (check_key-bits s)) (remainder_short (bits 16 x) (omega (arith, length-bits 16 x)))
    ∙ sym (bits-xor 16 (check_key s) x)

-- ---- more octets

-- the remainder of the 16 + m coefficients of x, as a number
unfoldable pub remainder_of : ℕ → ℕ → ℕ
remainder_of m x = number (remainder (bits (16 + m) x))

number-plus : (p q : List Bool) → length p ≡ 16 → length q ≡ 16 → number (plus p q) ≡ bit_xor (number p) (number q)
number-plus p q hp hq =
    ap number (ap₂ plus (sym (bits_16 p hp)) (sym (bits_16 q hq)) ∙ sym (bits-xor 16 (number p) (number q)))
    ∙ number-bits 16 (bit_xor (number p) (number q)) (xor_lt 16 (number p) (number q) (number_16 p hp) (number_16 q hq))

length-remainder_of : (m x : ℕ) → length (remainder (bits (16 + m) x)) ≡ 16
length-remainder_of m x = length-remainder (bits (16 + m) x) (rw length-bits (omega arith))

pub Additive-remainder_of : (m : ℕ) → Additive (remainder_of m)
unfolding remainder_of
Additive-remainder_of m = record {
  law = λ x y. ap (λ (p : List Bool). number (remainder p)) (bits-xor (16 + m) x y)
      ∙ ap number (remainder-plus (bits (16 + m) x) (bits (16 + m) y) (rw length-bits (omega arith)) (length-bits (16 + m) x ∙ sym (length-bits (16 + m) y)))
      ∙ number-plus (remainder (bits (16 + m) x)) (remainder (bits (16 + m) y)) (length-remainder_of m x) (length-remainder_of m y);
}

pub check_key_one : (o : ℕ) → o < 256 → check_key (o ∷ []) ≡ remainder_of 8 o
unfolding check_key remainder_of transmitted
check_key_one o h =
    ap (λ (p : List Bool). number (remainder p)) (ap (λ (p : List Bool). p ++ replicate 16 false) (append-nil (bits 8 o)) ∙ sym (bits_high 8 16 o h))

-- A(X) X^m + B(X), where t is the octets of B(X), m bits
pub check_key_append : (s t : List ℕ) (n : ℕ) → length t ≡ n → check_key (s ++ t) ≡ bit_xor (remainder_of (n * 8) (check_key s)) (check_key t)
unfolding check_key remainder_of
check_key_append s t n l =
    let m : ℕ = n * 8 in
    let a : List Bool = transmitted s in
    let b : List Bool = transmitted t ++ replicate 16 false in
    ap number
    (ap (λ (p : List Bool). remainder (p ++ replicate 16 false)) (transmitted_append s t)
    ∙ ap remainder (append_assoc a (transmitted t) (replicate 16 false))
    ∙ remainder_sum (16 + m) a b (rw length-append (omega (arith, length-transmitted t))) (omega arith)
    ∙ ap (λ (p : List Bool). plus p (remainder b))
    (ap (λ (p : List Bool). remainder (a ++ p)) (sym (replicate-append-replicate 16 m false))
    ∙ ap remainder (sym (append_assoc a (replicate 16 false) (replicate m false)))
    ∙ remainder_more (a ++ replicate 16 false) (replicate m false) (rw length-append (omega arith))
    ∙ ap (λ (p : List Bool). remainder (p ++ replicate m false)) (sym (check_key-bits s))
    ∙ ap remainder (sym (bits_high 16 m (check_key s) (check_key_lt s)))))
    ∙ number-plus (remainder (bits (16 + m) (check_key s))) (remainder b) (length-remainder_of m (check_key s)) (padded_length (transmitted t))
