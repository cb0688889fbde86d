-- Numbers and their bits: each gives the other back, blocks of bits stand side by side, and bitwise exclusive or is the sum of polynomials.
-- Assumes nothing.
use mathlib.Core.Path.{◌≡◌, refl, sym, ap, ap₂, subst, ◌∙◌}
use mathlib.Core.Bool.{Bool, true, false, xor, cond}
use mathlib.Core.List.{List, [], ◌∷◌, ◌++◌, append_assoc}
use Prim.Native.Nat.{ℕ, zero, suc, ◌+◌, ◌*◌, ◌/◌, ◌%◌, ◌^◌, ◌<◌}
use native.Mathlib.Nat.{zero-add, suc-add, pow-suc}
use native.Mathlib.Omega.{arith}
use lib.Bits.{bit_xor, differ, xor_step, block_half, block_odd}
use lib.Dec.{eqb}
use lib.ListN.{length, replicate, length-append}
use Rattle.crc.specs.Polynomial.{plus}
use Rattle.crc.specs.Transmission.{bits, number, transmitted}

pub length-bits : (n x : ℕ) → length (bits n x) ≡ n
unfolding bits
length-bits zero x = refl
length-bits (suc n) x = ap suc (length-bits n (x / 2))

number_lt : (p : List Bool) → number p < 2 ^ length p
unfolding number
number_lt [] = omega arith
number_lt (b ∷ p) = rw (pow-suc 2 (length p)) (go b (number_lt p))
  where
    go : (b : Bool) → number p < 2 ^ length p → number p * 2 + cond b 1 0 < 2 ^ length p * 2
    go true h = omega arith
    go false h = omega arith

odd_digit : (n : ℕ) (b : Bool) → eqb ((n * 2 + cond b 1 0) % 2) 1 ≡ b
odd_digit n true = let e : (n * 2 + 1) % 2 ≡ 1 = omega arith in rw e
odd_digit n false = let e : (n * 2 + 0) % 2 ≡ 0 = omega arith in rw e

half_digit : (n : ℕ) (b : Bool) → (n * 2 + cond b 1 0) / 2 ≡ n
half_digit n true = omega arith
half_digit n false = omega arith

bits-number : (p : List Bool) → bits (length p) (number p) ≡ p
unfolding bits number
bits-number [] = refl
bits-number (b ∷ p) =
    ap₂ {C = List Bool} ◌∷◌ (odd_digit (number p) b) (ap (bits (length p)) (half_digit (number p) b) ∙ bits-number p)

digit : (d : ℕ) → d < 2 → cond (eqb d 1) 1 0 ≡ d
digit zero h = refl
digit (suc zero) h = refl
digit (suc (suc d)) h = absurd (omega arith)

pub number-bits : (n x : ℕ) → x < 2 ^ n → number (bits n x) ≡ x
unfolding bits number
number-bits zero x h = omega arith
number-bits (suc n) x h =
    let l : x < 2 ^ n * 2 = rw (pow-suc 2 n) at h in
    let r : number (bits n (x / 2)) ≡ x / 2 = number-bits n (x / 2) (omega arith) in
    let d : cond (eqb (x % 2) 1) 1 0 ≡ x % 2 = digit (x % 2) (omega arith) in omega arith

-- the low n bits and the k bits above them
bits_blocks : (n k high low : ℕ) → low < 2 ^ n → bits (n + k) (high * 2 ^ n + low) ≡ bits n low ++ bits k high
unfolding bits
bits_blocks zero k high low h = ap₂ bits (zero-add k) (omega arith)
bits_blocks (suc n) k high low h =
    let l : low < 2 ^ n * 2 = rw (pow-suc 2 n) at h in
    rw (suc-add n k)
    (ap₂ {C = List Bool} ◌∷◌ (ap (λ (d : ℕ). eqb d 1) (block_odd high n low))
    (ap (bits (n + k)) (block_half high n low) ∙ bits_blocks n k high (low / 2) (omega arith)))

pub bits-zero : (n : ℕ) → bits n 0 ≡ replicate n false
unfolding bits
bits-zero zero = refl
bits-zero (suc n) = ap {B = List Bool} (λ p. false ∷ p) (bits-zero n)

-- above a number's bits there are zeros
pub bits_high : (n k x : ℕ) → x < 2 ^ n → bits (n + k) x ≡ bits n x ++ replicate k false
bits_high n k x h =
    ap (bits (n + k)) (omega arith) ∙ bits_blocks n k 0 x h ∙ ap (λ (p : List Bool). bits n x ++ p) (bits-zero k)

differ-xor : (x y : ℕ) → x < 2 → y < 2 → differ x y < 2
differ-xor zero y h k = k
differ-xor (suc zero) zero h k = h
differ-xor (suc zero) (suc y) h k = omega arith
differ-xor (suc (suc x)) y h k = absurd (omega arith)

eqb-differ : (x y : ℕ) → x < 2 → y < 2 → eqb (differ x y) 1 ≡ xor (eqb x 1) (eqb y 1)
unfolding xor
eqb-differ zero zero h k = refl
eqb-differ zero (suc zero) h k = refl
eqb-differ zero (suc (suc y)) h k = absurd (omega arith)
eqb-differ (suc zero) zero h k = refl
eqb-differ (suc zero) (suc zero) h k = refl
eqb-differ (suc zero) (suc (suc y)) h k = absurd (omega arith)
eqb-differ (suc (suc x)) y h k = absurd (omega arith)

pub bits-xor : (n x y : ℕ) → bits n (bit_xor x y) ≡ plus (bits n x) (bits n y)
unfolding bits plus
bits-xor zero x y = refl
bits-xor (suc n) x y =
    rw (xor_step x y)
    (let d : differ (x % 2) (y % 2) < 2 = differ-xor (x % 2) (y % 2) (omega arith) (omega arith) in
    let m : (bit_xor (x / 2) (y / 2) * 2 + differ (x % 2) (y % 2)) % 2 ≡ differ (x % 2) (y % 2) = omega arith in
    let q : (bit_xor (x / 2) (y / 2) * 2 + differ (x % 2) (y % 2)) / 2 ≡ bit_xor (x / 2) (y / 2) = omega arith in
    ap₂ {C = List Bool} ◌∷◌ (ap (λ (z : ℕ). eqb z 1) m ∙ eqb-differ (x % 2) (y % 2) (omega arith) (omega arith))
    (ap (bits n) q ∙ bits-xor n (x / 2) (y / 2)))

pub transmitted_append : (s t : List ℕ) → transmitted (s ++ t) ≡ transmitted s ++ transmitted t
unfolding transmitted
transmitted_append [] t = refl
transmitted_append (o ∷ s) t = ap (λ (p : List Bool). bits 8 o ++ p) (transmitted_append s t) ∙ sym (append_assoc (bits 8 o) (transmitted s) (transmitted t))

pub length-transmitted : (s : List ℕ) → length (transmitted s) ≡ length s * 8
unfolding transmitted
length-transmitted [] = refl
length-transmitted (o ∷ s) = length-append (bits 8 o) (transmitted s) ∙ omega (arith, length-bits 8 o, length-transmitted s)

-- sixteen bits
pub number_16 : (p : List Bool) → length p ≡ 16 → number p < 65536
number_16 p l = subst (λ (n : ℕ). number p < 2 ^ n) l (number_lt p)

pub bits_16 : (p : List Bool) → length p ≡ 16 → bits 16 (number p) ≡ p
bits_16 p l = subst (λ (n : ℕ). bits n (number p) ≡ p) l (bits-number p)

-- the low octet, sent first, and the high octet
pub bits_octets : (low high : ℕ) → low < 256 → bits 16 (high * 256 + low) ≡ bits 8 low ++ bits 8 high
bits_octets low high h = bits_blocks 8 8 high low h
