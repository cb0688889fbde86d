-- Strings of bits as numbers and as octets: lengths, parts, and the way there and back.
-- Assumes nothing.
use mathlib.Core.Path.{◌≡◌, refl, ap, ap₂, sym, ◌∙◌}
use mathlib.Core.List.{List, [], ◌∷◌, ◌++◌, append_assoc, flat_map, zip_with}
use Prim.Native.Nat.{ℕ, zero, suc, ◌+◌, ◌-◌, ◌*◌, ◌/◌, ◌%◌, ◌^◌, ◌<◌, ◌≤◌}
use native.Mathlib.Nat.{pow-suc, mod-lt, mod-one, zero-add, suc-add, add_comm, mod-eq_of_lt, not-suc-le-zero, le_of_suc-le-suc}
use native.Mathlib.Omega.{arith}
use lib.Arith.{digits_lt}
use lib.Bits.{bit_xor, xor_shr, xor_mod}
use lib.ListN.{length, get_or, take, drop, length-append, length-take, length-drop, take-append-drop}
use lib.Pow.{pow-add, pow_mono, high, low, shr-shr, mod-pow-add, mod-mod-pow, field}
use lib.Seq.{take_at, drop_at, length-take-le}
use Rattle.std.specs.Int.{bytes_high_first, byte_at}
use Rattle.des.specs.Des.{bits_of, number, bits, octets, permuted, ◌⊕◌}

-- ---- the bits of a number

pub length-bits_of : (n w : ℕ) → length (bits_of n w) ≡ n
unfolding bits_of
length-bits_of zero w = refl
length-bits_of (suc n) w = ap suc (length-bits_of n w)

pub get_or-bits_of : (n w i : ℕ) → i < n → get_or (bits_of n w) i 0 ≡ w / 2 ^ (n - suc i) % 2
unfolding bits_of
get_or-bits_of zero w i h = absurd (not-suc-le-zero h)
get_or-bits_of (suc n) w zero h = let e : suc n - 1 ≡ n = omega arith in rw e
get_or-bits_of (suc n) w (suc i) h = let e : suc n - suc (suc i) ≡ n - suc i = omega arith in rw e (get_or-bits_of n w i (le_of_suc-le-suc h))

-- the high m bits and the low n bits
pub bits_of_add : (m n w : ℕ) → bits_of (m + n) w ≡ bits_of m (w / 2 ^ n) ++ bits_of n w
unfolding bits_of
bits_of_add zero n w = rw zero-add
bits_of_add (suc m) n w =
    rw (suc-add, shr-shr w n m, add_comm n m) (ap (λ (l : List ℕ). w / 2 ^ (m + n) % 2 ∷ l) (bits_of_add m n w))

-- only the low bits count
pub bits_of_mod : (n k w : ℕ) → bits_of n (w % 2 ^ (k + n)) ≡ bits_of n w
unfolding bits_of
bits_of_mod zero k w = refl
bits_of_mod (suc n) k w =
    let e : k + suc n ≡ (k + 1) + n = omega arith in
    ap₂ (λ (b : ℕ) (l : List ℕ). b % 2 ∷ l) (ap (λ (j : ℕ). w % 2 ^ j / 2 ^ n) e ∙ field w (k + 1) n) (ap (λ (j : ℕ). bits_of n (w % 2 ^ j)) e ∙ bits_of_mod n (k + 1) w)
    ∙ ap (λ (b : ℕ). b ∷ bits_of n w) (mod-mod-pow (w / 2 ^ n) k 1)

-- two words one after the other
pub bits_of_join : (m n a b : ℕ) → b < 2 ^ n → bits_of (m + n) (a * 2 ^ n + b) ≡ bits_of m a ++ bits_of n b
bits_of_join m n a b h =
    bits_of_add m n (a * 2 ^ n + b)
    ∙ ap₂ (λ (x : ℕ) (l : List ℕ). bits_of m x ++ l) (high a n h)
    (sym (bits_of_mod n 0 (a * 2 ^ n + b)) ∙ rw (zero-add, low a n h))

pub take-bits_of : (m n w : ℕ) → take m (bits_of (m + n) w) ≡ bits_of m (w / 2 ^ n)
take-bits_of m n w = rw (bits_of_add m n w) (take_at (bits_of m (w / 2 ^ n)) (bits_of n w) m (length-bits_of m (w / 2 ^ n)))

pub drop-bits_of : (m n w : ℕ) → drop m (bits_of (m + n) w) ≡ bits_of n w
drop-bits_of m n w = rw (bits_of_add m n w) (drop_at (bits_of m (w / 2 ^ n)) (bits_of n w) m (length-bits_of m (w / 2 ^ n)))

-- m bits behind the first k, with n more behind them
pub part_bits_of : (k m n w : ℕ) → take m (drop k (bits_of (k + (m + n)) w)) ≡ bits_of m (w / 2 ^ n)
part_bits_of k m n w = ap (take m) (drop-bits_of k (m + n) w) ∙ take-bits_of m n w

-- ---- exclusive or

bit_xor_lem : (p q : ℕ) → p < 2 → q < 2 → bit_xor p q ≡ (p + q) % 2
bit_xor_lem zero zero h l = refl
bit_xor_lem zero (suc zero) h l = refl
bit_xor_lem (suc zero) zero h l = refl
bit_xor_lem (suc zero) (suc zero) h l = refl
bit_xor_lem zero (suc (suc q)) h l = absurd (omega arith)
bit_xor_lem (suc zero) (suc (suc q)) h l = absurd (omega arith)
bit_xor_lem (suc (suc p)) q h l = absurd (omega arith)

pub bits_of_xor : (n a b : ℕ) → bits_of n (bit_xor a b) ≡ bits_of n a ⊕ bits_of n b
unfolding bits_of ◌⊕◌ zip_with
bits_of_xor zero a b = refl
bits_of_xor (suc n) a b =
    ap₂ (λ (x : ℕ) (l : List ℕ). x ∷ l)
    (ap (λ (x : ℕ). x % 2) (xor_shr a b n) ∙ xor_mod (a / 2 ^ n) (b / 2 ^ n) 1 ∙ bit_xor_lem (a / 2 ^ n % 2) (b / 2 ^ n % 2) (mod-lt (a / 2 ^ n) (omega arith)) (mod-lt (b / 2 ^ n) (omega arith)))
    (bits_of_xor n a b)

-- ---- the number of a string of bits

-- every element is a bit
abbrev pub AreBits : List ℕ → Type 0
AreBits b = (i : ℕ) → get_or b i 0 < 2

pub AreBits_append : (a b : List ℕ) → AreBits a → AreBits b → AreBits (a ++ b)
AreBits_append [] b ha hb i = hb i
AreBits_append (x ∷ a) b ha hb zero = ha 0
AreBits_append (x ∷ a) b ha hb (suc i) = AreBits_append a b (λ j. ha (suc j)) hb i

pub AreBits-take : (n : ℕ) (b : List ℕ) → AreBits b → AreBits (take n b)
AreBits-take zero b h i = omega arith
AreBits-take (suc n) [] h i = h i
AreBits-take (suc n) (x ∷ b) h zero = h 0
AreBits-take (suc n) (x ∷ b) h (suc i) = AreBits-take n b (λ j. h (suc j)) i

pub AreBits-drop : (n : ℕ) (b : List ℕ) → AreBits b → AreBits (drop n b)
AreBits-drop zero b h i = h i
AreBits-drop (suc n) [] h i = h i
AreBits-drop (suc n) (x ∷ b) h i = AreBits-drop n b (λ j. h (suc j)) i

pub AreBits-bits_of : (n w : ℕ) → AreBits (bits_of n w)
unfolding bits_of
AreBits-bits_of zero w i = omega arith
AreBits-bits_of (suc n) w zero = mod-lt (w / 2 ^ n) (omega arith)
AreBits-bits_of (suc n) w (suc i) = AreBits-bits_of n w i

pub AreBits-bits : (o : List ℕ) → AreBits (bits o)
unfolding bits flat_map
AreBits-bits [] i = omega arith
AreBits-bits (x ∷ o) i = AreBits_append (bits_of 8 x) (bits o) (AreBits-bits_of 8 x) (AreBits-bits o) i

pub AreBits-permuted : (t b : List ℕ) → AreBits b → AreBits (permuted t b)
unfolding permuted
AreBits-permuted [] b h i = omega arith
AreBits-permuted (x ∷ t) b h zero = h (x - 1)
AreBits-permuted (x ∷ t) b h (suc i) = AreBits-permuted t b h i

pub AreBits_xor : (a b : List ℕ) → AreBits (a ⊕ b)
unfolding ◌⊕◌ zip_with
AreBits_xor [] b i = omega arith
AreBits_xor (x ∷ a) [] i = omega arith
AreBits_xor (x ∷ a) (y ∷ b) zero = mod-lt (x + y) (omega arith)
AreBits_xor (x ∷ a) (y ∷ b) (suc i) = AreBits_xor a b i

pub number-bits_of : (n w : ℕ) → number (bits_of n w) ≡ w % 2 ^ n
unfolding number bits_of
number-bits_of zero w = sym (mod-one w)
number-bits_of (suc n) w =
    rw (length-bits_of n w, number-bits_of n w) (sym (let e : suc n ≡ 1 + n = omega arith in ap (λ (j : ℕ). w % 2 ^ j) e ∙ mod-pow-add w 1 n))

pub number_lt : (b : List ℕ) → AreBits b → number b < 2 ^ length b
unfolding number
number_lt [] h = omega arith
number_lt (x ∷ b) h =
    let e : suc (length b) ≡ 1 + length b = omega arith in
    rw (e, pow-add 2 1 (length b)) (digits_lt (h 0) (number_lt b (λ i. h (suc i))))

pub bits_of-number : (b : List ℕ) → AreBits b → bits_of (length b) (number b) ≡ b
unfolding number bits_of
bits_of-number [] h = refl
bits_of-number (x ∷ b) h =
    let n = length b in
    let l = number_lt b (λ i. h (suc i)) in
    ap₂ (λ (y : ℕ) (ys : List ℕ). y ∷ ys) (ap (λ (y : ℕ). y % 2) (high x n l) ∙ mod-eq_of_lt (h 0))
    (sym (bits_of_mod n 0 (x * 2 ^ n + number b)) ∙ rw (zero-add, low x n l) (bits_of-number b (λ i. h (suc i))))

-- ---- octets

pub length-bits : (o : List ℕ) → length (bits o) ≡ 8 * length o
unfolding bits flat_map
length-bits [] = refl
length-bits (x ∷ o) =
    length-append (bits_of 8 x) (bits o) ∙ ap₂ (λ (m n : ℕ). m + n) (length-bits_of 8 x) (length-bits o) ∙ (let e : 8 + 8 * length o ≡ 8 * suc (length o) = omega arith in e)

pub bits_append : (a b : List ℕ) → bits (a ++ b) ≡ bits a ++ bits b
unfolding bits flat_map
bits_append [] b = refl
bits_append (x ∷ a) b = ap (λ (l : List ℕ). bits_of 8 x ++ l) (bits_append a b) ∙ sym (append_assoc (bits_of 8 x) (bits a) (bits b))

-- eight times n bits become n octets and come back
pub bits-octets : (n : ℕ) (b : List ℕ) → length b ≡ 8 * n → AreBits b → bits (octets n b) ≡ b
unfolding octets bits flat_map
bits-octets zero [] l h = refl
bits-octets zero (x ∷ b) l h = absurd (omega arith)
bits-octets (suc n) b l h =
    let t : length (take 8 b) ≡ 8 = length-take-le 8 b (omega arith) in
    let d : length (drop 8 b) ≡ 8 * n = simp length-drop (omega arith) in
    ap₂ (λ (x y : List ℕ). x ++ y) (ap (λ (k : ℕ). bits_of k (number (take 8 b))) (sym t) ∙ bits_of-number (take 8 b) (AreBits-take 8 b h))
    (bits-octets n (drop 8 b) d (AreBits-drop 8 b h))
    ∙ take-append-drop 8 b

pub length-octets : (n : ℕ) (b : List ℕ) → length (octets n b) ≡ n
unfolding octets
length-octets zero b = refl
length-octets (suc n) b = ap suc (length-octets n (drop 8 b))

-- the octets of a number are those of its bits
pub octets-bits_of : (n w : ℕ) → bytes_high_first n w ≡ octets n (bits_of (8 * n) w)
unfolding octets
octets-bits_of zero w = refl
octets-bits_of (suc n) w =
    let e : 8 * suc n ≡ 8 + 8 * n = omega arith in
    let octet : byte_at n w ≡ number (take 8 (bits_of (8 + 8 * n) w)) = byte_is n ∙ sym (number-bits_of 8 (w / 2 ^ (8 * n))) ∙ ap number (sym (take-bits_of 8 (8 * n) w)) in
    rw e (ap₂ (λ (x : ℕ) (l : List ℕ). x ∷ l) octet (octets-bits_of n w ∙ ap (octets n) (sym (drop-bits_of 8 (8 * n) w))))
  where
    place : (n : ℕ) → 256 ^ n ≡ 2 ^ (8 * n)
    place zero = refl
    place (suc n) = let e : 8 * suc n ≡ 8 * n + 8 = omega arith in rw (e, pow-add 2 (8 * n) 8, pow-suc 256 n, place n)

    byte_is : (n : ℕ) → byte_at n w ≡ w / 2 ^ (8 * n) % 256
    byte_is zero = omega arith
    byte_is (suc n) = rw place

-- eight octets become 64 bits and come back
pub octets-bits : (o : List ℕ) → ((i : ℕ) → get_or o i 0 < 256) → octets (length o) (bits o) ≡ o
unfolding octets bits flat_map
octets-bits [] h = refl
octets-bits (x ∷ o) h =
    rw (take_at (bits_of 8 x) (bits o) 8 (length-bits_of 8 x), drop_at (bits_of 8 x) (bits o) 8 (length-bits_of 8 x), number-bits_of 8 x, octets-bits o (λ i. h (suc i)))
    (ap (λ (y : ℕ). y ∷ o) (mod-eq_of_lt (h 0)))

pub octets_lt : (n : ℕ) (b : List ℕ) → AreBits b → (i : ℕ) → get_or (octets n b) i 0 < 256
unfolding octets
octets_lt zero b h i = omega arith
octets_lt (suc n) b h zero =
    let l : length (take 8 b) ≤ 8 = simp length-take (omega arith) in
    omega (arith, number_lt (take 8 b) (AreBits-take 8 b h), pow_mono {i = length (take 8 b)} {j = 8} l)
octets_lt (suc n) b h (suc i) = octets_lt n (drop 8 b) (AreBits-drop 8 b h) i
