-- Words that hold strings of bits: one after the other, in parts, and added bit by bit.
-- Assumes nothing.
use mathlib.Core.Path.{◌≡◌, refl, ap, ap₂, sym, ◌∙◌}
use mathlib.Core.List.{List, [], ◌∷◌, ◌++◌, append-nil, flat_map}
use Prim.Native.Nat.{ℕ, zero, suc, ◌+◌, ◌-◌, ◌*◌, ◌/◌, ◌%◌, ◌^◌, ◌<◌, ◌≤◌}
use native.Mathlib.Nat.{mod-lt, lt_of_lt_of_le, zero-add}
use native.Mathlib.Numerals.{add-one}
use native.Mathlib.Omega.{arith}
use lib.Arith.{digits_lt}
use lib.Bits.{bit_xor, xor_lt}
use lib.ListN.{length, get_or, take, drop, length-drop}
use lib.Pow.{pow-add, pow_pos, pow_mono, shr_lt}
use lib.Seq.{take_all, take-suc, drop-append-le, take-append-add}
use Rattle.std.specs.Int.{w64, from_be_bytes}
use Rattle.des.specs.Des.{bits_of, bits, ◌⊕◌, left_shift}
use Rattle.des.specs.Words.{Word}
use Rattle.des.proofs.Strings.{part_bits_of, bits_append, bits_of_join, bits_of_mod, take-bits_of, drop-bits_of, bits_of_xor}

-- a number below 2 ^ n holds its own n bits
pub itself : (n w : ℕ) → w < 2 ^ n → Word n (bits_of n w) w
itself n w h = record { small = h; same = refl }

-- two strings one after the other
pub joined : {m n : ℕ} {a b : List ℕ} {x y : ℕ} → Word m a x → Word n b y → Word (m + n) (a ++ b) (x * 2 ^ n + y)
joined {m} {n} {a} {b} {x} {y} p q =
    record {
      small = rw (pow-add 2 m n) (digits_lt p.small q.small);
      same = bits_of_join m n x y q.small ∙ ap₂ (λ (c d : List ℕ). c ++ d) p.same q.same;
    }

-- the first m bits
pub upper : (m n : ℕ) {b : List ℕ} {w : ℕ} → Word (m + n) b w → Word m (take m b) (w / 2 ^ n)
upper m n {b} {w} p = record { small = shr_lt m n p.small; same = sym (take-bits_of m n w) ∙ ap (take m) p.same }

-- what follows the first m bits
pub lower : (m n : ℕ) {b : List ℕ} {w : ℕ} → Word (m + n) b w → Word n (drop m b) (w % 2 ^ n)
lower m n {b} {w} p =
    record {
      small = mod-lt w (pow_pos n);
      same = ap (λ (k : ℕ). bits_of n (w % 2 ^ k)) (sym (zero-add n)) ∙ bits_of_mod n 0 w ∙ sym (drop-bits_of m n w) ∙ ap (drop m) p.same;
    }

-- exclusive or is addition modulo 2
pub added : {n : ℕ} {a b : List ℕ} {x y : ℕ} → Word n a x → Word n b y → Word n (a ⊕ b) (bit_xor x y)
added {n} {a} {b} {x} {y} p q =
    record { small = xor_lt n x y p.small q.small; same = bits_of_xor n x y ∙ ap₂ (λ (c d : List ℕ). c ⊕ d) p.same q.same }

-- a word of at most m bits
pub fits : (m : ℕ) {n : ℕ} {b : List ℕ} {w : ℕ} → Word n b w → n ≤ m → w < 2 ^ m
fits m {n} p h = lt_of_lt_of_le p.small (pow_mono {i = n} {j = m} h)

-- one octet more
pub octet_more : (o : List ℕ) (i acc : ℕ) → i < length o → get_or o i 0 < 256 → Word (8 * i) (bits (take i o)) acc
    → Word (8 * (i + 1)) (bits (take (i + 1) o)) (acc * 256 + get_or o i 0)
unfolding bits flat_map
octet_more o i acc h l p =
    let x = get_or o i 0 in
    let e : 8 * i + 8 ≡ 8 * (i + 1) = omega arith in
    let more : bits (take (i + 1) o) ≡ bits (take i o) ++ bits_of 8 x =
    ap bits (ap (λ (n : ℕ). take n o) (add-one i) ∙ take-suc o i 0 h) ∙ bits_append (take i o) (x ∷ []) ∙ ap (λ (b : List ℕ). bits (take i o) ++ b) (append-nil (bits_of 8 x)) in
    rw (← e, more) (joined p (itself 8 x l))

-- n octets, each after the others
horner : List ℕ → ℕ → ℕ
horner o zero = 0
horner o (suc n) = horner o n * 256 + get_or o n 0

horner_held : (o : List ℕ) → ((i : ℕ) → get_or o i 0 < 256) → (n : ℕ) → n ≤ length o → Word (8 * n) (bits (take n o)) (horner o n)
unfolding horner bits flat_map bits_of
horner_held o h zero k = record { small = omega arith; same = refl }
horner_held o h (suc n) k = rw add-one at (octet_more o n (horner o n) k (h n) (horner_held o h n (omega arith)))

pub eight_octets : (o : List ℕ) → length o ≡ 8 → ((i : ℕ) → get_or o i 0 < 256) → Word 64 (bits o) (from_be_bytes w64 o)
unfolding horner
eight_octets o l h =
    let e : horner o 8 ≡ from_be_bytes w64 o = omega arith in
    rw (take_all 8 o (omega arith)) at (rw e at (horner_held o h 8 (omega arith)))

-- 28 bits of a half that is held twice are the half after s left shifts
pub shifted_half : (b : List ℕ) (s c : ℕ) → length b ≡ 28 → s ≤ 28 → Word 56 (b ++ b) c → Word 28 (left_shift s b) (c / 2 ^ (28 - s) % 2 ^ 28)
unfolding left_shift
shifted_half b s c n h p =
    let j = 28 - s in
    let e : s + (28 + j) ≡ 56 = omega arith in
    let l : length (drop s b) + s ≡ 28 = simp length-drop (omega arith) in
    record {
      small = mod-lt (c / 2 ^ j) (pow_pos 28);
      same =
          bits_of_mod 28 0 (c / 2 ^ j)
          ∙ sym (part_bits_of s 28 j c)
          ∙ ap (λ (m : ℕ). take 28 (drop s (bits_of m c))) e
          ∙ ap (λ (x : List ℕ). take 28 (drop s x)) p.same
          ∙ ap (take 28) (drop-append-le s b b (omega arith))
          ∙ ap (λ (m : ℕ). take m (drop s b ++ b)) (sym l)
          ∙ take-append-add (drop s b) b s;
    }
