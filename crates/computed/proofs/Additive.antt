-- Maps that keep exclusive or. Two of them agree wherever they agree at each single bit, which antt computes; the width is any.
-- Assumes nothing.
use mathlib.Core.Path.{◌≡◌, refl, ap, ap₂, sym, ◌∙◌, subst}
use mathlib.Core.Bool.{Bool}
use Prim.Native.Nat.{ℕ, zero, suc, ◌+◌, ◌*◌, ◌/◌, ◌%◌, ◌^◌, ◌<◌}
use native.Mathlib.Nat.{mod-lt, zero-mul, one-mul}
use native.Mathlib.Omega.{arith}
use lib.Bits.{bit_xor, xor_self, xor_shifted, xor_shr, xor_mod}
use lib.Dec.{T, eqb}
use lib.Pow.{pow_pos, split, shr_lt, mod-pow-add}
use Rattle.computed.specs.Steps.{Steps, value}
use Rattle.computed.specs.Steps.{whole, right, left, kept, then, sum}
use Rattle.computed.proofs.Tests.{below, equal_at}
use Rattle.computed.proofs.Xor.{xor_and, xor_pairs, xor_left}

pub record Additive (f : ℕ → ℕ) : Type 0 where
  pub law : (x y : ℕ) → f (bit_xor x y) ≡ bit_xor (f x) (f y)

-- one map after another
pub after : {f g : ℕ → ℕ} → Additive f → Additive g → Additive (λ x. g (f x))
after {f} {g} hf hg = record { law = λ x y. ap g (hf.law x y) ∙ hg.law (f x) (f y) }

-- the exclusive or of two maps
pub added : {f g : ℕ → ℕ} → Additive f → Additive g → Additive (λ x. bit_xor (f x) (g x))
added {f} {g} hf hg = record { law = λ x y. ap₂ bit_xor (hf.law x y) (hg.law x y) ∙ xor_pairs (f x) (f y) (g x) (g y) }

pub at_zero : {f : ℕ → ℕ} → Additive f → f 0 ≡ 0
at_zero {f} hf = hf.law 0 0 ∙ xor_self (f 0)

-- ---- words in parts

-- a word in two parts
pub in_parts : {f : ℕ → ℕ} → Additive f → (k hi lo : ℕ) → lo < 2 ^ k → f (hi * 2 ^ k + lo) ≡ bit_xor (f (hi * 2 ^ k)) (f lo)
in_parts {f} hf k hi lo l = ap f (sym (xor_shifted hi k lo l)) ∙ hf.law (hi * 2 ^ k) lo

-- the low j + k bits in two parts
pub low_in_parts : {f : ℕ → ℕ} → Additive f → (w j k : ℕ) → f (w % 2 ^ (j + k)) ≡ bit_xor (f (w / 2 ^ k % 2 ^ j * 2 ^ k)) (f (w % 2 ^ k))
low_in_parts {f} hf w j k = ap f (mod-pow-add w j k) ∙ in_parts hf k (w / 2 ^ k % 2 ^ j) (w % 2 ^ k) (mod-lt w (pow_pos k))

-- ---- the single bits

-- f and g agree at each of the n lowest single bits
abbrev pub agreeing : (ℕ → ℕ) → (ℕ → ℕ) → ℕ → Bool
agreeing f g n = below n (λ i. eqb (f (2 ^ i)) (g (2 ^ i)))

module _ {f g : ℕ → ℕ} (hf : Additive f) (hg : Additive g) where
  one_bit : (n q : ℕ) → q < 2 → f (2 ^ n) ≡ g (2 ^ n) → f (q * 2 ^ n) ≡ g (q * 2 ^ n)
  one_bit n zero h e = rw (zero-mul (2 ^ n)) (at_zero hf ∙ sym (at_zero hg))
  one_bit n (suc zero) h e = rw (one-mul (2 ^ n)) e
  one_bit n (suc (suc q)) h e = absurd (omega arith)

  bit_by_bit : (n : ℕ) → ((i : ℕ) → i < n → f (2 ^ i) ≡ g (2 ^ i)) → (w : ℕ) → w < 2 ^ n → f w ≡ g w
  bit_by_bit zero h w l = let e : w ≡ 0 = omega arith in rw e (at_zero hf ∙ sym (at_zero hg))
  bit_by_bit (suc n) h w l =
      let q = w / 2 ^ n in
      let r = w % 2 ^ n in
      let s : suc n ≡ 1 + n = omega arith in
      let q2 : q < 2 ^ 1 = shr_lt 1 n (subst (λ (m : ℕ). w < 2 ^ m) s l) in
      let r2 = mod-lt w (pow_pos n) in
      ap f (sym (split w n))
      ∙ in_parts hf n q r r2
      ∙ ap₂ bit_xor (one_bit n q q2 (h n (omega arith))) (bit_by_bit n (λ i k. h i (omega arith)) r r2)
      ∙ sym (ap g (sym (split w n)) ∙ in_parts hg n q r r2)

  pub agree : (n : ℕ) → T (agreeing f g n) → (w : ℕ) → w < 2 ^ n → f w ≡ g w
  agree n t w l = bit_by_bit n (equal_at n (λ i. f (2 ^ i)) (λ i. g (2 ^ i)) t) w l

-- ---- steps

pub Additive-value : (e : Steps) → Additive (value e)
Additive-value whole = record { law = λ x y. refl }
Additive-value (right s) = record { law = λ x y. xor_shr x y s }
Additive-value (left s) =
    record { law = λ x y. ap (λ (z : ℕ). z % 2 ^ 64) (xor_left x y s) ∙ xor_mod (x * 2 ^ s) (y * 2 ^ s) 64 }
Additive-value (kept m) = record { law = λ x y. xor_and x y m }
Additive-value (then e g) = after (Additive-value e) (Additive-value g)
Additive-value (sum e g) = added (Additive-value e) (Additive-value g)
