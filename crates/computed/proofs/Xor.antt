-- Exclusive or of numbers: associative, and the same before and after a mask or a shift.
-- Assumes nothing.
use mathlib.Core.Path.{◌≡◌, refl, ap, ap₂, sym, ◌∙◌}
use Prim.Native.Nat.{ℕ, ◌+◌, ◌*◌, ◌/◌, ◌%◌, ◌^◌, ◌<◌, min}
use native.Mathlib.Nat.{mod-lt, add-zero}
use native.Mathlib.Omega.{arith}
use lib.Arith.{bin_ind}
use lib.Bits.{bit_and, bit_xor, differ, and_step, xor_step, xor_comm, xor_block, and_shr, and_mod, xor_shr, xor_mod}
use lib.Dec.{T, eqb, eqb→eq}
use lib.Pow.{pow_pos}
use Rattle.computed.proofs.Tests.{below, below₂, at, at₂}

-- an equation of three digits, which antt tests
digits : (F G : ℕ → ℕ → ℕ → ℕ) → T (below₂ 2 2 (λ x y. below 2 (λ z. eqb (F x y z) (G x y z))))
    → (x y z : ℕ) → x < 2 → y < 2 → z < 2 → F x y z ≡ G x y z
digits F G t x y z hx hy hz =
    eqb→eq (F x y z) (G x y z)
    (at 2 (λ z. eqb (F x y z) (G x y z)) (at₂ 2 2 (λ x y. below 2 (λ z. eqb (F x y z) (G x y z))) t x y hx hy) z hz)

digit_assoc : (x y z : ℕ) → x < 2 → y < 2 → z < 2 → differ (bit_xor x y) z ≡ differ x (bit_xor y z)
digit_assoc = digits (λ x y z. differ (bit_xor x y) z) (λ x y z. differ x (bit_xor y z)) tt

digit_and : (x y z : ℕ) → x < 2 → y < 2 → z < 2 → min (bit_xor x y) z ≡ differ (bit_and x z) (bit_and y z)
digit_and = digits (λ x y z. min (bit_xor x y) z) (λ x y z. differ (bit_and x z) (bit_and y z)) tt

digit : (w : ℕ) → w % 2 < 2
digit w = mod-lt w (omega arith)

pub xor_assoc : (a b c : ℕ) → bit_xor (bit_xor a b) c ≡ bit_xor a (bit_xor b c)
xor_assoc a =
    bin_ind (λ (n : ℕ). (b c : ℕ) → bit_xor (bit_xor n b) c ≡ bit_xor n (bit_xor b c)) (λ b c. refl)
    (λ n ih b c.
    xor_step (bit_xor n b) c
    ∙ ap₂ (λ (x y : ℕ). bit_xor x (c / 2) * 2 + differ y (c % 2)) (xor_shr n b 1) (xor_mod n b 1)
    ∙ ap₂ (λ (x y : ℕ). x * 2 + y) (ih (b / 2) (c / 2)) (digit_assoc (n % 2) (b % 2) (c % 2) (digit n) (digit b) (digit c))
    ∙ sym (xor_step n (bit_xor b c) ∙ ap₂ (λ (x y : ℕ). bit_xor (n / 2) x * 2 + differ (n % 2) y) (xor_shr b c 1) (xor_mod b c 1))) a

pub xor_and : (a b m : ℕ) → bit_and (bit_xor a b) m ≡ bit_xor (bit_and a m) (bit_and b m)
xor_and a =
    bin_ind (λ (n : ℕ). (b m : ℕ) → bit_and (bit_xor n b) m ≡ bit_xor (bit_and n m) (bit_and b m)) (λ b m. refl)
    (λ n ih b m.
    and_step (bit_xor n b) m
    ∙ ap₂ (λ (x y : ℕ). bit_and x (m / 2) * 2 + min y (m % 2)) (xor_shr n b 1) (xor_mod n b 1)
    ∙ ap₂ (λ (x y : ℕ). x * 2 + y) (ih (b / 2) (m / 2)) (digit_and (n % 2) (b % 2) (m % 2) (digit n) (digit b) (digit m))
    ∙ sym (xor_step (bit_and n m) (bit_and b m)
    ∙ ap₂ (λ (x y : ℕ). bit_xor x (bit_and b m / 2) * 2 + differ y (bit_and b m % 2)) (and_shr n m 1) (and_mod n m 1)
    ∙ ap₂ (λ (x y : ℕ). bit_xor (bit_and (n / 2) (m / 2)) x * 2 + differ (bit_and (n % 2) (m % 2)) y) (and_shr b m 1) (and_mod b m 1))) a

-- four in two pairs, paired the other way
pub xor_pairs : (a b c d : ℕ) → bit_xor (bit_xor a b) (bit_xor c d) ≡ bit_xor (bit_xor a c) (bit_xor b d)
xor_pairs a b c d =
    xor_assoc a b (bit_xor c d)
    ∙ ap (bit_xor a) (sym (xor_assoc b c d) ∙ ap (λ (x : ℕ). bit_xor x d) (xor_comm b c) ∙ xor_assoc c b d)
    ∙ sym (xor_assoc a c (bit_xor b d))

pub xor_left : (a b s : ℕ) → bit_xor a b * 2 ^ s ≡ bit_xor (a * 2 ^ s) (b * 2 ^ s)
xor_left a b s =
    sym (ap₂ bit_xor (sym (add-zero (a * 2 ^ s))) (sym (add-zero (b * 2 ^ s)))
    ∙ xor_block s a b 0 0 (pow_pos s) (pow_pos s)
    ∙ add-zero (bit_xor a b * 2 ^ s))
