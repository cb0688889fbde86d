-- What a table selects of a word, as a number: it keeps exclusive or, so a word made in steps is what the table selects if it is at each single bit,
-- which antt tests.
-- Assumes nothing.
use mathlib.Core.Path.{◌≡◌, refl, ap, ap₂, sym, ◌∙◌}
use mathlib.Core.Bool.{Bool}
use mathlib.Core.List.{List, [], ◌∷◌, zip_with}
use Prim.Native.Nat.{ℕ, zero, suc, ◌+◌, ◌-◌, ◌%◌, ◌^◌, ◌<◌}
use native.Mathlib.Nat.{mod-eq_of_lt}
use native.Mathlib.Omega.{arith}
use lib.Dec.{T}
use lib.ListN.{length, get_or}
use Rattle.computed.specs.Steps.{Steps, value}
use Rattle.computed.proofs.Additive.{Additive, agreeing, agree, Additive-value}
use Rattle.des.specs.Des.{bits_of, number, permuted, ◌⊕◌}
use Rattle.des.specs.Words.{Word}
use Rattle.des.proofs.Strings.{length-bits_of, bits_of_xor, number-bits_of, number_lt, bits_of-number, AreBits-bits_of, AreBits-permuted}
use Rattle.des.proofs.Held.{added}
use Rattle.des.proofs.Permutations.{length-permuted}

-- the number of what a table selects of the n low bits of w
unfoldable pub selection : ℕ → List ℕ → ℕ → ℕ
selection n t w = number (permuted t (bits_of n w))

pub selection_word : (n : ℕ) (t : List ℕ) (w : ℕ) → Word (length t) (permuted t (bits_of n w)) (selection n t w)
unfolding selection
selection_word n t w =
    let b = permuted t (bits_of n w) in
    let bs = AreBits-permuted t (bits_of n w) (AreBits-bits_of n w) in
    rw (← (length-permuted t (bits_of n w))) (let x : Word (length b) b (number b) = record { small = number_lt b bs; same = bits_of-number b bs } in x)

-- the number of a string that a word holds is the word
pub number_held : {n : ℕ} {b : List ℕ} {w : ℕ} → Word n b w → number b ≡ w
number_held {n} {b} {w} p = ap number (sym p.same) ∙ number-bits_of n w ∙ mod-eq_of_lt p.small

-- ---- addition modulo 2

get_or_xor : (a b : List ℕ) (i : ℕ) → length a ≡ length b → get_or (a ⊕ b) i 0 ≡ (get_or a i 0 + get_or b i 0) % 2
unfolding ◌⊕◌ zip_with
get_or_xor [] [] i h = refl
get_or_xor [] (y ∷ b) i h = absurd (omega arith)
get_or_xor (x ∷ a) [] i h = absurd (omega arith)
get_or_xor (x ∷ a) (y ∷ b) zero h = refl
get_or_xor (x ∷ a) (y ∷ b) (suc i) h = get_or_xor a b i (omega arith)

permuted_xor : (t a b : List ℕ) → length a ≡ length b → permuted t (a ⊕ b) ≡ permuted t a ⊕ permuted t b
unfolding permuted ◌⊕◌ zip_with
permuted_xor [] a b h = refl
permuted_xor (x ∷ t) a b h = ap₂ (λ (y : ℕ) (l : List ℕ). y ∷ l) (get_or_xor a b (x - 1) h) (permuted_xor t a b h)

pub Additive-selection : (n : ℕ) (t : List ℕ) → Additive (selection n t)
unfolding selection
Additive-selection n t = record {
  law = λ a b.
      ap (λ (l : List ℕ). number (permuted t l)) (bits_of_xor n a b)
      ∙ ap number (permuted_xor t (bits_of n a) (bits_of n b) (length-bits_of n a ∙ sym (length-bits_of n b)))
      ∙ number_held (added (selection_word n t a) (selection_word n t b));
}

-- ---- words in steps

-- the steps make of each single bit what the table selects of it
unfoldable pub selecting : ℕ → List ℕ → Steps → Bool
selecting n t e = agreeing (value e) (selection n t) n

pub by_steps : (n : ℕ) (t : List ℕ) (e : Steps) → T (selecting n t e) → (w : ℕ) → w < 2 ^ n → Word (length t) (permuted t (bits_of n w)) (value e w)
unfolding selecting
by_steps n t e h w l = rw (agree (Additive-value e) (Additive-selection n t) n h w l) (selection_word n t w)
