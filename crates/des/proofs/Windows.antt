-- The six bits of each box: a window of R, and a block of a round key with gaps.
-- Assumes nothing.
use mathlib.Core.Path.{◌≡◌, refl, ap, ap₂, sym, ◌∙◌}
use mathlib.Core.List.{List, [], ◌∷◌, zip_with}
use Prim.Native.Nat.{ℕ, zero, suc, ◌+◌, ◌-◌, ◌*◌, ◌/◌, ◌%◌, ◌^◌, ◌<◌}
use native.Mathlib.Nat.{mod-lt}
use native.Mathlib.Omega.{arith}
use lib.Bits.{bit_xor, xor_shr}
use lib.ListN.{get_or, take, drop}
use lib.Pow.{shr-shr}
use Rattle.octets.specs.Part.{same}
use Rattle.octets.proofs.Same.{same_equal}
use Rattle.computed.proofs.Tests.{at, passes, equal_at}
use Rattle.des_boxes.specs.Boxes.{word_of, six}
use Rattle.des.specs.Tables.{E, PC2}
use Rattle.des.specs.Des.{bits_of, permuted, ◌⊕◌}
use Rattle.des.specs.Rows.{count}
use Rattle.des.specs.Words.{Word}
use Rattle.des.specs.Windows.{wrapped, gapped, upper_places, place, WithGaps}
use Rattle.des.proofs.Strings.{bits_of_mod, bits_of_xor, part_bits_of}

-- ---- parts

take-permuted : (n : ℕ) (t b : List ℕ) → take n (permuted t b) ≡ permuted (take n t) b
unfolding permuted
take-permuted zero t b = refl
take-permuted (suc n) [] b = refl
take-permuted (suc n) (x ∷ t) b = ap (λ (l : List ℕ). get_or b (x - 1) 0 ∷ l) (take-permuted n t b)

drop-permuted : (n : ℕ) (t b : List ℕ) → drop n (permuted t b) ≡ permuted (drop n t) b
unfolding permuted
drop-permuted zero t b = refl
drop-permuted (suc n) [] b = refl
drop-permuted (suc n) (x ∷ t) b = drop-permuted n t b

-- six entries of two tables that are the same select the same six bits
same-six : (t u b : List ℕ) (p q : ℕ) → take 6 (drop p t) ≡ take 6 (drop q u) → take 6 (drop p (permuted t b)) ≡ take 6 (drop q (permuted u b))
same-six t u b p q h =
    ap (take 6) (drop-permuted p t b)
    ∙ take-permuted 6 (drop p t) b
    ∙ ap (λ (l : List ℕ). permuted l b) h
    ∙ sym (ap (take 6) (drop-permuted q u b) ∙ take-permuted 6 (drop q u) b)

xor_nil : (a : List ℕ) → a ⊕ [] ≡ []
unfolding ◌⊕◌ zip_with
xor_nil [] = refl
xor_nil (x ∷ a) = refl

take_xor : (n : ℕ) (a b : List ℕ) → take n (a ⊕ b) ≡ take n a ⊕ take n b
unfolding ◌⊕◌ zip_with
take_xor zero a b = refl
take_xor (suc n) [] b = refl
take_xor (suc n) (x ∷ a) [] = refl
take_xor (suc n) (x ∷ a) (y ∷ b) = ap (λ (l : List ℕ). (x + y) % 2 ∷ l) (take_xor n a b)

drop_xor : (n : ℕ) (a b : List ℕ) → drop n (a ⊕ b) ≡ drop n a ⊕ drop n b
unfolding ◌⊕◌ zip_with
drop_xor zero a b = refl
drop_xor (suc n) [] b = refl
drop_xor (suc n) (x ∷ a) [] = sym (xor_nil (drop n a))
drop_xor (suc n) (x ∷ a) (y ∷ b) = drop_xor n a b

-- ---- the blocks of six of two tables, which antt compares

window_blocks : (j : ℕ) → j < 8 → take 6 (drop (4 * j) wrapped) ≡ take 6 (drop (6 * j) E)
unfolding E
window_blocks j h =
    let test = at 8 (λ j. same (take 6 (drop (4 * j) wrapped)) (take 6 (drop (6 * j) E))) tt j h in
    same_equal (take 6 (drop (4 * j) wrapped)) (take 6 (drop (6 * j) E)) (passes (same (take 6 (drop (4 * j) wrapped)) (take 6 (drop (6 * j) E))) test)

key_blocks : (j : ℕ) → j < 8 → take 6 (drop (58 - place j) gapped) ≡ take 6 (drop (6 * j) PC2)
unfolding PC2
key_blocks j h =
    let test = at 8 (λ j. same (take 6 (drop (58 - place j) gapped)) (take 6 (drop (6 * j) PC2))) tt j h in
    same_equal (take 6 (drop (58 - place j) gapped)) (take 6 (drop (6 * j) PC2)) (passes (same (take 6 (drop (58 - place j) gapped)) (take 6 (drop (6 * j) PC2))) test)

place_within : (j : ℕ) → j < 8 → 58 - place j + (6 + place j) ≡ 64
place_within = equal_at 8 (λ j. 58 - place j + (6 + place j)) (λ j. 64) tt

-- what stands beside the blocks is none of the 56 bits of C and D: each is named as often as PC-2 names it
pub gaps_empty : (v : ℕ) → v < 57 → count v gapped ≡ count v PC2
unfolding PC2 count
gaps_empty = equal_at 57 (λ v. count v gapped) (λ v. count v PC2) tt

-- permuted choice 2 with gaps holds the round key
pub with_gaps_lem : (b : List ℕ) (k : ℕ) → Word 64 (permuted gapped b) k → WithGaps (permuted PC2 b) k
with_gaps_lem b k p j h =
    sym (part_bits_of (58 - place j) 6 (place j) k)
    ∙ ap (λ (n : ℕ). take 6 (drop (58 - place j) (bits_of n k))) (place_within j h)
    ∙ ap (λ (l : List ℕ). take 6 (drop (58 - place j) l)) p.same
    ∙ same-six gapped PC2 b (58 - place j) (6 * j) (key_blocks j h)

-- ---- what the boxes are handed

-- the windows v of R are added to the round key k, once as it stands and once to its upper part
module _ (r v k : ℕ) (K : List ℕ) (windows : Word 34 (permuted wrapped (bits_of 32 r)) v) (gaps : WithGaps K k) where
  -- the window of R for box j + 1 is its block of E(R)
  window : (j : ℕ) → j < 8 → bits_of 6 (v / 2 ^ (28 - 4 * j)) ≡ take 6 (drop (6 * j) (permuted E (bits_of 32 r)))
  window j h =
      let e : 4 * j + (6 + (28 - 4 * j)) ≡ 34 = omega arith in
      sym (part_bits_of (4 * j) 6 (28 - 4 * j) v)
      ∙ ap (λ (n : ℕ). take 6 (drop (4 * j) (bits_of n v))) e
      ∙ ap (λ (l : List ℕ). take 6 (drop (4 * j) l)) windows.same
      ∙ same-six wrapped E (bits_of 32 r) (4 * j) (6 * j) (window_blocks j h)

  -- which of the two sums has the bits of box j + 1
  chosen : (m : ℕ) → m < 2 → get_or (bit_xor v (k / 2 ^ 30) ∷ bit_xor v k ∷ []) m 0 ≡ bit_xor v (k / 2 ^ ((1 - m) * 30))
  chosen zero h = refl
  chosen (suc zero) h = let e : k ≡ k / 2 ^ 0 = omega arith in ap (bit_xor v) e
  chosen (suc (suc m)) h = absurd (omega arith)

  -- box j + 1 is handed its block of E(R) ⊕ K
  pub handed : (j : ℕ) → j < 8 → bits_of 6 (six j (bit_xor v (k / 2 ^ 30)) (bit_xor v k)) ≡ take 6 (drop (6 * j) (permuted E (bits_of 32 r) ⊕ K))
  handed j h =
      let m = 28 - 4 * j in
      let u = k / 2 ^ upper_places j in
      let e_r = permuted E (bits_of 32 r) in
      bits_of_mod 6 0 (word_of j (bit_xor v (k / 2 ^ 30)) (bit_xor v k) / 2 ^ m)
      ∙ ap (λ (x : ℕ). bits_of 6 (x / 2 ^ m)) (chosen (j % 2) (mod-lt j (omega arith)))
      ∙ ap (bits_of 6) (xor_shr v u m)
      ∙ bits_of_xor 6 (v / 2 ^ m) (u / 2 ^ m)
      ∙ ap₂ ◌⊕◌ (window j h) (ap (bits_of 6) (shr-shr k (upper_places j) m) ∙ gaps j h)
      ∙ sym (ap (take 6) (drop_xor (6 * j) e_r K) ∙ take_xor 6 (drop (6 * j) e_r) (drop (6 * j) K))
