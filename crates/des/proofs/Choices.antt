-- The tables of permuted choice 2: antt tests every entry against PC-2 with gaps, and the parts of C and D add up.
-- Assumes nothing.
use mathlib.Core.Path.{◌≡◌, ap, ap₂, sym, ◌∙◌}
use mathlib.Core.List.{[], ◌∷◌}
use Prim.Native.Nat.{ℕ, zero, suc, ◌+◌, ◌-◌, ◌*◌, ◌/◌, ◌%◌, ◌^◌, ◌<◌, ◌≤◌}
use native.Mathlib.Nat.{mod-lt, mod-one, mod-eq_of_lt}
use native.Mathlib.Omega.{arith}
use lib.Bits.{bit_xor, xor_comm}
use lib.Dec.{eqb, leb, leb→le}
use lib.ListN.{length, get_or}
use lib.Pow.{pow_pos, field, mod-mod-pow, high, low, shr-shr}
use Rattle.computed.proofs.Tests.{below, at, equal_at}
use Rattle.computed.proofs.Additive.{at_zero, low_in_parts}
use Rattle.des_choices.specs.Choices.{tables, start, width, with_gaps}
use Rattle.des.specs.Des.{bits_of, number, permuted}
use Rattle.des.specs.Words.{Word}
use Rattle.des.specs.Windows.{gapped}
use Rattle.des.proofs.Selecting.{selection, selection_word, Additive-selection}

-- where part g starts in C and D, from the last bit of D
abbrev offset : ℕ → ℕ
offset g = g / 5 * 28 + start g

-- ten tables, of 64 entries or 16
pub length_choice : (g : ℕ) → g < 10 → length (get_or tables g []) ≡ 2 ^ width g
length_choice = equal_at 10 (λ g. length (get_or tables g [])) (λ g. 2 ^ width g) tt

-- the rule of the tables, at all 544 entries
pub choice_at : (g v : ℕ) → g < 10 → v < 2 ^ width g → get_or (get_or tables g []) v 0 ≡ selection 56 gapped (v * 2 ^ offset g)
unfolding selection number permuted bits_of
choice_at g v hg hv =
    equal_at (2 ^ width g) (λ v. get_or (get_or tables g []) v 0) (λ v. selection 56 gapped (v * 2 ^ offset g)) (at 10 (λ g. below (2 ^ width g) (λ v. eqb (get_or (get_or tables g []) v 0) (selection 56 gapped (v * 2 ^ offset g)))) tt g hg) v hv

-- a part ends where the next one starts
offset_more : (g : ℕ) → g < 10 → offset (suc g) ≡ width g + offset g
offset_more = equal_at 10 (λ g. offset (suc g)) (λ g. width g + offset g) tt

-- a part lies within its half
within_half : (g : ℕ) → g < 10 → start g + width g ≤ 28
within_half g h = leb→le (start g + width g) 28 (at 10 (λ g. leb (start g + width g) 28) tt g h)

-- w bits at s of the 28 low bits
low_bits : (x y w s : ℕ) → s + w ≤ 28 → x % 2 ^ 28 ≡ y % 2 ^ 28 → x / 2 ^ s % 2 ^ w ≡ y / 2 ^ s % 2 ^ w
low_bits x y w s h e =
    let j = 28 - (w + s) in
    let q : j + (w + s) ≡ 28 = omega arith in
    let cut : (z : ℕ) → z / 2 ^ s % 2 ^ w ≡ z % 2 ^ 28 % 2 ^ (w + s) / 2 ^ s =
    λ z. sym (field z w s) ∙ ap (λ (n : ℕ). n / 2 ^ s) (sym (mod-mod-pow z j (w + s)) ∙ ap (λ (n : ℕ). z % 2 ^ n % 2 ^ (w + s)) q) in
    cut x ∙ ap (λ (n : ℕ). n % 2 ^ (w + s) / 2 ^ s) e ∙ sym (cut y)

-- two halves as one string: C, then D
module _ (c d : ℕ) where
  abbrev pub both : ℕ
  both = c % 2 ^ 28 * 2 ^ 28 + d % 2 ^ 28

  bits_of_half : (h s w : ℕ) → h < 2 → s + w ≤ 28 → get_or (d ∷ c ∷ []) h 0 / 2 ^ s % 2 ^ w ≡ both / 2 ^ (h * 28 + s) % 2 ^ w
  bits_of_half zero s w h l =
      let e : s ≡ 0 * 28 + s = omega arith in
      low_bits d both w s l (sym (low (c % 2 ^ 28) 28 (mod-lt d (pow_pos 28)))) ∙ ap (λ (n : ℕ). both / 2 ^ n % 2 ^ w) e
  bits_of_half (suc zero) s w h l =
      let e : 28 + s ≡ 1 * 28 + s = omega arith in
      low_bits c (c % 2 ^ 28) w s l (sym (mod-eq_of_lt (mod-lt c (pow_pos 28))))
      ∙ ap (λ (n : ℕ). n / 2 ^ s % 2 ^ w) (sym (high (c % 2 ^ 28) 28 (mod-lt d (pow_pos 28))))
      ∙ ap (λ (n : ℕ). n % 2 ^ w) (shr-shr both 28 s)
      ∙ ap (λ (n : ℕ). both / 2 ^ n % 2 ^ w) e
  bits_of_half (suc (suc h)) s w l k = absurd (omega arith)

  -- the sum over the first parts is what PC-2 with gaps makes of the bits that they have
  so_far : (g : ℕ) → g ≤ 10 → with_gaps g c d ≡ selection 56 gapped (both % 2 ^ offset g)
  so_far zero h = sym (ap (selection 56 gapped) (mod-one both) ∙ at_zero (Additive-selection 56 gapped))
  so_far (suc g) h =
      let v = both / 2 ^ offset g % 2 ^ width g in
      let l : g < 10 = omega arith in
      ap₂ bit_xor (so_far g (omega arith))
      (ap (λ (n : ℕ). get_or (get_or tables g []) n 0) (bits_of_half (g / 5) (start g) (width g) (omega arith) (within_half g l))
      ∙ choice_at g v l (mod-lt (both / 2 ^ offset g) (pow_pos (width g))))
      ∙ xor_comm (selection 56 gapped (both % 2 ^ offset g)) (selection 56 gapped (v * 2 ^ offset g))
      ∙ sym (low_in_parts (Additive-selection 56 gapped) both (width g) (offset g))
      ∙ ap (λ (n : ℕ). selection 56 gapped (both % 2 ^ n)) (sym (offset_more g l))

  pub all_parts : Word 64 (permuted gapped (bits_of 56 both)) (with_gaps 10 c d)
  all_parts =
      let l : both < 2 ^ 56 = omega (arith, mod-lt c (pow_pos 28), mod-lt d (pow_pos 28)) in
      rw (so_far 10 (omega arith), mod-eq_of_lt l) (selection_word 56 gapped both)
