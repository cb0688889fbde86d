-- The tables of S with P after it: antt tests every entry against the S-boxes and P, and what the boxes select adds up, since P keeps exclusive or.
-- Assumes nothing.
use mathlib.Core.Path.{◌≡◌, refl, ap, ap₂, sym, ◌∙◌}
use mathlib.Core.List.{List, [], ◌∷◌}
use Prim.Native.Nat.{ℕ, zero, suc, ◌+◌, ◌-◌, ◌*◌, ◌/◌, ◌%◌, ◌^◌, ◌<◌, ◌≤◌}
use native.Mathlib.Nat.{mul_assoc, mul-one, add-mul, mul-lt-mul_of_pos_right, mod-lt}
use native.Mathlib.Omega.{arith}
use lib.Bits.{bit_xor}
use lib.Dec.{lit<}
use lib.ListN.{length, get_or, take, drop}
use lib.Pow.{pow-add, pow_pos}
use Rattle.computed.proofs.Tests.{equal_at, equal_at₂}
use Rattle.computed.proofs.Additive.{at_zero, in_parts}
use Rattle.des_boxes.specs.Boxes.{tables, six, through_p}
use Rattle.des.specs.Tables.{P, boxes}
use Rattle.des.specs.Des.{bits_of, number, permuted, s_box, selected}
use Rattle.des.specs.Words.{Word}
use Rattle.des.proofs.Held.{itself, joined}
use Rattle.des.proofs.Strings.{part_bits_of, number-bits_of}
use Rattle.des.proofs.Rows.{entry_lt}
use Rattle.des.proofs.Selecting.{selection, selection_word, number_held, Additive-selection}

-- the row is the outer two bits and the column the inner four
row_column : (b : ℕ) → b < 64
    → (number (get_or (bits_of 6 b) 0 0 ∷ get_or (bits_of 6 b) 5 0 ∷ []) ≡ b / 32 * 2 + b % 2) × (number (take 4 (drop 1 (bits_of 6 b))) ≡ b / 2 % 16)
unfolding bits_of number
row_column b h = (omega arith, ap number (part_bits_of 1 4 1 b) ∙ number-bits_of 4 (b / 2))

boxed : (j b : ℕ) → j < 8 → b < 64 → Word 4 (s_box j (bits_of 6 b)) (get_or boxes (j * 64 + (b / 32 * 2 + b % 2) * 16 + b / 2 % 16) 0)
unfolding s_box
boxed j b hj hb =
    let e = row_column b hb in
    rw (e.0, e.1) (itself 4 (get_or boxes (j * 64 + (b / 32 * 2 + b % 2) * 16 + b / 2 % 16) 0) (entry_lt (j * 64 + (b / 32 * 2 + b % 2) * 16 + b / 2 % 16) (omega arith)))

-- what S(j + 1) selects by v, in its place and through P
unfoldable pub placed : ℕ → ℕ → ℕ
placed j v = selection 32 P (number (s_box j (bits_of 6 v)) * 2 ^ (28 - 4 * j))

-- eight tables of 64 entries
pub length_box : (j : ℕ) → j < 8 → length (get_or tables j []) ≡ 64
length_box = equal_at 8 (λ j. length (get_or tables j [])) (λ j. 64) tt

-- the rule of the tables, at all 512 entries
pub box_at : (j v : ℕ) → j < 8 → v < 64 → get_or (get_or tables j []) v 0 ≡ placed j v
unfolding placed selection number permuted s_box bits_of P boxes
box_at = equal_at₂ 8 64 (λ j v. get_or (get_or tables j []) v 0) placed tt

-- acc is P of what the first n boxes select of b, with 0 for the others
record SoFar (b : List ℕ) (n acc : ℕ) : Type 0 where
  out : ℕ
  holds : Word (4 * n) (selected n b) out
  sum : acc ≡ selection 32 P (out * 2 ^ (32 - 4 * n))

-- one box more
more : (b : List ℕ) (n acc v : ℕ) → n < 8 → v < 64 → SoFar b n acc → bits_of 6 v ≡ take 6 (drop (6 * n) b)
    → SoFar b (suc n) (bit_xor acc (get_or (get_or tables n []) v 0))
unfolding selected placed
more b n acc v h hv s block =
    let m = 28 - 4 * n in
    let o = s.out in
    let y = number (s_box n (bits_of 6 v)) in
    let box : Word 4 (s_box n (bits_of 6 v)) y = let w = boxed n v h hv in rw (← (number_held w)) at w in
    let p : 32 - 4 * n ≡ 4 + m = omega arith in
    let q : o * 2 ^ (32 - 4 * n) + y * 2 ^ m ≡ (o * 2 ^ 4 + y) * 2 ^ m =
    ap (λ (z : ℕ). o * z + y * 2 ^ m) (ap (λ (i : ℕ). 2 ^ i) p ∙ pow-add 2 4 m)
    ∙ ap (λ (z : ℕ). z + y * 2 ^ m) (sym (mul_assoc o (2 ^ 4) (2 ^ m)))
    ∙ sym (add-mul (o * 2 ^ 4) y (2 ^ m)) in
    let l : y * 2 ^ m < 2 ^ (32 - 4 * n) = rw (p, pow-add 2 4 m) (mul-lt-mul_of_pos_right box.small (pow_pos m)) in
    let a : 4 * suc n ≡ 4 * n + 4 = omega arith in
    let z : 32 - 4 * suc n ≡ m = omega arith in
    record {
      out = o * 2 ^ 4 + y;
      holds = rw (a, ← block) (joined s.holds box);
      sum =
          ap₂ bit_xor s.sum (box_at n v h hv)
          ∙ sym (in_parts (Additive-selection 32 P) (32 - 4 * n) o (y * 2 ^ m) l)
          ∙ ap (selection 32 P) q
          ∙ ap (λ (i : ℕ). selection 32 P ((o * 2 ^ 4 + y) * 2 ^ i)) (sym z);
    }

-- where each box has its block of six bits of b, the tables give P of what the boxes select
module _ (b : List ℕ) (odd even : ℕ) (blocks : (j : ℕ) → j < 8 → bits_of 6 (six j odd even) ≡ take 6 (drop (6 * j) b)) where
  so_far : (n : ℕ) → n ≤ 8 → SoFar b n (through_p n odd even)
  unfolding selected bits_of
  so_far zero h = record { out = 0; holds = record { small = omega arith; same = refl }; sum = sym (at_zero (Additive-selection 32 P)) }
  so_far (suc n) h =
      more b n (through_p n odd even) (six n odd even) (omega arith) (mod-lt _ (lit< tt)) (so_far n (omega arith)) (blocks n (omega arith))

  pub all_boxes : Word 32 (permuted P (selected 8 b)) (through_p 8 odd even)
  unfolding P
  all_boxes = let s = so_far 8 (omega arith) in rw (s.sum, mul-one s.out, ← s.holds.same) (selection_word 32 P s.out)
