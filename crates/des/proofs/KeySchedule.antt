-- The key schedule: left shifts add up, so C and D of each round are C0 and D0 after the shifts so far, and those of the sixteen rounds make 28.
-- Assumes nothing.
use mathlib.Core.Path.{◌≡◌, refl, ap, ap₂, sym, ◌∙◌}
use mathlib.Core.Bool.{true, false}
use mathlib.Core.List.{List, [], ◌∷◌, ◌++◌, map, reverse, append_assoc, append-nil}
use Prim.Native.Nat.{ℕ, zero, suc, ◌+◌, ◌<◌, ◌≤◌}
use native.Mathlib.Nat.{add_comm}
use native.Mathlib.Omega.{arith}
use lib.Dec.{leb, leb→le}
use lib.ListN.{length, get_or, take, drop, length-append, length-drop, take-append-drop}
use lib.Seq.{drop-append-le, take-append-le, drop-drop, take-add, take-length, drop-length, take_at, drop_at, length-take-le}
use Rattle.des.specs.Tables.{left_shifts, PC1}
use Rattle.des.specs.Des.{bits, left_shift, both_shifted, key_halves}
use Rattle.des.specs.Words.{order, shifts_up_to}
use Rattle.computed.proofs.Tests.{at, equal_at}
use Rattle.des.proofs.Permutations.{length-permuted}

-- ---- left shifts of one string

pub length-left_shift : (n : ℕ) (b : List ℕ) → length (left_shift n b) ≡ length b
unfolding left_shift
length-left_shift n b =
    length-append (drop n b) (take n b)
    ∙ add_comm (length (drop n b)) (length (take n b))
    ∙ sym (length-append (take n b) (drop n b))
    ∙ ap length (take-append-drop n b)

left_shift_add : (s t : ℕ) (b : List ℕ) → t + s ≤ length b → left_shift s (left_shift t b) ≡ left_shift (t + s) b
unfolding left_shift
left_shift_add s t b h =
    let l : s ≤ length (drop t b) = simp length-drop (omega arith) in
    ap₂ (λ (x y : List ℕ). x ++ y) (drop-append-le s (drop t b) (take t b) l) (take-append-le s (drop t b) (take t b) l)
    ∙ append_assoc (drop s (drop t b)) (take t b) (take s (drop t b))
    ∙ ap₂ (λ (x y : List ℕ). x ++ y) (drop-drop s t b) (sym (take-add t s b))

left_shift_all : (b : List ℕ) → left_shift (length b) b ≡ b
unfolding left_shift
left_shift_all b = ap₂ (λ (x y : List ℕ). x ++ y) (drop-length b) (take-length b)

left_shift_none : (b : List ℕ) → left_shift 0 b ≡ b
unfolding left_shift
left_shift_none b = append-nil b

-- ---- left shifts of both halves

module _ (cd : List ℕ) (long : length cd ≡ 56) where
  pub first_long : length (take 28 cd) ≡ 28
  first_long = length-take-le 28 cd (omega arith)

  pub second_long : length (drop 28 cd) ≡ 28
  second_long = simp length-drop (omega arith)

  pub length-both_shifted : (s : ℕ) → length (both_shifted s cd) ≡ 56
  unfolding both_shifted
  length-both_shifted s =
      length-append (left_shift s (take 28 cd)) (left_shift s (drop 28 cd))
      ∙ ap₂ (λ (m n : ℕ). m + n) (length-left_shift s (take 28 cd) ∙ first_long) (length-left_shift s (drop 28 cd) ∙ second_long)

  pub both_shifted_add : (s t : ℕ) → t + s ≤ 28 → both_shifted s (both_shifted t cd) ≡ both_shifted (t + s) cd
  unfolding both_shifted
  both_shifted_add s t h =
      let c = take 28 cd in
      let d = drop 28 cd in
      let l : length (left_shift t c) ≡ 28 = length-left_shift t c ∙ first_long in
      ap₂ (λ (x y : List ℕ). left_shift s x ++ left_shift s y) (take_at (left_shift t c) (left_shift t d) 28 l) (drop_at (left_shift t c) (left_shift t d) 28 l)
      ∙ ap₂ (λ (x y : List ℕ). x ++ y) (left_shift_add s t c (omega (arith, first_long))) (left_shift_add s t d (omega (arith, second_long)))

  pub both_shifted_all : both_shifted 28 cd ≡ cd
  unfolding both_shifted
  both_shifted_all =
      ap₂ (λ (m n : ℕ). left_shift m (take 28 cd) ++ left_shift n (drop 28 cd)) (sym first_long) (sym second_long)
      ∙ ap₂ (λ (x y : List ℕ). x ++ y) (left_shift_all (take 28 cd)) (left_shift_all (drop 28 cd))
      ∙ take-append-drop 28 cd

  pub both_shifted_none : both_shifted 0 cd ≡ cd
  unfolding both_shifted
  both_shifted_none =
      ap₂ (λ (x y : List ℕ). x ++ y) (left_shift_none (take 28 cd)) (left_shift_none (drop 28 cd)) ∙ take-append-drop 28 cd

-- ---- C and D of each round

pub length-key_halves : (key : List ℕ) (n : ℕ) → length (key_halves key n) ≡ 56
unfolding key_halves PC1
length-key_halves key zero = length-permuted PC1 (bits key)
length-key_halves key (suc n) = length-both_shifted (key_halves key n) (length-key_halves key n) (get_or left_shifts n 0)

-- the left shifts of C and D up to round n
abbrev pub total : ℕ → ℕ
total zero = 0
total (suc n) = total n + get_or left_shifts n 0

pub total_le : (n : ℕ) → n < 17 → total n ≤ 28
unfolding left_shifts
total_le n h = leb→le (total n) 28 (at 17 (λ n. leb (total n) 28) tt n h)

pub key_halves-total : (key : List ℕ) (n : ℕ) → n < 17 → key_halves key n ≡ both_shifted (total n) (key_halves key 0)
unfolding key_halves
key_halves-total key zero h = sym (both_shifted_none (key_halves key 0) (length-key_halves key 0))
key_halves-total key (suc n) h =
    ap (both_shifted (get_or left_shifts n 0)) (key_halves-total key n (omega arith))
    ∙ both_shifted_add (key_halves key 0) (length-key_halves key 0) (get_or left_shifts n 0) (total n) (total_le (suc n) h)

-- C16 D16 is C0 D0, since the shifts of sixteen rounds make 28
pub key_halves_around : (key : List ℕ) → key_halves key 0 ≡ key_halves key 16
unfolding key_halves left_shifts
key_halves_around key =
    sym (key_halves-total key 16 (omega arith) ∙ both_shifted_all (key_halves key 0) (length-key_halves key 0))

-- the code's table of the sums
pub length-shifts_up_to : length shifts_up_to ≡ 17
length-shifts_up_to = refl

pub total_at : (n : ℕ) → n < 17 → get_or shifts_up_to n 0 ≡ total n
unfolding left_shifts
total_at = equal_at 17 (λ n. get_or shifts_up_to n 0) total tt

-- left shifts of C0 and D0 by the table's entry lead to C and D of the round
pub key_halves_at : (n r : ℕ) → n < 17 → r ≡ get_or shifts_up_to n 0 → (r ≤ 28) × ((key : List ℕ) → both_shifted r (key_halves key 0) ≡ key_halves key n)
key_halves_at n r h e =
    let q = e ∙ total_at n h in
    (omega (arith, total_le n h), λ key. ap (λ (s : ℕ). both_shifted s (key_halves key 0)) q ∙ sym (key_halves-total key n h))

-- ---- which key each round has, both ways

-- the rounds from the first to the last
abbrev pub in_turn : List ℕ
in_turn = 1 ∷ 2 ∷ 3 ∷ 4 ∷ 5 ∷ 6 ∷ 7 ∷ 8 ∷ 9 ∷ 10 ∷ 11 ∷ 12 ∷ 13 ∷ 14 ∷ 15 ∷ 16 ∷ []

-- enciphering has K1 in the first round and K16 in the last, deciphering K16 in the first and K1 in the last
pub keys_forward : map (order false) in_turn ≡ in_turn
keys_forward = refl

pub keys_backward : map (order true) in_turn ≡ reverse in_turn
keys_backward = refl
