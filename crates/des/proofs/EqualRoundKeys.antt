-- C and D of a key with equal round keys: a left shift leaves both as they are, and each is one bit throughout.
-- Assumes nothing.
use mathlib.Core.Path.{◌≡◌, refl, ap, ap₂, sym, ◌∙◌, subst}
use mathlib.Core.List.{List, [], ◌∷◌, ◌++◌}
use Prim.Native.Nat.{ℕ, zero, suc, ◌-◌, ◌<◌, ◌≤◌}
use native.Mathlib.Numerals.{add-one}
use native.Mathlib.Omega.{arith}
use lib.Dec.{ltb, eqb, ltb→lt, eqb→eq}
use lib.ListN.{length, get_or, take, drop, replicate, take-append-drop}
use lib.Seq.{ext_get_or, take_at, drop_at}
use Rattle.des.specs.Tables.{PC2, left_shifts}
use Rattle.des.specs.Des.{permuted, left_shift, both_shifted, key_halves, round_key}
use Rattle.des.specs.Rows.{count}
use Rattle.computed.proofs.Tests.{at}
use Rattle.des.proofs.Permutations.{length-permuted, get_or-permuted, permuted_append, permuted_twice, named_same}
use Rattle.des.proofs.KeySchedule.{length-left_shift, first_long, second_long, length-both_shifted, both_shifted_add, both_shifted_none, length-key_halves, total, total_le, key_halves-total, key_halves_around}

-- ---- C and D that a left shift leaves as they are

-- one left shift of both halves leaves them as they are
abbrev pub Unmoved : List ℕ → Type 0
Unmoved cd = both_shifted 1 cd ≡ cd

-- the bits behind the first, which comes in on the right, are all that bit if nothing changes
rest_one_bit : (x : ℕ) (b : List ℕ) → b ++ (x ∷ []) ≡ x ∷ b → b ≡ replicate (length b) x
rest_one_bit x [] e = refl
rest_one_bit x (y ∷ b) e =
    let h : y ≡ x = cc in
    ap₂ (λ (z : ℕ) (l : List ℕ). z ∷ l) h (rest_one_bit x b (ap (drop 1) e ∙ ap (λ (z : ℕ). z ∷ b) h))

-- a string that a left shift leaves as it is has one bit throughout
one_bit : (b : List ℕ) → left_shift 1 b ≡ b → b ≡ replicate (length b) (get_or b 0 0)
unfolding left_shift
one_bit [] e = refl
one_bit (x ∷ b) e = ap (λ (l : List ℕ). x ∷ l) (rest_one_bit x b e)

module _ (cd : List ℕ) (long : length cd ≡ 56) (unmoved : Unmoved cd) where
  -- any number of left shifts leaves both halves as they are
  unmoved_any : (s : ℕ) → s ≤ 28 → both_shifted s cd ≡ cd
  unmoved_any zero h = both_shifted_none cd long
  unmoved_any (suc s) h =
      ap (λ (n : ℕ). both_shifted n cd) (sym (add-one s))
      ∙ sym (both_shifted_add cd long 1 s (omega arith))
      ∙ ap (both_shifted 1) (unmoved_any s (omega arith))
      ∙ unmoved

  -- C is one bit throughout, and D is
  pub unmoved_bits : cd ≡ replicate 28 (get_or (take 28 cd) 0 0) ++ replicate 28 (get_or (drop 28 cd) 0 0)
  unfolding both_shifted
  unmoved_bits =
      let c = take 28 cd in
      let d = drop 28 cd in
      let l : length (left_shift 1 c) ≡ 28 = length-left_shift 1 c ∙ first_long cd long in
      let c_unmoved : left_shift 1 c ≡ c = sym (take_at (left_shift 1 c) (left_shift 1 d) 28 l) ∙ ap (take 28) unmoved in
      let d_unmoved : left_shift 1 d ≡ d = sym (drop_at (left_shift 1 c) (left_shift 1 d) 28 l) ∙ ap (drop 28) unmoved in
      sym (take-append-drop 28 cd)
      ∙ ap₂ (λ (x y : List ℕ). x ++ y) (one_bit c c_unmoved ∙ ap (λ (n : ℕ). replicate n (get_or c 0 0)) (first_long cd long))
      (one_bit d d_unmoved ∙ ap (λ (n : ℕ). replicate n (get_or d 0 0)) (second_long cd long))

-- where a left shift leaves C0 and D0 as they are, every round has them
pub unmoved_halves : (key : List ℕ) → Unmoved (key_halves key 0) → (n : ℕ) → n ≤ 16 → key_halves key n ≡ key_halves key 0
unmoved_halves key unmoved n h =
    key_halves-total key n (omega arith) ∙ unmoved_any (key_halves key 0) (length-key_halves key 0) unmoved (total n) (total_le n (omega arith))

-- ---- what PC-2 selects before and after left shifts

-- the numbers from 1 to n
abbrev up_to : ℕ → List ℕ
up_to zero = []
up_to (suc n) = up_to n ++ (suc n ∷ [])

-- the table of all 56 bits in their order selects C and D as they are
permuted-up_to : (cd : List ℕ) → length cd ≡ 56 → permuted (up_to 56) cd ≡ cd
permuted-up_to cd long =
    ext_get_or 0 (permuted (up_to 56) cd) cd (length-permuted (up_to 56) cd ∙ sym long)
    (λ i h.
    let l : i < 56 = subst (λ (n : ℕ). i < n) (length-permuted (up_to 56) cd) h in
    get_or-permuted (up_to 56) cd i l
    ∙ ap (λ (n : ℕ). get_or cd n 0) (eqb→eq (get_or (up_to 56) i 0 - 1) i (at 56 (λ i. eqb (get_or (up_to 56) i 0 - 1) i) tt i l)))

-- two left shifts as a table: the numbers in their order, shifted
two_shifted : (cd : List ℕ) → length cd ≡ 56 → both_shifted 2 cd ≡ permuted (both_shifted 2 (up_to 56)) cd
unfolding permuted both_shifted left_shift
two_shifted cd long = ap (both_shifted 2) (sym (permuted-up_to cd long))

-- the numbers that the bits which PC-2 selects have two left shifts before
PC2_before : List ℕ
PC2_before = permuted PC2 (both_shifted 2 (up_to 56))

choice_after_two : (cd : List ℕ) → length cd ≡ 56 → permuted PC2 (both_shifted 2 cd) ≡ permuted PC2_before cd
unfolding PC2_before both_shifted left_shift PC2
choice_after_two cd long = ap (permuted PC2) (two_shifted cd long) ∙ permuted_twice PC2 (both_shifted 2 (up_to 56)) cd tt

-- PC-2 leaves out eight bits, and two left shifts later it selects those: together all 56 are named
all_named : (i : ℕ) → i < 56 → 0 < count (suc i) (PC2 ++ PC2_before)
unfolding count PC2 PC2_before permuted both_shifted left_shift
all_named i h = ltb→lt 0 (count (suc i) (PC2 ++ PC2_before)) (at 56 (λ i. ltb 0 (count (suc i) (PC2 ++ PC2_before))) tt i h)

-- a left shift changes nothing if PC-2 sees no change by it, neither at once nor two left shifts later
unseen_unmoved : (cd : List ℕ) → length cd ≡ 56 → permuted PC2 (both_shifted 1 cd) ≡ permuted PC2 cd
    → permuted PC2 (both_shifted 2 (both_shifted 1 cd)) ≡ permuted PC2 (both_shifted 2 cd)
    → Unmoved cd
unseen_unmoved cd long at_once later =
    let next = both_shifted 1 cd in
    let next_long : length next ≡ 56 = length-both_shifted cd long 1 in
    let both : permuted (PC2 ++ PC2_before) next ≡ permuted (PC2 ++ PC2_before) cd =
    permuted_append PC2 PC2_before next
    ∙ ap₂ (λ (x y : List ℕ). x ++ y) at_once (sym (choice_after_two next next_long) ∙ later ∙ choice_after_two cd long)
    ∙ sym (permuted_append PC2 PC2_before cd) in
    ext_get_or 0 next cd (next_long ∙ sym long) (λ i h. named_same (PC2 ++ PC2_before) next cd both i (all_named i (omega arith)))

-- where the first two round keys are the same and the last two are, a left shift leaves C0 and D0 as they are: one shift leads from round 15 to
-- round 16, where C and D are C0 and D0 again, and one from round 1 to round 2
pub equal_unmoved : (key : List ℕ) → round_key key 1 ≡ round_key key 2 → round_key key 15 ≡ round_key key 16 → Unmoved (key_halves key 0)
unfolding round_key key_halves left_shifts
equal_unmoved key first last =
    let cd = key_halves key 15 in
    let long : length cd ≡ 56 = length-key_halves key 15 in
    let around : both_shifted 1 cd ≡ key_halves key 0 = sym (key_halves_around key) in
    let round_1 : both_shifted 2 cd ≡ key_halves key 1 = sym (both_shifted_add cd long 1 1 (omega arith)) ∙ ap (both_shifted 1) around in
    let round_2 : both_shifted 2 (both_shifted 1 cd) ≡ key_halves key 2 = ap (both_shifted 2) around ∙ sym (key_halves-total key 2 (omega arith)) in
    let unmoved : Unmoved cd =
    unseen_unmoved cd long (sym last) (ap (permuted PC2) round_2 ∙ sym first ∙ ap (permuted PC2) (sym round_1)) in
    subst Unmoved (sym unmoved ∙ around) unmoved
