-- The laws of the sum of polynomials over GF(2), by cases on two bits and induction on the lists.
-- Assumes nothing.
use mathlib.Core.Path.{◌≡◌, refl, sym, ap, ap₂, ◌∙◌}
use mathlib.Core.Bool.{Bool, true, false, xor}
use mathlib.Core.List.{List, [], ◌∷◌, ◌++◌}
use Prim.Native.Nat.{ℕ, zero, suc, ◌≤◌}
use native.Mathlib.Nat.{not-suc-le-zero, le_of_suc-le-suc}
use native.Mathlib.Omega.{arith}
use lib.ListN.{length, replicate}
use Rattle.crc.specs.Polynomial.{plus}

xor_comm : (a b : Bool) → xor a b ≡ xor b a
unfolding xor
xor_comm true true = refl
xor_comm true false = refl
xor_comm false true = refl
xor_comm false false = refl

xor_assoc : (a b c : Bool) → xor (xor a b) c ≡ xor a (xor b c)
unfolding xor
xor_assoc true true true = refl
xor_assoc true true false = refl
xor_assoc true false true = refl
xor_assoc true false false = refl
xor_assoc false true true = refl
xor_assoc false true false = refl
xor_assoc false false true = refl
xor_assoc false false false = refl

pub xor-false : (b : Bool) → xor false b ≡ b
unfolding xor
xor-false true = refl
xor-false false = refl

xor_twice : (a b : Bool) → xor a (xor a b) ≡ b
unfolding xor
xor_twice true true = refl
xor_twice true false = refl
xor_twice false true = refl
xor_twice false false = refl

pub plus_nil : (p : List Bool) → plus p [] ≡ p
unfolding plus
plus_nil [] = refl
plus_nil (a ∷ p) = refl

pub plus_comm : (p q : List Bool) → plus p q ≡ plus q p
unfolding plus
plus_comm [] q = sym (plus_nil q)
plus_comm (a ∷ p) [] = refl
plus_comm (a ∷ p) (b ∷ q) = ap₂ {C = List Bool} ◌∷◌ (xor_comm a b) (plus_comm p q)

pub plus_assoc : (p q r : List Bool) → plus (plus p q) r ≡ plus p (plus q r)
unfolding plus
plus_assoc [] q r = refl
plus_assoc (a ∷ p) [] r = refl
plus_assoc (a ∷ p) (b ∷ q) [] = refl
plus_assoc (a ∷ p) (b ∷ q) (c ∷ r) = ap₂ {C = List Bool} ◌∷◌ (xor_assoc a b c) (plus_assoc p q r)

pub plus_left_comm : (p q r : List Bool) → plus p (plus q r) ≡ plus q (plus p r)
plus_left_comm p q r = sym (plus_assoc p q r) ∙ ap (λ (l : List Bool). plus l r) (plus_comm p q) ∙ plus_assoc q p r

pub plus_twice : (p q : List Bool) → length p ≤ length q → plus p (plus p q) ≡ q
unfolding plus
plus_twice [] q h = refl
plus_twice (a ∷ p) [] h = absurd (not-suc-le-zero h)
plus_twice (a ∷ p) (b ∷ q) h = ap₂ {C = List Bool} ◌∷◌ (xor_twice a b) (plus_twice p q (le_of_suc-le-suc h))

pub plus_zeros : (n : ℕ) (q : List Bool) → n ≤ length q → plus (replicate n false) q ≡ q
unfolding plus
plus_zeros zero q h = refl
plus_zeros (suc n) [] h = absurd (not-suc-le-zero h)
plus_zeros (suc n) (b ∷ q) h = ap₂ {C = List Bool} ◌∷◌ (xor-false b) (plus_zeros n q (le_of_suc-le-suc h))

pub length-plus : (p q : List Bool) → length p ≤ length q → length (plus p q) ≡ length q
unfolding plus
length-plus [] q h = refl
length-plus (a ∷ p) [] h = absurd (not-suc-le-zero h)
length-plus (a ∷ p) (b ∷ q) h = ap suc (length-plus p q (le_of_suc-le-suc h))

-- a sum of lists in two parts is the sums of the parts
pub plus_append : (p q r s : List Bool) → length p ≡ length q → plus (p ++ r) (q ++ s) ≡ plus p q ++ plus r s
unfolding plus
plus_append [] [] r s e = refl
plus_append [] (b ∷ q) r s e = absurd (omega arith)
plus_append (a ∷ p) [] r s e = absurd (omega arith)
plus_append (a ∷ p) (b ∷ q) r s e = ap {B = List Bool} (λ l. xor a b ∷ l) (plus_append p q r s (omega arith))

-- a shorter list leaves the rest as it is
pub plus_front : (p q r : List Bool) → length p ≤ length q → plus p (q ++ r) ≡ plus p q ++ r
unfolding plus
plus_front [] q r h = refl
plus_front (a ∷ p) [] r h = absurd (not-suc-le-zero h)
plus_front (a ∷ p) (b ∷ q) r h = ap {B = List Bool} (λ l. xor a b ∷ l) (plus_front p q r (le_of_suc-le-suc h))
