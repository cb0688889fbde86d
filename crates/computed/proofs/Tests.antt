-- A test that antt computes over a whole table, and what it says at each place.
-- Assumes nothing.
use mathlib.Core.Path.{◌≡◌, refl, subst}
use mathlib.Core.Bool.{Bool, true, false, ◌&&◌}
use Prim.Native.Nat.{ℕ, zero, suc, ◌<◌}
use native.Mathlib.Nat.{not-suc-le-zero}
use native.Mathlib.Decide.{dec_lt}
use native.Mathlib.Omega.{arith}
use lib.Dec.{T, eqb, eqb→eq}
use Rattle.computed.specs.Other.{Other}

pub first_of : (a b : Bool) → T (a && b) → T a
first_of true b t = tt
first_of false b t = t

pub second_of : (a b : Bool) → T (a && b) → T b
second_of true b t = t
second_of false b t = absurd t

pub passes : (a : Bool) → T a → a ≡ true
passes true t = refl
passes false t = absurd t

-- the test passes at each number below n
abbrev pub below : ℕ → (ℕ → Bool) → Bool
below zero f = true
below (suc n) f = f n && below n f

pub at : (n : ℕ) (f : ℕ → Bool) → T (below n f) → (k : ℕ) → k < n → T (f k)
at zero f t k h = absurd (not-suc-le-zero h)
at (suc n) f t k h = go (dec_lt k n) (at n f (second_of (f n) (below n f) t) k)
  where
    go : Dec (k < n) → (k < n → T (f k)) → T (f k)
    go (yes l) r = r l
    go (no g) r = subst (λ (m : ℕ). T (f m)) (let e : n ≡ k = omega arith in e) (first_of (f n) (below n f) t)

-- the test passes at each pair of numbers below m and below n
abbrev pub below₂ : ℕ → ℕ → (ℕ → ℕ → Bool) → Bool
below₂ m n f = below m (λ i. below n (f i))

pub at₂ : (m n : ℕ) (f : ℕ → ℕ → Bool) → T (below₂ m n f) → (i j : ℕ) → i < m → j < n → T (f i j)
at₂ m n f t i j h k = at n (f i) (at m (λ i. below n (f i)) t i h) j k

-- two maps that are the same at each number below n, or at each pair, as the test says
pub equal_at : (n : ℕ) (f g : ℕ → ℕ) → T (below n (λ i. eqb (f i) (g i))) → (i : ℕ) → i < n → f i ≡ g i
equal_at n f g t i h = eqb→eq (f i) (g i) (at n (λ i. eqb (f i) (g i)) t i h)

pub equal_at₂ : (m n : ℕ) (f g : ℕ → ℕ → ℕ) → T (below₂ m n (λ i j. eqb (f i j) (g i j))) → (i j : ℕ) → i < m → j < n → f i j ≡ g i j
equal_at₂ m n f g t i j h k = eqb→eq (f i j) (g i j) (at₂ m n (λ i j. eqb (f i j) (g i j)) t i j h k)

-- a number below n is one of the numbers below n
pub none_other : (n v : ℕ) → v < n → Other n v → ⊥
none_other zero v h o = not-suc-le-zero h
none_other (suc n) v h o = go (dec_lt v n) (λ l. none_other n v l o.0)
  where
    go : Dec (v < n) → (v < n → ⊥) → ⊥
    go (yes l) r = r l
    go (no g) r = o.1 (let e : v ≡ n = omega arith in e)
