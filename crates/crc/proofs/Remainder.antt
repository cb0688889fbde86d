-- The remainder by D(X): it is additive, and X times a polynomial is divisible by D(X) exactly if the polynomial is.
-- Assumes nothing.
use mathlib.Core.Path.{◌≡◌, refl, sym, ap, ap₂, ◌∙◌}
use mathlib.Core.Bool.{Bool, true, false, not, xor, ◌&&◌, and-true, and-false}
use mathlib.Core.List.{List, [], ◌∷◌, ◌++◌, append_assoc, append-nil}
use Prim.Native.Nat.{ℕ, zero, suc, ◌+◌, ◌-◌, ◌≤◌, ◌<◌}
use native.Mathlib.Decide.{dec_lt}
use native.Mathlib.Omega.{arith}
use lib.ListN.{length, take, drop, replicate, length-append, length-replicate}
use Rattle.crc.specs.Polynomial.{plus, step, reduce}
use Rattle.crc.specs.AnnexE.{divisor, remainder, is_zero}
use Rattle.crc.proofs.Sum.{plus_comm, plus_zeros, length-plus, plus_append}
use Rattle.crc.proofs.Division.{length-reduce, reduce_front, reduce-plus, reduce_zeros, reduce_add}

-- the coefficients of D(X) below X^16
abbrev pub lower : List Bool
lower = drop 1 divisor

pub remainder_steps : (n : ℕ) (a : List Bool) → length a ≡ n + 16 → remainder a ≡ reduce divisor n a
unfolding remainder
remainder_steps n a l = ap (λ (k : ℕ). reduce divisor k a) (omega arith)

-- a polynomial of degree at most 15 is its own remainder
pub remainder_short : (a : List Bool) → length a ≤ 16 → remainder a ≡ a
unfolding remainder reduce
remainder_short a h = let e : length a - 16 ≡ 0 = omega arith in rw e

pub length-remainder : (a : List Bool) → 16 ≤ length a → length (remainder a) ≡ 16
length-remainder a h =
    let l : (length a - 16) + length (reduce divisor (length a - 16) a) ≡ length a = length-reduce lower (length a - 16) a (omega arith) in
    ap length (remainder_steps (length a - 16) a (omega arith)) ∙ omega arith

-- leading zeros change nothing
remainder_zeros : (n : ℕ) (a : List Bool) → 16 ≤ length a → remainder (replicate n false ++ a) ≡ remainder a
remainder_zeros n a h =
    remainder_steps (n + (length a - 16)) (replicate n false ++ a) (simp (length-append, length-replicate) (omega arith))
    ∙ reduce_add lower n (length a - 16) (replicate n false ++ a) ∙ ap (reduce divisor (length a - 16)) (reduce_zeros lower n a)
    ∙ sym (remainder_steps (length a - 16) a (omega arith))

-- the remainder is additive
pub remainder-plus : (a b : List Bool) → 16 ≤ length a → length a ≡ length b → remainder (plus a b) ≡ plus (remainder a) (remainder b)
remainder-plus a b h l =
    let n : ℕ = length a - 16 in
    remainder_steps n (plus a b) (length-plus a b (omega arith) ∙ omega arith) ∙ reduce-plus lower n a b (omega arith) l
    ∙ sym (ap₂ plus (remainder_steps n a (omega arith)) (remainder_steps n b (omega arith)))

-- A(X) X^n + Q(X), where Q(X) has n coefficients
pub remainder_sum : (n : ℕ) (a q : List Bool) → length q ≡ n → 16 ≤ n → remainder (a ++ q) ≡ plus (remainder (a ++ replicate n false)) (remainder q)
remainder_sum n a q l h =
    ap remainder (sym split)
    ∙ remainder-plus (a ++ replicate n false) (replicate (length a) false ++ q) (simp (length-append, length-replicate) (omega arith))
    (simp (length-append, length-replicate) (omega arith))
    ∙ ap (plus (remainder (a ++ replicate n false))) (remainder_zeros (length a) q (omega arith))
  where
    split : plus (a ++ replicate n false) (replicate (length a) false ++ q) ≡ a ++ q
    split =
        plus_append a (replicate (length a) false) (replicate n false) q (sym (length-replicate (length a) false))
        ∙ ap₂ {C = List Bool} ◌++◌ (plus_comm a (replicate (length a) false) ∙ plus_zeros (length a) a (omega arith))
        (plus_zeros n q (omega arith))

-- more places at the end: the division goes on from the remainder so far
pub remainder_more : (a b : List Bool) → 16 ≤ length a → remainder (a ++ b) ≡ remainder (remainder a ++ b)
remainder_more a b h =
    let l : length (remainder a) ≡ 16 = length-remainder a h in
    remainder_steps (length a - 16 + length b) (a ++ b) (rw length-append (omega arith))
    ∙ reduce_add lower (length a - 16) (length b) (a ++ b)
    ∙ ap (reduce divisor (length b))
    (reduce_front lower (length a - 16) a b (omega arith) ∙ ap (λ (p : List Bool). p ++ b) (sym (remainder_steps (length a - 16) a (omega arith))))
    ∙ sym (remainder_steps (length b) (remainder a ++ b) (rw length-append (omega arith)))

is_zero_last : (p : List Bool) (b : Bool) → is_zero (p ++ (b ∷ [])) ≡ (is_zero p && not b)
unfolding is_zero
is_zero_last [] b = and-true (not b)
is_zero_last (true ∷ p) b = refl
is_zero_last (false ∷ p) b = is_zero_last p b

-- since D(X) has the coefficient 1 at X^0
is_zero-step : (r : List Bool) → length r ≡ 16 → is_zero (step divisor (r ++ (false ∷ []))) ≡ is_zero r
unfolding step is_zero plus xor
is_zero-step [] l = absurd (omega arith)
is_zero-step (false ∷ r) l = is_zero_last r false ∙ and-true (is_zero r)
is_zero-step (true ∷ r) l =
    ap is_zero (plus_append (take 15 lower) r (true ∷ []) (false ∷ []) (omega arith))
    ∙ is_zero_last (plus (take 15 lower) r) true ∙ and-false (is_zero (plus (take 15 lower) r))

times_X : (a : List Bool) → is_zero (remainder (a ++ (false ∷ []))) ≡ is_zero (remainder a)
unfolding reduce
times_X a = go (dec_lt (length a) 16)
  where
    go : Dec (length a < 16) → is_zero (remainder (a ++ (false ∷ []))) ≡ is_zero (remainder a)
    go (yes h) =
        ap is_zero (remainder_short (a ++ (false ∷ [])) (rw length-append (omega arith))) ∙ is_zero_last a false ∙ and-true (is_zero a)
        ∙ ap is_zero (sym (remainder_short a (omega arith)))
    go (no h) =
        let l : length (remainder a) ≡ 16 = length-remainder a (omega arith) in
        ap is_zero (remainder_more a (false ∷ []) (omega arith) ∙ remainder_steps 1 (remainder a ++ (false ∷ [])) (rw length-append (omega arith)))
        ∙ is_zero-step (remainder a) l

-- A(X) X^n is divisible exactly if A(X) is
pub times_powers : (n : ℕ) (a : List Bool) → is_zero (remainder (a ++ replicate n false)) ≡ is_zero (remainder a)
times_powers zero a = ap (λ (p : List Bool). is_zero (remainder p)) (append-nil a)
times_powers (suc n) a =
    ap (λ (p : List Bool). is_zero (remainder p)) (sym (append_assoc a (false ∷ []) (replicate n false)))
    ∙ times_powers n (a ++ (false ∷ [])) ∙ times_X a
