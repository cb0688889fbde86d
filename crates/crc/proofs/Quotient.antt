-- Long division is division (004 Annex E.2): A = Q D + R with R of degree below D's, and no other such R. A step of the division takes away what
-- one coefficient of the quotient adds to the product. Products and sums stand with the lowest power first, so bit strings are reversed.
-- Assumes nothing.
use mathlib.Core.Path.{◌≡◌, refl, sym, ap, ap₂, ◌∙◌}
use mathlib.Core.Bool.{Bool, true, false, xor, ◌&&◌, and-true}
use mathlib.Core.List.{List, [], ◌∷◌, ◌++◌, map, map-id, append-nil, append_assoc, reverse, reverse_aux, reverse-cons, reverse-append, reverse-reverse}
use Prim.Native.Nat.{ℕ, zero, suc, ◌+◌, ◌-◌, ◌≤◌, ◌<◌}
use native.Mathlib.Decide.{dec_lt}
use native.Mathlib.Nat.{zero-add}
use native.Mathlib.Numerals.{add-one}
use native.Mathlib.Omega.{arith}
use lib.ListN.{length, replicate, length-append, length-map, length-replicate, length-reverse, replicate-append-replicate}
use Rattle.crc.specs.Polynomial.{plus, scaled, times, step, reduce, quotients}
use Rattle.crc.specs.AnnexE.{divisor, remainder, quotient}
use Rattle.crc.proofs.Sum.{plus_comm, plus_assoc, plus_twice, plus_zeros, length-plus, plus_append}
use Rattle.crc.proofs.Division.{length-step}
use Rattle.crc.proofs.Remainder.{lower, remainder_steps, remainder_short, length-remainder}

map-reverse_aux : (f : Bool → Bool) (l r : List Bool) → map f (reverse_aux l r) ≡ reverse_aux (map f l) (map f r)
map-reverse_aux f [] r = refl
map-reverse_aux f (x ∷ l) r = map-reverse_aux f l (x ∷ r)

reverse_zeros : (n : ℕ) → reverse (replicate n false) ≡ replicate n false
reverse_zeros zero = refl
reverse_zeros (suc n) =
    reverse-cons false (replicate n false) ∙ ap (λ (p : List Bool). p ++ (false ∷ [])) (reverse_zeros n)
    ∙ replicate-append-replicate n 1 false ∙ ap (λ (k : ℕ). replicate k false) (add-one n)

reverse-plus : (p q : List Bool) → length p ≡ length q → reverse (plus p q) ≡ plus (reverse p) (reverse q)
unfolding plus
reverse-plus [] q l = refl
reverse-plus (a ∷ p) [] l = absurd (omega arith)
reverse-plus (a ∷ p) (b ∷ q) l =
    let e : length p ≡ length q = omega arith in
    reverse-cons (xor a b) (plus p q) ∙ ap (λ (r : List Bool). r ++ (xor a b ∷ [])) (reverse-plus p q e)
    ∙ sym (plus_append (reverse p) (reverse q) (a ∷ []) (b ∷ []) (length-reverse p ∙ e ∙ sym (length-reverse q)))
    ∙ ap₂ plus (sym (reverse-cons a p)) (sym (reverse-cons b q))

plus_padded : (p q : List Bool) (n : ℕ) → length p + n ≤ length q → plus (p ++ replicate n false) q ≡ plus p q
unfolding plus
plus_padded [] q n h = plus_zeros n q (omega arith)
plus_padded (a ∷ p) [] n h = absurd (omega arith)
plus_padded (a ∷ p) (b ∷ q) n h = ap {B = List Bool} (λ r. xor a b ∷ r) (plus_padded p q n (omega arith))

-- (q + c X^n) d = q d + c X^n d, where q has n coefficients
times_last : (q : List Bool) (c : Bool) (d : List Bool) → 0 < length d
    → times (q ++ (c ∷ [])) d ≡ plus (times q d) (replicate (length q) false ++ scaled c d)
unfolding times plus xor
times_last [] c d h = plus_comm (scaled c d) (false ∷ []) ∙ plus_zeros 1 (scaled c d) (rw length-map h)
times_last (a ∷ q) c d h =
    ap (λ (p : List Bool). plus (scaled a d) (false ∷ p)) (times_last q c d h)
    ∙ sym (plus_assoc (scaled a d) (false ∷ times q d) (false ∷ (replicate (length q) false ++ scaled c d)))

scaled-false : (p : List Bool) → scaled false p ≡ replicate (length p) false
scaled-false [] = refl
scaled-false (a ∷ p) = ap {B = List Bool} (λ r. false ∷ r) (scaled-false p)

module _ (e : List Bool) where
  step-scaled : (c : Bool) (p : List Bool) → length e ≤ length p → step (true ∷ e) (c ∷ p) ≡ plus (scaled c e) p
  unfolding step plus
  step-scaled true p h = ap (λ (l : List Bool). plus l p) (sym (map-id e))
  step-scaled false p h = sym (ap (λ (l : List Bool). plus l p) (scaled-false e) ∙ plus_zeros (length e) p h)

  -- what the quotient's coefficient c at X^n adds to a
  added_coefficient : (n : ℕ) (c : Bool) (a : List Bool) → length a ≡ n + length e
      → reverse (c ∷ plus (scaled c e) a) ≡ plus (replicate n false ++ scaled c (reverse (true ∷ e))) (reverse a)
  unfolding plus
  added_coefficient n c a l =
      reverse-cons c (plus (scaled c e) a)
      ∙ ap (λ (p : List Bool). reverse p ++ (c ∷ [])) (sym (plus_padded (scaled c e) a n (rw length-map (omega arith))))
      ∙ ap (λ (p : List Bool). p ++ (c ∷ [])) (reverse-plus w a same)
      ∙ sym (plus_append (reverse w) (reverse a) (c ∷ []) [] (length-reverse w ∙ same ∙ sym (length-reverse a)))
      ∙ ap₂ plus padded (append-nil (reverse a))
    where
      w : List Bool
      w = scaled c e ++ replicate n false

      same : length w ≡ length a
      same = rw (length-append, length-map, length-replicate) (omega arith)

      padded : reverse w ++ (c ∷ []) ≡ replicate n false ++ scaled c (reverse (true ∷ e))
      padded =
          ap (λ (p : List Bool). p ++ (c ∷ [])) (reverse-append (scaled c e) (replicate n false) ∙ ap (λ (p : List Bool). p ++ reverse (scaled c e)) (reverse_zeros n))
          ∙ append_assoc (replicate n false) (reverse (scaled c e)) (c ∷ [])
          ∙ ap (λ (p : List Bool). replicate n false ++ p)
          (ap (λ (b : Bool). reverse (scaled c e) ++ (b ∷ [])) (sym (and-true c)) ∙ sym (reverse-cons (c && true) (scaled c e))
          ∙ sym (map-reverse_aux (λ b. c && b) (true ∷ e) []))

  -- where a = q d + r, a coefficient c above q's makes the sum c ∷ (c e + a)
  top_coefficient : (c : Bool) (q r a : List Bool) → length a ≡ length q + length e
      → reverse a ≡ plus (times (reverse q) (reverse (true ∷ e))) (reverse r)
      → reverse (c ∷ plus (scaled c e) a) ≡ plus (times (reverse (c ∷ q)) (reverse (true ∷ e))) (reverse r)
  top_coefficient c q r a l h =
      added_coefficient (length q) c a l ∙ ap (plus s) h ∙ sym (plus_assoc s m (reverse r))
      ∙ ap (λ (p : List Bool). plus p (reverse r))
      (plus_comm s m ∙ ap (λ (k : ℕ). plus m (replicate k false ++ scaled c d)) (sym (length-reverse q))
      ∙ sym (times_last (reverse q) c d (rw length-reverse (omega arith))) ∙ ap (λ (p : List Bool). times p d) (sym (reverse-cons c q)))
    where
      d : List Bool
      d = reverse (true ∷ e)

      m : List Bool
      m = times (reverse q) d

      s : List Bool
      s = replicate (length q) false ++ scaled c d

  scaled_twice : (c : Bool) (p : List Bool) → length e ≤ length p → plus (scaled c e) (plus (scaled c e) p) ≡ p
  scaled_twice c p h = plus_twice (scaled c e) p (rw length-map h)

  length-quotients : (n : ℕ) (a : List Bool) → length (quotients (true ∷ e) n a) ≡ n
  unfolding quotients
  length-quotients zero a = refl
  length-quotients (suc n) a = ap suc (length-quotients n (step (true ∷ e) a))

  divided : (n : ℕ) (a : List Bool) → length a ≡ n + length e
      → reverse a ≡ plus (times (reverse (quotients (true ∷ e) n a)) (reverse (true ∷ e))) (reverse (reduce (true ∷ e) n a))
  unfolding quotients reduce times plus
  divided zero a l = refl
  divided (suc n) [] l = absurd (omega arith)
  divided (suc n) (c ∷ p) l =
      let a : List Bool = step (true ∷ e) (c ∷ p) in
      let k : suc (length a) ≡ suc (length p) = length-step e (c ∷ p) (omega arith) in
      let h : length a ≡ n + length e = omega arith in
      ap (λ (r : List Bool). reverse (c ∷ r)) (sym (ap (plus (scaled c e)) (step-scaled c p (omega arith)) ∙ scaled_twice c p (omega arith)))
      ∙ top_coefficient c (quotients (true ∷ e) n a) (reduce (true ∷ e) n a) a (h ∙ ap (λ (j : ℕ). j + length e) (sym (length-quotients n a))) (divided n a h)

  rebuilt : (q r : List Bool) → length r ≡ length e
      → (a : List Bool) × (length a ≡ length q + length e) × (reduce (true ∷ e) (length q) a ≡ r)
      × (reverse a ≡ plus (times (reverse q) (reverse (true ∷ e))) (reverse r))
  unfolding reduce times plus
  rebuilt [] r l = (r, l ∙ sym (zero-add (length e)), refl, refl)
  rebuilt (c ∷ q) r l = add (rebuilt q r l)
    where
      add : (a : List Bool) × (length a ≡ length q + length e) × (reduce (true ∷ e) (length q) a ≡ r)
          × (reverse a ≡ plus (times (reverse q) (reverse (true ∷ e))) (reverse r))
          → (a : List Bool) × (length a ≡ suc (length q) + length e) × (reduce (true ∷ e) (suc (length q)) a ≡ r)
          × (reverse a ≡ plus (times (reverse (c ∷ q)) (reverse (true ∷ e))) (reverse r))
      add s =
          let a : List Bool = s.0 in
          let k : length a ≡ length q + length e = s.1 in
          let j : length (plus (scaled c e) a) ≡ length a = length-plus (scaled c e) a (rw length-map (omega arith)) in (
            c ∷ plus (scaled c e) a,
            omega arith,
            ap (reduce (true ∷ e) (length q)) (step-scaled c (plus (scaled c e) a) (omega arith) ∙ scaled_twice c a (omega arith)) ∙ s.2,
            top_coefficient c q r a s.1 s.3,
          )

-- A(X) = Q(X) D(X) + R(X)
pub division : (a : List Bool) → reverse a ≡ plus (times (reverse (quotient a)) (reverse divisor)) (reverse (remainder a))
unfolding quotient quotients remainder reduce times plus
division a = go (dec_lt (length a) 16)
  where
    go : Dec (length a < 16) → reverse a ≡ plus (times (reverse (quotient a)) (reverse divisor)) (reverse (remainder a))
    go (yes h) = let e : length a - 16 ≡ 0 = omega arith in rw e
    go (no h) = divided lower (length a - 16) a (omega arith)

-- R(X) is of degree at most 15
pub remainder_degree : (a : List Bool) → length (remainder a) ≤ 16
remainder_degree a = go (dec_lt (length a) 16)
  where
    go : Dec (length a < 16) → length (remainder a) ≤ 16
    go (yes h) = rw (remainder_short a (omega arith)) (omega arith)
    go (no h) = omega (arith, length-remainder a (omega arith))

-- whatever Q(X) and R(X) of 16 coefficients make up A(X), R(X) is the remainder
pub remainder_unique : (a q r : List Bool) → length r ≡ 16 → reverse a ≡ plus (times (reverse q) (reverse divisor)) (reverse r) → remainder a ≡ r
remainder_unique a q r l h =
    let s = rebuilt lower q r l in
    let e : s.0 ≡ a = sym (reverse-reverse s.0) ∙ ap reverse (s.3 ∙ sym h) ∙ reverse-reverse a in
    ap remainder (sym e) ∙ remainder_steps (length q) s.0 s.1 ∙ s.2
