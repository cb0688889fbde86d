-- What a table selects, entry by entry; and IP and its inverse undo each other.
-- Assumes nothing.
use mathlib.Core.Path.{◌≡◌, refl, ap, ap₂, sym, ◌∙◌, subst}
use mathlib.Core.Bool.{Bool, true, false, ◌&&◌}
use mathlib.Core.List.{List, [], ◌∷◌, ◌++◌}
use Prim.Native.Nat.{ℕ, zero, suc, ◌-◌, ◌<◌, ◌≤◌}
use native.Mathlib.Nat.{not-suc-le-zero, le_of_suc-le-suc}
use native.Mathlib.Omega.{arith}
use lib.Dec.{T, leb, ltb, eqb, leb→le, ltb→lt, eqb→eq}
use lib.ListN.{length, get_or, drop, length-map}
use lib.Seq.{ext_get_or}
use borrow.Author.Tests.{eqb-true}
use Rattle.des.specs.Tables.{IP, inverse_ip}
use Rattle.des.specs.Des.{permuted}
use Rattle.des.specs.Rows.{one_more, count}
use Rattle.computed.proofs.Tests.{below, at, first_of, second_of}

pub length-permuted : (t b : List ℕ) → length (permuted t b) ≡ length t
unfolding permuted
length-permuted t b = length-map t (λ i. get_or b (i - 1) 0)

pub get_or-permuted : (t b : List ℕ) (i : ℕ) → i < length t → get_or (permuted t b) i 0 ≡ get_or b (get_or t i 0 - 1) 0
unfolding permuted
get_or-permuted [] b i h = absurd (not-suc-le-zero h)
get_or-permuted (x ∷ t) b zero h = refl
get_or-permuted (x ∷ t) b (suc i) h = get_or-permuted t b i (le_of_suc-le-suc h)

pub permuted_append : (t u b : List ℕ) → permuted (t ++ u) b ≡ permuted t b ++ permuted u b
unfolding permuted
permuted_append [] u b = refl
permuted_append (x ∷ t) u b = ap (λ (l : List ℕ). get_or b (x - 1) 0 ∷ l) (permuted_append t u b)

-- two strings of which a table selects the same have the same bit wherever the table names it
pub named_same : (t a b : List ℕ) → permuted t a ≡ permuted t b → (i : ℕ) → 0 < count (suc i) t → get_or a i 0 ≡ get_or b i 0
unfolding permuted count
named_same [] a b e i h = absurd (not-suc-le-zero h)
named_same (x ∷ t) a b e i h = go (eqb (suc i) x) refl h (named_same t a b (ap (drop 1) e) i)
  where
    go : (here : Bool) → eqb (suc i) x ≡ here → 0 < one_more here (count (suc i) t)
        → (0 < count (suc i) t → get_or a i 0 ≡ get_or b i 0)
        → get_or a i 0 ≡ get_or b i 0
    go true p l later =
        let n : x - 1 ≡ i = omega (arith, eqb-true (suc i) x p) in
        subst (λ (j : ℕ). get_or a j 0 ≡ get_or b j 0) n (ap (λ (s : List ℕ). get_or s 0 0) e)
    go false p l later = later l

-- every entry of a table is the number of a bit of a string of n bits
abbrev pub entries_within : ℕ → List ℕ → Bool
entries_within n [] = true
entries_within n (i ∷ is) = (leb 1 i && leb i n) && entries_within n is

-- every entry of a table that is within n is from 1 to n
pub within_at : (n : ℕ) (t : List ℕ) → T (entries_within n t) → (i : ℕ) → i < length t → (1 ≤ get_or t i 0) × (get_or t i 0 ≤ n)
within_at n [] h i l = absurd (not-suc-le-zero l)
within_at n (x ∷ t) h zero l =
    let e = first_of (leb 1 x && leb x n) (entries_within n t) h in
    (leb→le 1 x (first_of (leb 1 x) (leb x n) e), leb→le x n (second_of (leb 1 x) (leb x n) e))
within_at n (x ∷ t) h (suc i) l = within_at n t (second_of (leb 1 x && leb x n) (entries_within n t) h) i (le_of_suc-le-suc l)

-- to select by u and then by t is to select by the entries of u that t selects
pub permuted_twice : (t u b : List ℕ) → T (entries_within (length u) t) → permuted t (permuted u b) ≡ permuted (permuted t u) b
unfolding permuted
permuted_twice [] u b h = refl
permuted_twice (x ∷ t) u b h =
    let w = within_at (length u) (x ∷ t) h 0 (omega arith) in
    ap₂ (λ (y : ℕ) (l : List ℕ). y ∷ l) (get_or-permuted u b (x - 1) (omega arith))
    (permuted_twice t u b (second_of (leb 1 x && leb x (length u)) (entries_within (length u) t) h))

-- at each place of u, the entry of t that it names leads back to that place
unfoldable pub undoes : List ℕ → List ℕ → Bool
undoes u t = below (length u) (λ i. ltb (get_or u i 0 - 1) (length t) && eqb (get_or t (get_or u i 0 - 1) 0 - 1) i)

pub undone : (u t b : List ℕ) → T (undoes u t) → length b ≡ length u → permuted u (permuted t b) ≡ b
unfolding undoes
undone u t b h l =
    ext_get_or 0 (permuted u (permuted t b)) b (length-permuted u (permuted t b) ∙ sym l)
    (λ i k.
    let j = get_or u i 0 - 1 in
    let m : i < length u = omega (arith, length-permuted u (permuted t b)) in
    let test = at (length u) (λ i. ltb (get_or u i 0 - 1) (length t) && eqb (get_or t (get_or u i 0 - 1) 0 - 1) i) h i m in
    get_or-permuted u (permuted t b) i m
    ∙ get_or-permuted t b j (ltb→lt j (length t) (first_of (ltb j (length t)) (eqb (get_or t j 0 - 1) i) test))
    ∙ ap (λ (n : ℕ). get_or b n 0) (eqb→eq (get_or t j 0 - 1) i (second_of (ltb j (length t)) (eqb (get_or t j 0 - 1) i) test)))

pub inverse_after_initial : (b : List ℕ) → length b ≡ 64 → permuted inverse_ip (permuted IP b) ≡ b
unfolding undoes IP inverse_ip
inverse_after_initial b l = undone inverse_ip IP b tt l

pub initial_after_inverse : (b : List ℕ) → length b ≡ 64 → permuted IP (permuted inverse_ip b) ≡ b
unfolding undoes IP inverse_ip
initial_after_inverse b l = undone IP inverse_ip b tt l
