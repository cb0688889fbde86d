-- Every element of a list below a bound, as an octet is below 256: kept by the operations that put lists together and take them apart.
use Prim.Native.Nat.{ℕ, ◌+◌, ◌<◌, zero, suc}
use mathlib.Core.List.{List, [], ◌∷◌, ◌++◌, reverse, reverse-cons}
use lib.ListN.{get_or, take, drop, replicate}
use lib.Seq.{get_or-drop}

abbrev pub Below : ℕ → List ℕ → Type 0
Below b s = (i : ℕ) → get_or s i 0 < b

module _ (b : ℕ) (h : 0 < b) where
  pub below_nil : Below b []
  below_nil i = h

  pub below_cons : (x : ℕ) (s : List ℕ) → x < b → Below b s → Below b (x ∷ s)
  below_cons x s k l zero = k
  below_cons x s k l (suc i) = l i

  pub below_append : (s t : List ℕ) → Below b s → Below b t → Below b (s ++ t)
  below_append [] t k l = l
  below_append (x ∷ s) t k l = below_cons x (s ++ t) (k 0) (below_append s t (λ i. k (suc i)) l)

  pub Below-reverse : (s : List ℕ) → Below b s → Below b (reverse s)
  Below-reverse [] k = below_nil
  Below-reverse (x ∷ s) k =
      rw (reverse-cons x s)
      (below_append (reverse s) (x ∷ []) (Below-reverse s (λ i. k (suc i))) (below_cons x [] (k 0) below_nil))

  pub Below-replicate : (n x : ℕ) → x < b → Below b (replicate n x)
  Below-replicate zero x k = below_nil
  Below-replicate (suc n) x k = below_cons x (replicate n x) k (Below-replicate n x k)

  pub Below-take : (n : ℕ) (s : List ℕ) → Below b s → Below b (take n s)
  Below-take zero s k = below_nil
  Below-take (suc n) [] k = below_nil
  Below-take (suc n) (x ∷ s) k = below_cons x (take n s) (k 0) (Below-take n s (λ i. k (suc i)))

  pub Below-drop : (n : ℕ) (s : List ℕ) → Below b s → Below b (drop n s)
  Below-drop n s k i = rw get_or-drop (k (n + i))
