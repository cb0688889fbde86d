-- Octets as one number: its bounds, and the loop that makes it.
use Prim.Native.Nat.{ℕ, suc, ◌+◌, ◌*◌, ◌^◌, min, ◌≤◌, ◌<◌}
use mathlib.Core.Path.{◌≡◌, ap}
use mathlib.Core.List.{List, [], ◌∷◌}
use native.Mathlib.Nat.{pow-suc, pow-le-pow_right, mul-le-mul_right}
use native.Mathlib.Numerals.{add-one}
use native.Mathlib.Omega.{arith}
use lib.ListN.{length, get_or, take, drop, drop_of_length-le, length-take}
use lib.Seq.{drop-cons}
use Rattle.std.proofs.lemmas.List.{take_min}
use lib.Dec.{lit<}
use Rattle.octets.proofs.Below.{Below-take, Below-drop}
use Rattle.swap.specs.Record.{number_from, rank_of}

pub number_grows : (n : ℕ) (s : List ℕ) → n ≤ number_from n s
unfolding number_from
number_grows n [] = omega arith
number_grows n (o ∷ s) = omega (arith, number_grows (n * 256 + o) s)

number_below : (n : ℕ) (s : List ℕ) → ((i : ℕ) → get_or s i 0 < 256) → number_from n s < suc n * 256 ^ length s
unfolding number_from
number_below n [] b = omega arith
number_below n (o ∷ s) b =
    let h : number_from (n * 256 + o) s < suc (n * 256 + o) * 256 ^ length s = number_below (n * 256 + o) s (λ i. b (suc i)) in
    let k : suc (n * 256 + o) * 256 ^ length s ≤ suc n * 256 * 256 ^ length s = mul-le-mul_right (256 ^ length s) (omega (arith, b 0)) in
    rw (pow-suc 256 (length s)) (omega arith)

-- seven octets at most are below 2^56
pub rank_below : (s : List ℕ) → ((i : ℕ) → get_or s i 0 < 256) → rank_of (take 7 s) < 2 ^ 56
unfolding rank_of
rank_below s b =
    let h : number_from 0 (take 7 s) < 1 * 256 ^ length (take 7 s) = number_below 0 (take 7 s) (Below-take 256 (lit< tt) 7 s b) in
    let k : 256 ^ length (take 7 s) ≤ 256 ^ 7 = pow-le-pow_right {n = 256} (lit< tt) {i = length (take 7 s)} {j = 7} (omega (arith, length-take 7 s)) in
    omega arith

pub rank_rest_below : (s : List ℕ) (at : ℕ) → ((i : ℕ) → get_or s i 0 < 256) → rank_of (take 7 (drop at s)) < 2 ^ 56
rank_rest_below s at b = rank_below (drop at s) (Below-drop 256 (lit< tt) at s b)

-- the front that the loop of `rank` goes over
pub rank_front : (s : List ℕ) → number_from 0 (take (min (length s) 7) s) ≡ rank_of (take 7 s)
unfolding rank_of
rank_front s =
    let e : min (length s) 7 ≡ min 7 (length s) = omega arith in
    ap (number_from 0) (rw e (take_min 7 s))

-- the loop of `rank` after i octets of the front
module _ (s front : List ℕ) (n i : ℕ) (h : number_from n (drop i front) ≡ rank_of (take 7 s)) where
  pub rank_next : i < length front → number_from (n * 256 + get_or front i 0) (drop (i + 1) front) ≡ rank_of (take 7 s)
  unfolding number_from
  rank_next q = rw (drop-cons front i 0 q, ← add-one i) at h

  -- what a turn makes fits
  pub rank_fits : ((j : ℕ) → get_or s j 0 < 256) → i < length front → n * 256 + get_or front i 0 < 2 ^ 56
  rank_fits b q =
      omega (arith, rank_next q, number_grows (n * 256 + get_or front i 0) (drop (i + 1) front), rank_below s b)

  pub rank_done : length front ≤ i → n ≡ rank_of (take 7 s)
  unfolding number_from
  rank_done q = rw (drop_of_length-le front {i = i} q) at h
