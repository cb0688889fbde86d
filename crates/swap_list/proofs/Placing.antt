-- The search for a record's place among the heads: what was passed and the place among the heads left make up the place.
use Prim.Native.Nat.{ℕ, zero, suc, ◌+◌, ◌-◌, ◌*◌, ◌/◌, ◌≤◌, ◌<◌}
use mathlib.Core.Path.{◌≡◌}
use mathlib.Core.List.{List}
use native.Mathlib.Nat.{zero-add, add-zero, add_assoc}
use native.Mathlib.Omega.{arith}
use lib.ListN.{length, take, drop}
use lib.Seq.{drop-drop}
use borrow.Author.Tests.{le-leb, lt-leb}
use Rattle.swap.specs.Record.{rank_of}
use Rattle.swap_write.specs.Heads.{head_length}
use Rattle.swap_list.specs.Adding.{further, place_among, place_of}

-- where the search stands
pub record Sought (hs : List ℕ) (rank left head from : ℕ) : Type 0 where
  pub heads : head + left * 10 ≤ length hs
  pub small : from ≤ 6554 * head
  pub place : further head from (place_among left rank (drop head hs)) ≡ place_of rank hs

pub sought_start : (hs : List ℕ) (rank : ℕ) → Sought hs rank (length hs / 10) 0 0
unfolding place_of
sought_start hs rank =
    record {
      heads = omega arith;
      small = omega arith;
      place = rw (zero-add, zero-add);
    }

module _ (hs : List ℕ) (rank head from : ℕ) where
  turn : (left : ℕ) → Sought hs rank (suc left) head from → rank_of (take 7 (drop head hs)) ≤ rank → head_length (drop head hs) < 65536 → Sought hs rank left (head + 10) (from + head_length (drop head hs))
  unfolding place_among
  turn left s h l =
      let n : ℕ = head_length (drop head hs) in
      record {
        heads = omega (arith, s.heads);
        small = omega (arith, s.small);
        place = rw (add_assoc, add_assoc, ← drop-drop) (rw (le-leb (rank_of (take 7 (drop head hs))) rank h) at s.place);
      }

  pub sought_next : (left : ℕ) → Sought hs rank left head from → 0 < left → rank_of (take 7 (drop head hs)) ≤ rank → head_length (drop head hs) < 65536 → Sought hs rank (left - 1) (head + 10) (from + head_length (drop head hs))
  sought_next zero s p h l = let z : ⊥ = omega arith in absurd z
  sought_next (suc left) s p h l = let e : suc left - 1 ≡ left = omega arith in rw e (turn left s h l)

  pub sought_here : (left : ℕ) → Sought hs rank left head from → 0 < left → rank < rank_of (take 7 (drop head hs)) → record { head = head; from = from } ≡ place_of rank hs
  unfolding place_among
  sought_here zero s p h = let z : ⊥ = omega arith in absurd z
  sought_here (suc left) s p h = rw (lt-leb (rank_of (take 7 (drop head hs))) rank h, add-zero, add-zero) at s.place

  pub sought_end : Sought hs rank 0 head from → record { head = head; from = from } ≡ place_of rank hs
  unfolding place_among
  sought_end s = rw (add-zero, add-zero) at s.place
