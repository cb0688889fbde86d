-- The loop that sums the length of the would-be file: what it has summed and the octets of the heads left make up the whole.
use Prim.Native.Nat.{ℕ, zero, suc, ◌+◌, ◌-◌, ◌*◌, ◌/◌, ◌^◌, ◌≤◌, ◌<◌}
use mathlib.Core.Path.{◌≡◌, ◌∙◌}
use mathlib.Core.List.{List}
use native.Mathlib.Omega.{arith}
use lib.ListN.{length, get_or, drop, length-append, length-drop}
use lib.Dec.{lit<}
use borrow.Author.Tests.{lt-ltb}
use Rattle.octets.proofs.Below.{Below-drop}
use Rattle.number.specs.Groups.{encoded}
use Rattle.swap.specs.Record.{file_limit}
use Rattle.std.specs.Prelude.{None}
use Rattle.swap_write.specs.Heads.{head_length, body_of, file_of}
use Rattle.swap_write.specs.Writing.{size_of, size_after}
use Rattle.swap_write.proofs.Body.{length_next, length_cut}
use Rattle.swap_write.proofs.Judged.{length_small}

-- where the loop stands, with these heads and data of a file left, of all
pub record Summed (all_heads all_data : ℕ) (file hs ds : List ℕ) (sum left : ℕ) : Type 0 where
  pub octets : (i : ℕ) → get_or hs i 0 < 256
  pub heads_within : length hs ≤ all_heads
  pub data_within : length ds ≤ all_data
  pub heads : left * 10 ≤ length hs
  pub total : length file ≡ sum + length (body_of left hs ds)

pub summed_start : (hs ds : List ℕ) → ((i : ℕ) → get_or hs i 0 < 256) → Summed (length hs) (length ds) (file_of hs ds) hs ds (length (encoded (length hs / 10))) (length hs / 10)
unfolding file_of
summed_start hs ds octets =
    record {
      octets = octets;
      heads_within = omega arith;
      data_within = omega arith;
      heads = omega arith;
      total = length-append (encoded (length hs / 10)) (body_of (length hs / 10) hs ds);
    }

-- a sum past the limit
pub summed_long : (all_heads all_data : ℕ) (file hs ds : List ℕ) (sum left : ℕ) → Summed all_heads all_data file hs ds sum left → file_limit < sum → None ≡ size_of file
unfolding size_of
summed_long all_heads all_data file hs ds sum left j h = rw (lt-ltb file_limit (length file) (omega (arith, j.total)))

-- a whole sum
pub summed_whole : (s : List ℕ) (sum more : ℕ) → length s ≡ sum + more → size_after sum more ≡ size_of s
unfolding size_of size_after
summed_whole s sum more e = rw e

module _ (all_heads all_data : ℕ) (file hs ds : List ℕ) (sum : ℕ) where
  within : (left : ℕ) → Summed all_heads all_data file hs ds sum left → head_length hs < 2 ^ 32
  within left j = omega (arith, length_small hs j.octets)

  -- the data runs out
  pub summed_cut : (left : ℕ) → Summed all_heads all_data file hs ds sum left → 0 < left → length ds < head_length hs → length file ≡ sum + (8 + length (encoded (head_length hs))) + length ds
  summed_cut zero j p h = let z : ⊥ = omega arith in absurd z
  summed_cut (suc left) j p h = omega (arith, j.total, length_cut left hs ds (omega (arith, j.heads)) (within (suc left) j) h)

  -- one record more
  pub summed_next : (left : ℕ) → Summed all_heads all_data file hs ds sum left → 0 < left → head_length hs ≤ length ds → Summed all_heads all_data file (drop 10 hs) (drop (head_length hs) ds) (sum + (8 + length (encoded (head_length hs))) + head_length hs) (left - 1)
  summed_next zero j p h = let z : ⊥ = omega arith in absurd z
  summed_next (suc left) j p h =
      let l : suc left - 1 ≡ left = omega arith in
      let n = length_next left hs ds (omega (arith, j.heads)) (within (suc left) j) h in
      rw l (record { octets = Below-drop 256 (lit< tt) 10 hs j.octets; heads_within = omega (arith, j.heads_within, length-drop 10 hs); data_within = omega (arith, j.data_within, length-drop (head_length hs) ds); heads = omega (arith, j.heads, length-drop 10 hs); total = omega (arith, j.total, n) })

-- nothing but what is left over
pub summed_rest : (all_heads all_data : ℕ) (file hs ds : List ℕ) (sum : ℕ) → Summed all_heads all_data file hs ds sum 0 → length file ≡ sum + (length hs + length ds)
unfolding body_of
summed_rest all_heads all_data file hs ds sum j = j.total ∙ rw length-append
