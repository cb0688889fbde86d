-- The whole length that N states, in numbers.
use Prim.Native.Nat.{ℕ, ◌≤◌}
use mathlib.Core.Path.{◌≡◌, refl}
use mathlib.Core.Bool.{Bool, true, false, cond}
use Rattle.octets.specs.Between.{between}
use Rattle.octets.proofs.Bounds.{between_both, between_bounds}
use Rattle.numbers.specs.declared.Octets.{Octets}
use Rattle.numbers.specs.Table.{length_out_of_range}
use Rattle.numbers.specs.Counts.{in_octets}
use Rattle.numbers.specs.Answer.{given, refused}
use Rattle.frame.specs.Sizes.{shortest_frame, longest_frame}
use Rattle.frame.specs.Checks.{stated_by}
use Rattle.octets.proofs.Impossible.{impossible}

pub stated_whole : (n : ℕ) → shortest_frame ≤ n → n ≤ longest_frame → stated_by n ≡ given (in_octets n)
unfolding stated_by
stated_whole n h k = rw (between_both shortest_frame longest_frame n h k)

pub record Range (n : ℕ) (w : Octets) : Type 0 where
  pub least : shortest_frame ≤ n
  pub most : n ≤ longest_frame
  pub whole : w.0 ≡ n

pub stated_range : (n : ℕ) (w : Octets) → stated_by n ≡ given w → Range n w
unfolding stated_by
stated_range n w = go (between shortest_frame longest_frame n) refl
  where
    go : (b : Bool) → between shortest_frame longest_frame n ≡ b → cond b (given (in_octets n)) (refused length_out_of_range) ≡ given w → Range n w
    go true p e =
        let bounds = between_bounds shortest_frame longest_frame n p in
        record { least = bounds.0; most = bounds.1; whole = cc }
    go false p e = impossible (cc)
