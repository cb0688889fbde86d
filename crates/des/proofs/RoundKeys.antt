-- The round key of C0 and D0 in hand: 28 bits of each half, which is held twice, are C and D after left shifts.
-- Assumes nothing.
use mathlib.Core.Path.{◌≡◌}
use mathlib.Core.List.{List, ◌++◌}
use Prim.Native.Nat.{ℕ, ◌-◌, ◌/◌, ◌^◌, ◌≤◌}
use native.Mathlib.Omega.{arith}
use lib.ListN.{length, take, drop, length-drop}
use lib.Seq.{length-take-le}
use Rattle.des_choices.specs.Choices.{with_gaps}
use Rattle.des.specs.Tables.{PC2}
use Rattle.des.specs.Des.{permuted, both_shifted}
use Rattle.des.specs.Words.{Word}
use Rattle.des.specs.Windows.{WithGaps}
use Rattle.des.proofs.Held.{joined, shifted_half}
use Rattle.des.proofs.Choices.{all_parts}
use Rattle.des.proofs.Windows.{with_gaps_lem}

pub shifted_key : (cd : List ℕ) (s c d : ℕ) → length cd ≡ 56 → s ≤ 28 → Word 56 (take 28 cd ++ take 28 cd) c → Word 56 (drop 28 cd ++ drop 28 cd) d
    → WithGaps (permuted PC2 (both_shifted s cd)) (with_gaps 10 (c / 2 ^ (28 - s)) (d / 2 ^ (28 - s)))
unfolding both_shifted
shifted_key cd s c d n h p q =
    let x = c / 2 ^ (28 - s) in
    let y = d / 2 ^ (28 - s) in
    let both = joined (shifted_half (take 28 cd) s c (length-take-le 28 cd (omega arith)) h p) (shifted_half (drop 28 cd) s d (simp length-drop (omega arith)) h q) in
    with_gaps_lem (both_shifted s cd) (with_gaps 10 x y) (rw both.same at (all_parts x y))
