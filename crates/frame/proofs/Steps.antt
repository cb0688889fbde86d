-- The first step of `inspected`, which asks whether there is an N.
use Prim.Native.Nat.{ℕ}
use mathlib.Core.Path.{◌≡◌, refl}
use mathlib.Core.List.{List, [], ◌∷◌}
use lib.ListN.{length, get_or}
use Rattle.std.specs.Prelude.{Some, None, slice_get}
use Rattle.numbers.specs.Table.{cut_frame}
use Rattle.numbers.specs.Answer.{refused, when_given}
use Rattle.frame.specs.Checks.{stated_by, inspected, inspected_as}

pub inspected_none : (s : List ℕ) → None ≡ slice_get s 0 → inspected s ≡ refused cut_frame
unfolding inspected
inspected_none [] e = refl
inspected_none (n ∷ s) e = cc

pub inspected_some : (s : List ℕ) (n : ℕ) → Some n ≡ slice_get s 0 → inspected s ≡ when_given (stated_by n) (inspected_as s)
unfolding inspected
inspected_some [] n e = cc
inspected_some (k ∷ s) n e = let same : n ≡ k = cc in rw same

pub inspected_from : (s : List ℕ) → (length s ≡ 0 → ⊥) → inspected s ≡ when_given (stated_by (get_or s 0 0)) (inspected_as s)
unfolding inspected
inspected_from [] h = absurd (h refl)
inspected_from (n ∷ s) h = refl
