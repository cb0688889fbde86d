-- What the table of effects says of a number.
use Prim.Native.Nat.{ℕ, zero, suc}
use mathlib.Core.Path.{◌≡◌, refl}
use mathlib.Core.Bool.{Bool, true, false, cond, ◌||◌}
use mathlib.Core.List.{List, [], ◌∷◌}
use native.Mathlib.Omega.{arith}
use lib.Dec.{eqb}
use borrow.Author.Tests.{eqb-true}
use Rattle.octets.proofs.Impossible.{impossible}
use Rattle.frame.proofs.BadFrame.{OfBadFrame}
use Rattle.tool.specs.Leaving.{keeps_all, receiver_only, all_over, one_of, bad_frames, endings, effect_of, unmade}

-- a number of a list has what all numbers of the list have
abbrev All : (ℕ → Type 0) → List ℕ → Type 0
All P [] = Unit {0}
All P (m ∷ ms) = P m × All P ms

of_list : (P : ℕ → Type 0) (n : ℕ) (ms : List ℕ) → All P ms → one_of n ms ≡ true → P n
of_list P n [] a e = impossible (cc)
of_list P n (m ∷ ms) a e = go (eqb n m) refl (of_list P n ms a.1) e
  where
    go : (b : Bool) → eqb n m ≡ b → (one_of n ms ≡ true → P n) → (b || one_of n ms) ≡ true → P n
    go true q r z = rw (eqb-true n m q) a.0
    go false q r z = r z

in_bad_frames : (n : ℕ) → effect_of n ≡ receiver_only → one_of n bad_frames ≡ true
in_bad_frames n = go (one_of n bad_frames) (one_of n endings)
  where
    go : (a b : Bool) → cond a receiver_only (cond b all_over keeps_all) ≡ receiver_only → a ≡ true
    go true b e = refl
    go false true e = impossible (cc)
    go false false e = impossible (cc)

pub in_endings : (n : ℕ) → effect_of n ≡ all_over → one_of n endings ≡ true
in_endings n = go (one_of n bad_frames) (one_of n endings)
  where
    go : (a b : Bool) → cond a receiver_only (cond b all_over keeps_all) ≡ all_over → b ≡ true
    go true b e = impossible (cc)
    go false true e = refl
    go false false e = impossible (cc)

-- 1 to 5: such an event has happened, and ends no request
pub record Dropped (n : ℕ) : Type 0 where
  pub made : unmade n ≡ false
  pub ends : one_of n endings ≡ false

pub receiver_only_lem : (n : ℕ) → effect_of n ≡ receiver_only → Dropped n
receiver_only_lem n e = of_list Dropped n bad_frames (record { made = refl; ends = refl }, (record { made = refl; ends = refl }, (record { made = refl; ends = refl }, (record { made = refl; ends = refl }, (record { made = refl; ends = refl }, tt))))) (in_bad_frames n e)

-- 13, 14, 15, 19, 20: such an event has happened
pub over_made : (n : ℕ) → effect_of n ≡ all_over → unmade n ≡ false
over_made n e = of_list (λ m. unmade m ≡ false) n endings (refl, (refl, (refl, (refl, (refl, tt))))) (in_endings n e)

pub bad_frame_effect : (n : ℕ) → OfBadFrame n → effect_of n ≡ receiver_only
bad_frame_effect zero b = absurd (omega (arith, b.least))
bad_frame_effect (suc zero) b = refl
bad_frame_effect (suc (suc zero)) b = refl
bad_frame_effect (suc (suc (suc zero))) b = refl
bad_frame_effect (suc (suc (suc (suc zero)))) b = refl
bad_frame_effect (suc (suc (suc (suc (suc zero))))) b = refl
bad_frame_effect (suc (suc (suc (suc (suc (suc n)))))) b = absurd (omega (arith, b.most))
