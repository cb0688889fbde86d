-- `between` is true of the numbers from one bound to the other, and of no other number.
use Prim.Native.Nat.{ℕ, ◌≤◌, ◌<◌}
use mathlib.Core.Path.{◌≡◌, refl, sym}
use mathlib.Core.Bool.{Bool, true, false, ◌&&◌, and-false, true≢false}
use lib.Dec.{leb}
use borrow.Author.Tests.{le-leb, lt-leb, leb-true}
use Rattle.octets.specs.Between.{between}

module _ (least most n : ℕ) where
  pub between_both : least ≤ n → n ≤ most → between least most n ≡ true
  unfolding between
  between_both h k = rw (le-leb least n h, le-leb n most k)

  pub between_below : n < least → between least most n ≡ false
  unfolding between
  between_below h = rw (lt-leb least n h)

  pub between_above : most < n → between least most n ≡ false
  unfolding between
  between_above h = rw (lt-leb n most h) (and-false (leb least n))

  pub between_bounds : between least most n ≡ true → (least ≤ n) × (n ≤ most)
  unfolding between
  between_bounds e = go (leb least n) (leb n most) refl refl e
    where
      go : (a b : Bool) → leb least n ≡ a → leb n most ≡ b → (a && b) ≡ true → (least ≤ n) × (n ≤ most)
      go true true p q e = (leb-true least n p, leb-true n most q)
      go true false p q e = absurd (true≢false (sym e))
      go false b p q e = absurd (true≢false (sym e))
