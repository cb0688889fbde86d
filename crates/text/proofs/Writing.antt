-- A text written at an offset, and another where it ends.
use Prim.Native.Nat.{ℕ, ◌+◌, ◌≤◌, ◌<◌}
use mathlib.Core.Path.{◌≡◌, refl, ◌∙◌}
use mathlib.Core.List.{List, ◌++◌}
use native.Mathlib.Omega.{arith}
use lib.ListN.{length, length-append}
use borrow.Author.Tests.{le-leb, lt-leb}
use Rattle.octets.proofs.Splice.{spliced_past, spliced_after, length-spliced}
use Rattle.text.specs.Text.{offset_after}
pub use Rattle.text.specs.Text.{Written}

pub after_fits : (m : List ℕ) (at : ℕ) (s : List ℕ) → at + length s ≤ length m → offset_after m at s ≡ at + length s
unfolding offset_after
after_fits m at s h = rw (le-leb (at + length s) (length m) h)

pub after_past : (m : List ℕ) (at : ℕ) (s : List ℕ) → length m < at + length s → offset_after m at s ≡ at
unfolding offset_after
after_past m at s h = rw (lt-leb (at + length s) (length m) h)

-- a text that does not fit is not written
pub unwritten : (m : List ℕ) (at : ℕ) (s : List ℕ) → length m < at + length s → Written m at s at m
unwritten m at s h = rw (after_past m at s h, spliced_past m at s h) (refl, refl)

-- so much room is left after it
pub room_after : (m : List ℕ) (at : ℕ) (s : List ℕ) (r : ℕ) (b : List ℕ) (k : ℕ) → at + (length s + k) ≤ length m → Written m at s r b → r + k ≤ length b
room_after m at s r b k h p =
    let f : at + length s ≤ length m = omega arith in
    let end : r ≡ at + length s = p.0 ∙ after_fits m at s f in
    let long : length b ≡ length m = rw p.1 (length-spliced m at s f) in
    omega arith

-- one text where another ends is both
pub joined : (m : List ℕ) (at : ℕ) (s t : List ℕ) (r q : ℕ) (b d : List ℕ) → at + (length s + length t) ≤ length m
    → Written m at s r b → Written b r t q d → Written m at (s ++ t) q d
joined m at s t r q b d h p w =
    let k : at + length s ≤ length m = omega arith in
    let end : r ≡ at + length s = p.0 ∙ after_fits m at s k in
    let long : length b ≡ length m = rw p.1 (length-spliced m at s k) in
    let both : length (s ++ t) ≡ length s + length t = length-append s t in
    rw (after_fits m at (s ++ t) (omega arith), both) (
      w.0 ∙ after_fits b r t (omega arith) ∙ omega arith,
      w.1 ∙ rw (p.1, end) (spliced_after m at s t (omega arith)),
    )
