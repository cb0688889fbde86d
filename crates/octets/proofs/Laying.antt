-- A loop that lays the elements of s over those of m from offset at on, one a turn: what holds after i turns, and what is there at its end.
use Prim.Native.Nat.{ℕ, ◌+◌, ◌-◌, ◌≤◌, ◌<◌, suc}
use mathlib.Core.Path.{◌≡◌, ◌∙◌}
use mathlib.Core.List.{List, [], ◌∷◌, ◌++◌, reverse, reverse-cons}
use native.Mathlib.Decide.{dec_lt}
use native.Mathlib.Numerals.{add-one}
use native.Mathlib.Omega.{arith}
use lib.ListN.{length, get_or, set, length-reverse, get_or-append}
use lib.Seq.{paste, paste-zero, paste-suc, length-paste, take-length, get_or_at}
use Rattle.octets.specs.Splice.{spliced}
use Rattle.octets.proofs.Splice.{spliced_fits}

pub record Laying (m : List ℕ) (at : ℕ) (s d : List ℕ) (i : ℕ) : Type 0 where
  pub turns : i ≤ length s
  pub fits : at + length s ≤ length m
  pub is : d ≡ paste m at s i

pub start : (m : List ℕ) (at : ℕ) (s : List ℕ) → at + length s ≤ length m → Laying m at s m 0
start m at s h = record { turns = omega arith; fits = h; is = paste-zero m at s }

module _ {m : List ℕ} {at : ℕ} {s d : List ℕ} {i : ℕ} (l : Laying m at s d i) where
  pub as_long : length d ≡ length m
  as_long = rw l.is (length-paste m at s i (omega arith) (omega arith))

  pub next : (x : ℕ) → i < length s → x ≡ get_or s i 0 → Laying m at s (set d (at + i) x) (i + 1)
  next x h e =
      record {
        turns = omega arith;
        fits = l.fits;
        is = rw (e, l.is, add-one) (paste-suc m at s i 0 (omega arith) h);
      }

  pub end : length s ≤ i → d ≡ spliced m at s
  end h =
      let e : i ≡ length s = omega arith in
      rw (l.is, e, take-length, spliced_fits m at s l.fits)

-- the i-th element of the reversed list, counted from the end
pub get_or-reverse : (s : List ℕ) (i : ℕ) → i < length s → get_or (reverse s) i 0 ≡ get_or s (length s - 1 - i) 0
get_or-reverse [] i h = absurd (lt_zero h)
  where
    lt_zero : i < 0 → ⊥
    lt_zero h = omega arith
get_or-reverse (x ∷ s) i h = rw (reverse-cons x s) (go (get_or-reverse s i) (dec_lt i (length s)))
  where
    go : (i < length s → get_or (reverse s) i 0 ≡ get_or s (length s - 1 - i) 0) → Dec (i < length s) → get_or (reverse s ++ (x ∷ [])) i 0 ≡ get_or (x ∷ s) (length (x ∷ s) - 1 - i) 0
    go ih (yes k) =
        let e : suc (length s) - 1 - i ≡ suc (length s - 1 - i) = omega arith in
        rw (get_or-append (reverse s) (x ∷ []) 0 i (rw length-reverse k), e) (ih k)
    go ih (no n) =
        let e : length (reverse s) ≡ i = length-reverse s ∙ omega arith in
        let z : suc (length s) - 1 - i ≡ 0 = omega arith in
        rw (get_or_at (reverse s) x [] 0 i e, z)
