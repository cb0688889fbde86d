-- Octets in hexadecimal digits: how many digits, and one octet more.
use Prim.Native.Nat.{ℕ, ◌+◌, ◌*◌, ◌/◌, ◌%◌, ◌≤◌, ◌<◌}
use mathlib.Core.Path.{◌≡◌, refl, sym, ◌∙◌}
use mathlib.Core.List.{List, [], ◌∷◌, ◌++◌}
use native.Mathlib.Omega.{arith}
use native.Mathlib.Numerals.{add-one}
use lib.ListN.{length, take, get_or}
use lib.Seq.{take-suc, take-length, length-take-le}
use Rattle.octets.specs.Splice.{spliced}
use Rattle.octets.proofs.Splice.{spliced_nothing, spliced_after, length-spliced}
use Rattle.text.specs.Text.{digit_of, hex_text}
use Rattle.text.proofs.Writing.{Written, after_fits}

pub length_hex : (s : List ℕ) → length (hex_text s) ≡ 2 * length s
unfolding hex_text
length_hex [] = refl
length_hex (o ∷ s) = omega (arith, length_hex s)

hex_append : (s t : List ℕ) → hex_text (s ++ t) ≡ hex_text s ++ hex_text t
unfolding hex_text
hex_append [] t = refl
hex_append (o ∷ s) t = rw (hex_append s t)

-- where the loop stands: the digits of the first i octets are laid
pub record Laying (m : List ℕ) (at : ℕ) (s d : List ℕ) (next i : ℕ) : Type 0 where
  pub turns : i ≤ length s
  pub fits : at + 2 * length s ≤ length m
  pub place : next ≡ at + 2 * i
  pub is : d ≡ spliced m at (hex_text (take i s))

pub start : (m : List ℕ) (at : ℕ) (s : List ℕ) → at + 2 * length s ≤ length m → Laying m at s m at 0
unfolding hex_text
start m at s h = record { turns = omega arith; fits = h; place = omega arith; is = rw (spliced_nothing m at) }

module _ {m : List ℕ} {at : ℕ} {s d : List ℕ} {next i : ℕ} (l : Laying m at s d next i) where
  laid : length (hex_text (take i s)) ≡ 2 * i
  laid = length_hex (take i s) ∙ rw (length-take-le i s l.turns)

  pub as_long : length d ≡ length m
  as_long = rw l.is (length-spliced m at (hex_text (take i s)) (omega (arith, laid, l.fits, l.turns)))

  pub turn : (o : ℕ) → i < length s → o ≡ get_or s i 0 → Laying m at s (spliced d next (digit_of (o / 16) ∷ digit_of (o % 16) ∷ [])) (next + 2) (i + 1)
  unfolding hex_text
  turn o h e =
      let place : next ≡ at + length (hex_text (take i s)) = omega (arith, laid, l.place) in
      record {
        turns = omega arith;
        fits = l.fits;
        place = omega (arith, l.place);
        is =
            rw (e, l.is, place, add-one, take-suc s i 0 h, hex_append (take i s) (get_or s i 0 ∷ []))
            (spliced_after m at (hex_text (take i s)) (digit_of (get_or s i 0 / 16) ∷ digit_of (get_or s i 0 % 16) ∷ []) (omega (arith, laid, l.fits)));
      }

  pub end : length s ≤ i → Written m at (hex_text s) next d
  end h =
      let e : i ≡ length s = omega (arith, l.turns) in
      let n : next ≡ at + length (hex_text s) = omega (arith, length_hex s, l.place) in (
        n ∙ sym (after_fits m at (hex_text s) (omega (arith, length_hex s, l.fits))),
        l.is ∙ rw (e, take-length),
      )
