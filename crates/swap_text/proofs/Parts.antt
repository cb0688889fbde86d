-- The parts of a record's line: how long they are, and a label's two counts one after the other.
use Prim.Native.Nat.{ℕ, ◌+◌, ◌≤◌}
use mathlib.Core.Path.{◌≡◌, sym, ap, subst, ◌∙◌}
use mathlib.Core.List.{List, [], ◌∷◌, ◌++◌, append-nil}
use native.Mathlib.Omega.{arith}
use lib.ListN.{length, length-append}
use Rattle.numbers.specs.declared.Octets.{Octets}
use Rattle.numbers.specs.declared.Characters.{Characters}
use Rattle.numbers.specs.Answer.{Answer, given, refused, refused_at}
use Rattle.text.specs.Text.{decimal_text}
use Rattle.text.specs.Quoted.{quoted}
use Rattle.text.proofs.Digits.{text_most}
use Rattle.text.proofs.Hexadecimal.{length_hex}
use Rattle.text.proofs.Writing.{Written, joined}
use Rattle.label.specs.Fitting.{measured}
use Rattle.swap.specs.declared.kind.Kind.{Kind}
use Rattle.swap.specs.declared.kind.Kind.TheVariants.{Raw, Label, Long}
use Rattle.swap_text.specs.Lines.{count_line, refusal_line, characters_text, kind_text, name_text, record_line, longest_line}

pub name_long : (ads : List ℕ) (tab : ℕ) → length ads ≡ 6 → length (name_text ads tab) ≡ 15
unfolding name_text
name_long ads tab six = rw length-append (omega (arith, length_hex ads, length_hex (tab ∷ [])))

characters_most : (a : Answer Characters) → length (characters_text a) ≤ 32
unfolding characters_text
characters_most (given count) = omega (arith, text_most count.0)
characters_most (refused n) = omega arith
characters_most (refused_at n offset) = omega arith

pub kind_most : (kind : Kind) (content : List ℕ) → length (kind_text kind content) ≤ 66
unfolding kind_text
kind_most Raw content = omega (arith, text_most (length content))
kind_most Label content =
    rw length-append (omega (arith, text_most (length content), characters_most (measured content)))
kind_most Long content = omega (arith, text_most (length content))

-- every line of a record is within the most
pub record_most : (ads : List ℕ) (tab : ℕ) (kind : Kind) (content : List ℕ) → length ads ≡ 6 → length (record_line ads tab kind content) ≤ longest_line
unfolding record_line
record_most ads tab kind content six =
    rw length-append (rw length-append (omega (arith, name_long ads tab six, kind_most kind content)))

pub count_most : (n : ℕ) → length (count_line n) ≤ longest_line
unfolding count_line
count_most n = rw length-append (omega (arith, text_most n))

pub refusal_most : (offset : ℕ) → length (refusal_line offset) ≤ longest_line
unfolding refusal_line
refusal_most offset = rw length-append (omega (arith, text_most offset))

-- a label's octet count is laid in the line m
module _ (m : List ℕ) (at : ℕ) (content : List ℕ) (r : ℕ) (b : List ℕ) (laid : Written m at (quoted " label octets " ++ decimal_text (length content)) r b) where
  -- ill-formed text has no character count
  pub label_octets : (offset : Octets) (n : ℕ) → measured content ≡ refused_at n offset → Written m at (kind_text Label content) r b
  unfolding kind_text characters_text
  label_octets offset n e =
      let octets : List ℕ = quoted " label octets " ++ decimal_text (length content) in
      let same : octets ++ characters_text (measured content) ≡ octets = ap (λ (a : Answer Characters). octets ++ characters_text a) e ∙ append-nil octets in
      subst (λ (t : List ℕ). Written m at t r b) (sym same) laid

  pub label_counts : (count : Characters) (q : ℕ) (d : List ℕ) → at + 66 ≤ length m → measured content ≡ given count → Written b r (quoted " characters " ++ decimal_text count.0) q d → Written m at (kind_text Label content) q d
  unfolding kind_text characters_text
  label_counts count q d room e next =
      rw e
      (joined m at _ _ r q b d (omega (arith, text_most (length content), text_most count.0, room)) laid next)
