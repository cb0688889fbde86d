-- Of a sequence of two octets the first tells whether it is a combining mark, or the second does.
use mathlib.Core.Path.{◌≡◌, refl, sym, ap, ◌∙◌}
use mathlib.Core.Bool.{Bool, true, false, not}
use mathlib.Core.List.{List}
use Prim.Native.Nat.{ℕ, ◌+◌, ◌<◌}
use native.Mathlib.Omega.{arith}
use borrow.Author.Tests.{leb-true, leb-false, le-ltb, lt-ltb}
use lib.Dec.{leb, ltb}
use lib.ListN.{length, get_or, drop}
use Rattle.label.specs.Utf8.{sequence_length}
use Rattle.label.specs.Character.{combining_mark_at, starts_character}
use Rattle.label.proofs.Mark.{mark_not, two_in_text, mark_first, mark_second, mark_other, starts_first, starts_unmarked, starts_later}
use Rattle.label.proofs.character.starts_character.Goals.{then-octets-ne-MARK_OCTETS-via-then-octets-ne-MARK_OCTETS, then-octets-ne-MARK_OCTETS-via-else-octets-ne-MARK_OCTETS+then-at-eq0}
use Rattle.label.proofs.character.starts_character.Goals as goal

-- two octets stand at the offset, and not at the text's start
module _ (text : List ℕ) (at octets : ℕ) (found : octets ≡ sequence_length (drop at text)) (is_two : octets ≡ 2) (later : at ≡ 0 → ⊥) where
  two : sequence_length (drop at text) ≡ 2
  two = sym found ∙ is_two

  in_text : at + 1 < length text
  in_text = two_in_text text at two

  unless_mark : (b : Bool) → combining_mark_at (drop at text) ≡ b → not b ≡ starts_character text at
  unless_mark b mark = sym (starts_later text at later ∙ ap not mark)

  joins_first : get_or text at 0 ≡ 0xCC → false ≡ starts_character text at
  joins_first e = unless_mark true (mark_first text at two e)

  starts_second : get_or text at 0 ≡ 0xCD → ltb 0xAF (get_or text (at + 1) 0) ≡ starts_character text at
  starts_second e = over (leb (get_or text (at + 1) 0) 0xAF) refl ∙ unless_mark (leb (get_or text (at + 1) 0) 0xAF) (mark_second text at two e)
    where
      over : (b : Bool) → leb (get_or text (at + 1) 0) 0xAF ≡ b → ltb 0xAF (get_or text (at + 1) 0) ≡ not b
      over true low = le-ltb 0xAF (get_or text (at + 1) 0) (leb-true _ _ low)
      over false high = lt-ltb 0xAF (get_or text (at + 1) 0) (leb-false _ _ high)

  starts_other : (get_or text at 0 ≡ 0xCC → ⊥) → (get_or text at 0 ≡ 0xCD → ⊥) → true ≡ starts_character text at
  starts_other no_first no_second = unless_mark false (mark_other text at two no_first no_second)

pub returns-then-octets-ne-MARK_OCTETS : goal.returns-then-octets-ne-MARK_OCTETS
returns-then-octets-ne-MARK_OCTETS c = let s = c in
    let text : List ℕ = s.args.text.now in
    let at : ℕ = s.args.at in
    elim c.then-octets-ne-MARK_OCTETS.branch [
      | then-octets-ne-MARK_OCTETS-via-then-octets-ne-MARK_OCTETS w ↦ sym (starts_unmarked text at (mark_not (drop at text) (λ two. w.if-octets-ne-MARK_OCTETS.true (s.requires.0 ∙ two))))
      | then-octets-ne-MARK_OCTETS-via-else-octets-ne-MARK_OCTETS+then-at-eq0 w ↦ sym (starts_first text at w.if-at-eq0.true)
    ]

pub bounds-text-at : goal.bounds-text-at
bounds-text-at c = omega (arith, in_text c.args.text.now c.args.at c.args.octets c.requires.0 c.if-octets-ne-MARK_OCTETS.false c.if-at-eq0.false)

pub overflow_add-result : goal.overflow_add-result
overflow_add-result c = omega (arith, in_text c.args.text.now c.args.at c.args.octets c.requires.0 c.if-octets-ne-MARK_OCTETS.false c.if-at-eq0.false)

pub bounds-text-at-in-205 : goal.bounds-text-at-in-205
bounds-text-at-in-205 c = in_text c.args.text.now c.args.at c.args.octets c.requires.0 c.if-octets-ne-MARK_OCTETS.false c.if-at-eq0.false

pub returns-in-204 : goal.returns-in-204
returns-in-204 c = joins_first c.args.text.now c.args.at c.args.octets c.requires.0 c.if-octets-ne-MARK_OCTETS.false c.if-at-eq0.false c.in-204.is

pub returns-in-205 : goal.returns-in-205
returns-in-205 c = starts_second c.args.text.now c.args.at c.args.octets c.requires.0 c.if-octets-ne-MARK_OCTETS.false c.if-at-eq0.false c.in-205.is

pub returns-in_default : goal.returns-in_default
returns-in_default c = starts_other c.args.text.now c.args.at c.args.octets c.requires.0 c.if-octets-ne-MARK_OCTETS.false c.if-at-eq0.false (λ e. omega (arith, e)) (λ e. omega (arith, e))
