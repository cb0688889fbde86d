-- The count is that of the characters of the front part that is read; a turn reads one sequence more.
use mathlib.Core.Path.{◌≡◌, sym, ap, ◌∙◌}
use mathlib.Core.Bool.{true, false}
use mathlib.Core.List.{List, [], ◌∷◌}
use Prim.Native.Nat.{ℕ, ◌+◌, ◌≤◌, ◌<◌}
use native.Mathlib.Omega.{arith}
use lib.ListN.{length, take, drop, length-append}
use lib.Seq.{take_all}
use Rattle.label.specs.Utf8.{well_formed_octets, sequence_length}
use Rattle.label.specs.Character.{starts_character, characters}
use Rattle.numbers.specs.Counts.{in_characters}
use Rattle.label.specs.Fitting.{measured}
use Rattle.label.proofs.Run.{octets_well_formed, octets_ill_formed}
use Rattle.label.proofs.Turn.{ReadTo, read_none, characters_empty, read_ended, read_all, turn_fits, turn_read, turn_starts, turn_joins}
use Rattle.label.proofs.Answers.{judged-well_formed, judged-ill_formed}
use Rattle.label.proofs.measure.Goals.{then-starts_character, else-starts_character}
use Rattle.label.proofs.measure.Goals as goal

-- a turn, where a sequence of n octets stands at the offset
module _ (text : List ℕ) (at n : ℕ) (read : ReadTo text at) (found : n ≡ sequence_length (drop at text)) (some : 0 < n) where
  in_text : at + n ≤ length text
  in_text = turn_fits text at n read found some

  started : starts_character text at ≡ true → length (characters (take (at + n) text)) ≡ length (characters (take at text)) + 1
  started e = ap length (turn_starts text at n read found some e) ∙ length-append (characters (take at text)) (take n (drop at text) ∷ [])

  joined : starts_character text at ≡ false → length (characters (take (at + n) text)) ≡ length (characters (take at text))
  joined e = (turn_joins text at n read found some e).0

pub loop-at-init : goal.loop-at-init
loop-at-init c = (read_none c.args.text.now, omega arith, sym (ap length characters_empty))

pub returns-in_default : goal.returns-in_default
unfolding measured
returns-in_default c = let text : List ℕ = c.args.text.now in
    let at : ℕ = c.loop-at.at in
    let ends : well_formed_octets text ≡ at = read_ended text at c.loop-at.invariant.0 c.in_default.ensures in
    sym (judged-ill_formed text (in_characters (length (characters text))) (octets_ill_formed text (omega arith)) ∙ rw ends)

pub overflow_add-at : goal.overflow_add-at
overflow_add-at c = omega (arith, in_text c.args.text.now c.loop-at.at c.in-Some.length c.loop-at.invariant.0 c.in-Some.ensures.0 c.in-Some.ensures.1)

pub loop-at-preserved : goal.loop-at-preserved
loop-at-preserved c =
    let text : List ℕ = c.args.text.now in
    let at : ℕ = c.loop-at.at in
    let n : ℕ = c.in-Some.length in
    let inv = c.loop-at.invariant in
    let some = c.in-Some.ensures.1 in
    let starts = c.starts_character.ensures in
    let counted : (c.if-starts_character.characters ≤ at + n) × (c.if-starts_character.characters ≡ length (characters (take (at + n) text))) =
    elim c.if-starts_character.branch [
      | then-starts_character w ↦ (omega (arith, w.characters-is, inv.1, some), omega (arith, w.characters-is, inv.2, started text at n inv.0 c.in-Some.ensures.0 some (sym starts ∙ w.if-starts_character.true)))
      | else-starts_character w ↦ (omega (arith, w.characters-is, inv.1), omega (arith, w.characters-is, inv.2, joined text at n inv.0 c.in-Some.ensures.0 some (sym starts ∙ w.if-starts_character.false)))
    ] in
    (turn_read text at n inv.0 c.in-Some.ensures.0 some, counted.0, counted.1)

pub returns : goal.returns
unfolding measured
returns c = let text : List ℕ = c.args.text.now in
    let at : ℕ = c.loop-at.at in
    let inv = c.loop-at.invariant in
    let ended : length text ≤ at = c.loop-at-test.false in
    let whole : well_formed_octets text ≡ length text = read_ended text at inv.0 (read_all text at ended) ∙ omega (arith, inv.0.0) in
    let count : length (characters text) ≡ c.loop-at.characters = ap (λ (part : List ℕ). length (characters part)) (sym (take_all at text ended)) ∙ sym inv.2 in
    sym (judged-well_formed text (in_characters (length (characters text))) (octets_well_formed text whole) ∙ rw count)
