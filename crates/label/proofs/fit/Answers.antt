-- Of the characters of the front part that is read, all are counted and those before the last may be kept; a turn reads one sequence more.
use mathlib.Core.Path.{◌≡◌, refl, sym, ap, ◌∙◌}
use mathlib.Core.Bool.{true, false}
use mathlib.Core.List.{List, [], ◌∷◌, flatten}
use mathlib.Core.Logic.{◌⊎◌, inl, inr}
use Prim.Native.Nat.{ℕ, ◌+◌, ◌≤◌, ◌<◌}
use native.Mathlib.Omega.{arith}
use lib.ListN.{length, take, drop, length-append}
use lib.Seq.{take_all}
use Rattle.label.specs.Utf8.{well_formed_octets, sequence_length}
use Rattle.label.specs.Character.{starts_character, characters}
use Rattle.numbers.specs.Counts.{in_octets, in_characters}
use Rattle.numbers.specs.Answer.{given}
use Rattle.label.specs.Fitting.{counts_of, keep, kept_characters, fit_of}
use Rattle.label.proofs.Grouping.{LastGrown}
use Rattle.label.proofs.Run.{octets_well_formed, octets_ill_formed}
use Rattle.label.proofs.Turn.{ReadTo, read_none, characters_empty, read_octets, read_ended, read_all, some_begun, turn_fits, turn_read, turn_starts, turn_joins, kept_before, before_more, before_grown, all_kept, part_kept}
use Rattle.label.proofs.Answers.{judged-well_formed, judged-ill_formed}
use Rattle.label.specs.declared.Counts.{Counts}
use Rattle.label.proofs.fit.Invariants.{KeptCounts}
use Rattle.label.proofs.fit.Goals.{then-starts_character, then-at-octets+then-begun-characters, else-at-octets, else-at-octets-via-then-at-octets+else-begun-characters, else-at-octets-via-else-at-octets, else-starts_character, else-at-octets-2-via-then-at-octets-2+else-begun-characters-2, else-at-octets-2-via-else-at-octets-2}
use Rattle.label.proofs.fit.Goals as goal

abbrev counts_at : ℕ → ℕ → Counts
counts_at octets count = record { octets = in_octets octets; characters = in_characters count }

-- a turn, where a sequence of n octets stands at the offset
module _ (label : List ℕ) (octet_limit character_limit at n begun : ℕ) (kept : Counts)
    (read : ReadTo label at) (fewer : begun ≤ at) (count_is : begun ≡ length (characters (take at label)))
    (kept_is : KeptCounts (kept_before octet_limit character_limit (characters (take at label))) kept)
    (found : n ≡ sequence_length (drop at label)) (some : 0 < n) where
  abbrev before : List (List ℕ)
  before = characters (take at label)

  abbrev after : List (List ℕ)
  after = characters (take (at + n) label)

  -- what the loop's state says of the front part up to an offset
  abbrev Holds : ℕ → ℕ → Counts → Type 0
  Holds end count now = (count ≤ end) × (count ≡ length (characters (take end label))) × KeptCounts (kept_before octet_limit character_limit (characters (take end label))) now

  in_label : at + n ≤ length label
  in_label = turn_fits label at n read found some

  -- where a character starts, all that were begun before may be kept
  turned : starts_character label at ≡ true → (now : Counts) → KeptCounts (keep octet_limit character_limit before) now → Holds (at + n) (begun + 1) now
  turned starts now counts =
      let more = turn_starts label at n read found some starts in
      let same : kept_before octet_limit character_limit after ≡ keep octet_limit character_limit before = ap (kept_before octet_limit character_limit) more ∙ before_more octet_limit character_limit before (take n (drop at label)) in
      (omega (arith, fewer, some), omega (arith, count_is, ap length more, length-append before (take n (drop at label) ∷ [])), rw same counts)

  turned_whole : starts_character label at ≡ true → at ≤ octet_limit → begun ≤ character_limit → Holds (at + n) (begun + 1) (counts_at at begun)
  turned_whole starts h k = turned starts (counts_at at begun) (rw (all_kept octet_limit character_limit label at read begun count_is h k) (sym (read_octets label at read), count_is))

  turned_part : starts_character label at ≡ true → (octet_limit < at) ⊎ (character_limit < begun) → Holds (at + n) (begun + 1) kept
  turned_part starts over = turned starts kept (rw (part_kept octet_limit character_limit label at read begun count_is over) kept_is)

  -- and a combining mark changes nothing but the last one's octets
  joined : starts_character label at ≡ false → Holds (at + n) begun kept
  joined joins =
      let grown : LastGrown after before = turn_joins label at n read found some joins in
      let same : kept_before octet_limit character_limit after ≡ kept_before octet_limit character_limit before = before_grown octet_limit character_limit after before grown (some_begun label at before joins (read_octets label at read)) in
      (omega (arith, fewer), count_is ∙ sym grown.0, rw same kept_is)

-- the whole label is read
answered : (label : List ℕ) (octets count at : ℕ) (found : Counts) → ReadTo label at → length label ≤ at → KeptCounts (keep octets count (characters (take at label))) found
    → given (found.octets, found.characters) ≡ fit_of label (in_octets octets) (in_characters count)
unfolding kept_characters fit_of
answered label octets count at found read ended counts =
    let whole : well_formed_octets label ≡ length label = read_ended label at read (read_all label at ended) ∙ omega (arith, read.0) in
    let kept : List (List ℕ) = keep octets count (characters label) in
    let own : KeptCounts kept found = rw (take_all at label ended) at counts in
    sym (judged-well_formed label (counts_of kept) (octets_well_formed label whole) ∙ (λ i. given (in_octets (sym own.0 i), in_characters (sym own.1 i))))

pub loop-at-init : goal.loop-at-init
unfolding keep flatten
loop-at-init c = (read_none c.args.label.now, omega arith, sym (ap length characters_empty), rw characters_empty (refl, refl))

pub returns-in_default : goal.returns-in_default
unfolding fit_of
returns-in_default c =
    let label : List ℕ = c.args.label.now in
    let at : ℕ = c.loop-at.at in
    let ends : well_formed_octets label ≡ at = read_ended label at c.loop-at.invariant.0 c.in_default.ensures in
    sym (judged-ill_formed label _ (octets_ill_formed label (omega arith)) ∙ rw ends)

pub overflow_add-at : goal.overflow_add-at
overflow_add-at c = omega (arith, turn_fits c.args.label.now c.loop-at.at c.in-Some.length c.loop-at.invariant.0 c.in-Some.ensures.0 c.in-Some.ensures.1)

pub loop-at-preserved : goal.loop-at-preserved
loop-at-preserved c =
    let label : List ℕ = c.args.label.now in
    let octets : ℕ = c.args.octets.0 in
    let count : ℕ = c.args.characters.0 in
    let at : ℕ = c.loop-at.at in
    let n : ℕ = c.in-Some.length in
    let inv = c.loop-at.invariant in
    let found = c.in-Some.ensures.0 in
    let some = c.in-Some.ensures.1 in
    let starts = sym c.starts_character.ensures in
    let holds : Holds label octets count at n c.loop-at.begun c.loop-at.kept inv.0 inv.1 inv.2 inv.3 found some (at + n) c.if-starts_character.begun c.if-starts_character.kept =
    elim c.if-starts_character.branch [
      | then-starts_character w ↦
          elim w.if-at-octets.branch [
            | then-at-octets+then-begun-characters v ↦ rw (w.begun-is, w.kept-is, v.kept-is) (turned_whole label octets count at n c.loop-at.begun c.loop-at.kept inv.0 inv.1 inv.2 inv.3 found some (starts ∙ w.if-starts_character.true) v.if-at-octets.true v.if-begun-characters.true)
            | else-at-octets v ↦
                let over : (octets < at) ⊎ (count < c.loop-at.begun) = elim v.else-at-octets.branch [
                  | else-at-octets-via-then-at-octets+else-begun-characters u ↦ inr u.if-begun-characters.false
                  | else-at-octets-via-else-at-octets u ↦ inl u.if-at-octets.false
                ] in
                rw (w.begun-is, w.kept-is, v.kept-is) (turned_part label octets count at n c.loop-at.begun c.loop-at.kept inv.0 inv.1 inv.2 inv.3 found some (starts ∙ w.if-starts_character.true) over)
          ]
      | else-starts_character w ↦ rw (w.begun-is, w.kept-is) (joined label octets count at n c.loop-at.begun c.loop-at.kept inv.0 inv.1 inv.2 inv.3 found some (starts ∙ w.if-starts_character.false))
    ] in
    (turn_read label at n inv.0 found some, holds.0, holds.1, holds.2)

pub returns-then-begun-characters-2 : goal.returns-then-begun-characters-2
returns-then-begun-characters-2 c =
    let args = c.args in
    let label : List ℕ = args.label.now in
    let at : ℕ = c.loop-at.at in
    let inv = c.loop-at.invariant in
    let all : keep args.octets.0 args.characters.0 (characters (take at label)) ≡ characters (take at label) = all_kept args.octets.0 args.characters.0 label at inv.0 c.loop-at.begun inv.2 c.if-at-octets-2.true c.if-begun-characters-2.true in
    answered label args.octets.0 args.characters.0 at (counts_at at c.loop-at.begun) inv.0 c.loop-at-test.false (rw all (sym (read_octets label at inv.0), inv.2))

pub returns-else-at-octets-2 : goal.returns-else-at-octets-2
returns-else-at-octets-2 c =
    let args = c.args in
    let label : List ℕ = args.label.now in
    let at : ℕ = c.loop-at.at in
    let inv = c.loop-at.invariant in
    let over : (args.octets.0 < at) ⊎ (args.characters.0 < c.loop-at.begun) = elim c.else-at-octets-2.branch [
      | else-at-octets-2-via-then-at-octets-2+else-begun-characters-2 w ↦ inr w.if-begun-characters-2.false
      | else-at-octets-2-via-else-at-octets-2 w ↦ inl w.if-at-octets-2.false
    ] in
    answered label args.octets.0 args.characters.0 at c.loop-at.kept inv.0 c.loop-at-test.false (rw (part_kept args.octets.0 args.characters.0 label at inv.0 c.loop-at.begun inv.2 over) inv.3)
