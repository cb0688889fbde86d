-- Where characters end, and how many a text has (02, E1), in other words than the definition's: by the combining marks that stand in the text.
use mathlib.Core.Path.{◌≡◌, refl, sym, ap, ◌∙◌}
use mathlib.Core.Bool.{Bool, true, false, cond}
use mathlib.Core.List.{List, [], ◌∷◌, ◌++◌, flatten}
use Prim.Native.Nat.{ℕ, zero, suc, ◌+◌, ◌≤◌, ◌<◌}
use native.Mathlib.Omega.{arith}
use lib.ListN.{length, take, drop, take-append-drop}
use lib.Seq.{take-append_seam, length-take-le}
use Rattle.label.specs.Utf8.{sequence_length, sequences, well_formed_octets, well_formed}
use Rattle.label.specs.CodePoint.{code_point}
use Rattle.label.specs.Character.{is_combining_mark, combining_mark_at, joined_to, grouped, characters, WholeCharacters}
use Rattle.label.proofs.Grouping.{starts_with_mark, grouped_append, FirstSequences, first_sequences}
use Rattle.label.proofs.Run.{sequences-none, sequences_step, sequences_append, well_formed_octets_lem}
use Rattle.label.proofs.Whole.{characters_octets, characters_whole, firsts_behind}

-- the run of a text's sequences starts with a combining mark if one stands at the text's start
mark_starts : (text : List ℕ) → starts_with_mark (sequences text) ≡ combining_mark_at text
unfolding starts_with_mark combining_mark_at is_combining_mark code_point
mark_starts text = by_length (sequence_length text) refl
  where
    by_length : (n : ℕ) → sequence_length text ≡ n → starts_with_mark (sequences text) ≡ combining_mark_at text
    by_length zero e = rw (sequences-none text e, e)
    by_length (suc m) e = rw (sequences_step text m e, e)

-- ---- where characters end

-- the octets of all characters end where the longest well-formed front part does
pub offset_characters : (text : List ℕ) → length (flatten (characters text)) ≡ well_formed_octets text
unfolding well_formed_octets
offset_characters text = ap length (characters_octets text)

module _ (text : List ℕ) (n : ℕ) where
  -- no combining mark stands right behind one or more whole characters
  pub boundary_clear : n ≤ length text → 0 < n → WholeCharacters text (take n text) → combining_mark_at (drop n text) ≡ false
  unfolding flatten
  boundary_clear h some whole = by_count whole.count whole.made
    where
      octets : length (take n text) ≡ n
      octets = length-take-le n text h

      by_count : (count : ℕ) → take n text ≡ flatten (take count (characters text)) → combining_mark_at (drop n text) ≡ false
      by_count zero made = absurd (omega (arith, octets, ap length made))
      by_count (suc count) made =
          let first : FirstSequences (sequences text) count = first_sequences (sequences text) count in
          let ends : length (flatten (take (suc count) (characters text))) ≡ n = sym (ap length made) ∙ octets in
          let behind : sequences (drop n text) ≡ drop first.many (sequences text) = ap (λ (k : ℕ). sequences (drop k text)) (sym ends) ∙ firsts_behind text count first in
          sym (mark_starts (drop n text)) ∙ (ap starts_with_mark behind ∙ first.clear)

  -- where none stands behind a well-formed front part, its characters and those of the rest are the text's
  pub boundary_characters : well_formed (take n text) ≡ true → combining_mark_at (drop n text) ≡ false → characters text ≡ characters (take n text) ++ characters (drop n text)
  unfolding characters
  boundary_characters w none =
      let run : sequences text ≡ sequences (take n text) ++ sequences (drop n text) = ap sequences (sym (take-append-drop n text)) ∙ sequences_append (take n text) (drop n text) (well_formed_octets_lem (take n text) w) in
      ap grouped run ∙ grouped_append (sequences (take n text)) (sequences (drop n text)) (mark_starts (drop n text) ∙ none)

  -- so the front part is made of whole characters
  pub boundary_whole : well_formed (take n text) ≡ true → combining_mark_at (drop n text) ≡ false → WholeCharacters text (take n text)
  boundary_whole w none =
      let own : List (List ℕ) = characters (take n text) in
      let first : take (length own) (characters text) ≡ own = ap (take (length own)) (boundary_characters w none) ∙ take-append_seam own (characters (drop n text)) in
      record { count = length own; made = sym (ap flatten first ∙ characters_whole (take n text) w) }

-- ---- how many characters there are

-- how many sequences of a run are no combining marks
unfoldable pub unmarked : List (List ℕ) → ℕ
unmarked [] = 0
unmarked (sequence ∷ run) = cond (is_combining_mark sequence) (unmarked run) (suc (unmarked run))

joined_count : (held : List ℕ) (run : List (List ℕ)) → length (joined_to held run) ≡ suc (unmarked run)
unfolding joined_to unmarked
joined_count held [] = refl
joined_count held (sequence ∷ run) = told (is_combining_mark sequence) (λ octets. joined_count octets run)
  where
    told : (b : Bool) → ((octets : List ℕ) → length (joined_to octets run) ≡ suc (unmarked run)) → length (cond b (joined_to (held ++ sequence) run) (held ∷ joined_to sequence run)) ≡ suc (cond b (unmarked run) (suc (unmarked run)))
    told true rest = rest (held ++ sequence)
    told false rest = ap suc (rest sequence)

-- there are as many characters as sequences that are no combining marks, and one more if a combining mark starts the text
pub count_unmarked : (text : List ℕ) → length (characters text) ≡ cond (combining_mark_at text) 1 0 + unmarked (sequences text)
unfolding characters grouped starts_with_mark unmarked
count_unmarked text = rw (mark_starts text) at (by_run (sequences text))
  where
    started : (b : Bool) (n : ℕ) → suc n ≡ cond b 1 0 + cond b n (suc n)
    started true n = omega arith
    started false n = omega arith

    by_run : (run : List (List ℕ)) → length (grouped run) ≡ cond (starts_with_mark run) 1 0 + unmarked run
    by_run [] = refl
    by_run (sequence ∷ run) = joined_count sequence run ∙ started (is_combining_mark sequence) (unmarked run)

unmarked_few : (run : List (List ℕ)) → unmarked run ≤ length run
unfolding unmarked
unmarked_few [] = omega arith
unmarked_few (sequence ∷ run) = told (is_combining_mark sequence) (unmarked_few run)
  where
    told : (b : Bool) → unmarked run ≤ length run → cond b (unmarked run) (suc (unmarked run)) ≤ suc (length run)
    told true h = omega arith
    told false h = omega arith

-- there are never more characters than sequences, which 01 called characters before 02, E1
pub count_falls : (text : List ℕ) → length (characters text) ≤ length (sequences text)
unfolding characters grouped
count_falls text = by_run (sequences text)
  where
    by_run : (run : List (List ℕ)) → length (grouped run) ≤ length run
    by_run [] = omega arith
    by_run (sequence ∷ run) = omega (arith, joined_count sequence run, unmarked_few run)
