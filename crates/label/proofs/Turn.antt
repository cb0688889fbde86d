-- One turn of a loop over a label's sequences: what it adds to the characters of the front part that is read, and to what is kept of it.
use mathlib.Core.Path.{◌≡◌, refl, sym, ap, ◌∙◌}
use mathlib.Core.Bool.{Bool, true, false, not, false≢true}
use mathlib.Core.List.{List, [], ◌∷◌, ◌++◌, append-nil, flatten}
use mathlib.Core.Logic.{◌⊎◌, ⊎_elim, inl, inr}
use Prim.Native.Nat.{ℕ, zero, suc, ◌+◌, ◌-◌, ◌≤◌, ◌<◌}
use native.Mathlib.Omega.{arith}
use lib.ListN.{length, take, drop, length-append, length-drop, take-append-drop}
use lib.Seq.{take-add, take-append_seam, length-take-le}
use Rattle.label.specs.Utf8.{sequence_length, sequences, well_formed_octets}
use Rattle.label.specs.Character.{is_combining_mark, combining_mark_at, starts_character, grouped, characters}
use Rattle.label.specs.Fitting.{keep}
use Rattle.label.proofs.Sequence.{sequence_fits}
use Rattle.label.proofs.Grouping.{LastGrown, grouped_first, grouped_more, grouped_mark}
use Rattle.label.proofs.Longest.{keep_part, keep_whole}
use Rattle.label.proofs.Run.{flatten_append, sequences-none, sequences_append, first_again}
use Rattle.label.proofs.Whole.{characters_octets}

-- the front part up to an offset is a run of whole sequences
abbrev pub ReadTo : List ℕ → ℕ → Type 0
ReadTo text at = (at ≤ length text) × (well_formed_octets (take at text) ≡ at)

sequences_empty : sequences [] ≡ []
sequences_empty = sequences-none [] (omega (arith, sequence_fits []))

pub read_none : (text : List ℕ) → ReadTo text 0
unfolding well_formed_octets flatten
read_none text = (omega arith, rw sequences_empty)

pub characters_empty : characters [] ≡ []
unfolding characters grouped
characters_empty = rw sequences_empty

module _ (text : List ℕ) (at : ℕ) (read : ReadTo text at) where
  read_length : length (take at text) ≡ at
  read_length = length-take-le at text read.0

  -- the characters of the front part have its octets
  pub read_octets : length (flatten (characters (take at text))) ≡ at
  unfolding well_formed_octets
  read_octets = ap length (characters_octets (take at text)) ∙ read.1

  -- where no sequence follows, the well-formed front part ends
  pub read_ended : sequence_length (drop at text) ≡ 0 → well_formed_octets text ≡ at
  unfolding well_formed_octets
  read_ended e =
      let whole : sequences text ≡ sequences (take at text) = ap sequences (sym (take-append-drop at text)) ∙ (sequences_append (take at text) (drop at text) (read.1 ∙ sym read_length) ∙ rw (sequences-none (drop at text) e) (append-nil (sequences (take at text)))) in
      ap (λ (run : List (List ℕ)). length (flatten run)) whole ∙ read.1

-- behind the whole text no sequence stands
pub read_all : (text : List ℕ) (at : ℕ) → length text ≤ at → sequence_length (drop at text) ≡ 0
read_all text at h = omega (arith, sequence_fits (drop at text), length-drop at text)

-- a run that has octets has sequences
some_run : (run : List (List ℕ)) (n : ℕ) → length (flatten run) ≡ suc n → 0 < length run
unfolding flatten
some_run [] n e = absurd (omega arith)
some_run (sequence ∷ run) n e = omega arith

-- a character that something joins has begun
pub some_begun : (text : List ℕ) (at : ℕ) (run : List (List ℕ)) → starts_character text at ≡ false → length (flatten run) ≡ at → 0 < length run
unfolding starts_character
some_begun text zero run joins octets = absurd (false≢true (sym joins))
some_begun text (suc at) run joins octets = some_run run at octets

-- whether a sequence at an offset, behind a run, starts a character
run_starts : (text : List ℕ) (at : ℕ) (run : List (List ℕ)) (sequence : List ℕ) → (at ≡ 0 → run ≡ []) → is_combining_mark sequence ≡ combining_mark_at (drop at text)
    → starts_character text at ≡ true → grouped (run ++ sequence ∷ []) ≡ grouped run ++ sequence ∷ []
unfolding starts_character grouped
run_starts text zero run sequence none here starts = rw (none refl) (grouped_first sequence)
run_starts text (suc at) run sequence none here starts = grouped_more run sequence (here ∙ not-true (combining_mark_at (drop (suc at) text)) starts)
  where
    not-true : (b : Bool) → not b ≡ true → b ≡ false
    not-true true e = absurd (false≢true e)
    not-true false e = refl

run_joins : (text : List ℕ) (at : ℕ) (run : List (List ℕ)) (sequence : List ℕ) → length (flatten run) ≡ at → is_combining_mark sequence ≡ combining_mark_at (drop at text)
    → starts_character text at ≡ false → LastGrown (grouped (run ++ sequence ∷ [])) (grouped run)
unfolding starts_character
run_joins text zero run sequence octets here joins = absurd (false≢true (sym joins))
run_joins text (suc at) run sequence octets here joins = grouped_mark run sequence (here ∙ not-false (combining_mark_at (drop (suc at) text)) joins) (some_run run at octets)
  where
    not-false : (b : Bool) → not b ≡ false → b ≡ true
    not-false true e = refl
    not-false false e = absurd (false≢true (sym e))

-- a sequence of n octets follows
module _ (text : List ℕ) (at n : ℕ) (read : ReadTo text at) (e : n ≡ sequence_length (drop at text)) (some : 0 < n) where
  abbrev sequence : List ℕ
  sequence = take n (drop at text)

  pub turn_fits : at + n ≤ length text
  turn_fits = omega (arith, sequence_fits (drop at text), length-drop at text, read.0)

  one : (n : ℕ) → n ≡ sequence_length (drop at text) → 0 < n → sequences (take n (drop at text)) ≡ take n (drop at text) ∷ []
  one zero e some = absurd (omega arith)
  one (suc m) e some = ap sequences (sym (append-nil (take (suc m) (drop at text)))) ∙ (first_again (drop at text) [] m (sym e) ∙ rw sequences_empty)

  turn_sequences : sequences (take (at + n) text) ≡ sequences (take at text) ++ sequence ∷ []
  turn_sequences = ap sequences (take-add at n text) ∙ (sequences_append (take at text) sequence (read.1 ∙ sym (read_length text at read)) ∙ rw (one n e some))

  pub turn_read : ReadTo text (at + n)
  unfolding well_formed_octets flatten
  turn_read =
      let octets : length (flatten (sequences (take at text) ++ sequence ∷ [])) ≡ at + n = ap length (flatten_append (sequences (take at text)) (sequence ∷ [])) ∙ rw (append-nil, length-append, read.1, length-take-le n (drop at text) (omega (arith, sequence_fits (drop at text)))) in
      (turn_fits, ap (λ (run : List (List ℕ)). length (flatten run)) turn_sequences ∙ octets)

  mark_here : is_combining_mark sequence ≡ combining_mark_at (drop at text)
  unfolding combining_mark_at
  mark_here = ap (λ (k : ℕ). is_combining_mark (take k (drop at text))) e

  -- it starts a character
  pub turn_starts : starts_character text at ≡ true → characters (take (at + n) text) ≡ characters (take at text) ++ sequence ∷ []
  unfolding characters
  turn_starts starts = ap grouped turn_sequences ∙ run_starts text at (sequences (take at text)) sequence (λ z. rw z sequences_empty) mark_here starts

  -- it joins the last one
  pub turn_joins : starts_character text at ≡ false → LastGrown (characters (take (at + n) text)) (characters (take at text))
  unfolding characters flatten well_formed_octets
  turn_joins joins = rw turn_sequences (run_joins text at (sequences (take at text)) sequence read.1 mark_here joins)

-- ---- what is kept

-- what is kept of the characters of a front part without its last one, which combining marks may still join
abbrev pub kept_before : ℕ → ℕ → List (List ℕ) → List (List ℕ)
kept_before octets count run = keep octets count (take (length run - 1) run)

-- with one character more, those before it may all be kept
pub before_more : (octets count : ℕ) (run : List (List ℕ)) (character : List ℕ) → kept_before octets count (run ++ character ∷ []) ≡ keep octets count run
before_more octets count run character =
    let less : length (run ++ character ∷ []) - 1 ≡ length run = omega (arith, length-append run (character ∷ [])) in
    rw less (ap (keep octets count) (take-append_seam run (character ∷ [])))

-- a mark more changes nothing of it
pub before_grown : (octets count : ℕ) (grown run : List (List ℕ)) → LastGrown grown run → 0 < length run → kept_before octets count grown ≡ kept_before octets count run
before_grown octets count grown run same some = rw same.0 (ap (keep octets count) (same.1 (length run - 1) (omega arith)))

-- all characters of the front part are kept if they are within both limits, and if not, those before the last may be
module _ (octets count : ℕ) (text : List ℕ) (at : ℕ) (read : ReadTo text at) (begun : ℕ) (counted : begun ≡ length (characters (take at text))) where
  pub all_kept : at ≤ octets → begun ≤ count → keep octets count (characters (take at text)) ≡ characters (take at text)
  all_kept h k = keep_whole octets count (characters (take at text)) (omega (arith, read_octets text at read)) (omega arith)

  pub part_kept : (octets < at) ⊎ (count < begun) → keep octets count (characters (take at text)) ≡ kept_before octets count (characters (take at text))
  part_kept over = keep_part octets count (characters (take at text)) (⊎_elim (λ (h : octets < at). inl (omega (arith, read_octets text at read))) (λ (h : count < begun). inr (omega arith)) over)
