-- Measuring a text and fitting a label (01, Labels; 02, E1), and the number and values of document 01 that each answer stands for.
use Rattle.std.specs.Prelude.{cond, ℕ, zero, suc, ◌-◌, ◌≤◌, leb, length, take, Result, Ok, Err}
use mathlib.Core.List.{List, [], ◌∷◌, flatten}
use Rattle.numbers.specs.Table.{ill_formed}
use Rattle.numbers.specs.Counts.{in_octets, in_characters}
use Rattle.numbers.specs.Answer.{Answer, given, refused_at}
use Rattle.numbers.specs.declared.Octets.{Octets}
use Rattle.numbers.specs.declared.Characters.{Characters}
use Rattle.label.specs.declared.IllFormed.{IllFormed}
use Rattle.label.specs.declared.Counts.{Counts}
use Rattle.label.specs.Utf8.{well_formed, well_formed_octets}
use Rattle.label.specs.Character.{characters, WholeCharacters}

abbrev pub answer_of_text : Result Characters IllFormed → Answer Characters
answer_of_text (Ok count) = given count
answer_of_text (Err fault) = refused_at ill_formed fault.0

abbrev pub answer_of_fitting : Result Counts IllFormed → Answer (Octets × Characters)
answer_of_fitting (Ok kept) = given (kept.octets, kept.characters)
answer_of_fitting (Err fault) = refused_at ill_formed fault.0

-- 01, Labels: ill-formed text anywhere is 8, with the offset at which the longest well-formed front part ends
unfoldable pub judged : {Values : Type 0} → List ℕ → Values → Answer Values
judged text values = cond (well_formed text) (given values) (refused_at ill_formed (in_octets (well_formed_octets text)))

-- a text's own character count, or 8 with the offset
unfoldable pub measured : List ℕ → Answer Characters
measured text = judged text (in_characters (length (characters text)))

-- the longest front part of a run of characters within an octet limit and a character limit
unfoldable pub keep : ℕ → ℕ → List (List ℕ) → List (List ℕ)
keep octets count [] = []
keep octets zero (character ∷ run) = []
keep octets (suc count) (character ∷ run) = cond (leb (length character) octets) (character ∷ keep (octets - length character) count run) []

unfoldable pub kept_characters : List ℕ → Octets → Characters → List (List ℕ)
kept_characters label octets count = keep octets.0 count.0 (characters label)

-- how many octets and how many characters a run of characters has
abbrev pub counts_of : List (List ℕ) → Octets × Characters
counts_of run = (in_octets (length (flatten run)), in_characters (length run))

-- 01's term Fitting: the kept part's own two counts, or 8 with the offset
unfoldable pub fit_of : List ℕ → Octets → Characters → Answer (Octets × Characters)
fit_of label octets count = judged label (counts_of (kept_characters label octets count))

-- the kept front part of the label: the empty part if the label is ill-formed
unfoldable pub kept_part : List ℕ → Octets → Characters → List ℕ
kept_part label octets count = cond (well_formed label) (flatten (kept_characters label octets count)) []

-- the front part of a label that a fitting keeps
abbrev pub front_of : List ℕ → Result Counts IllFormed → List ℕ
front_of label (Ok kept) = take kept.octets.0 label
front_of label (Err fault) = []

-- 00, demand 2: a cut label is the longest run of whole characters from its start within both its limits
pub record Longest (label : List ℕ) (octets : Octets) (count : Characters) (part : List ℕ) : Type 0 where
  pub whole : WholeCharacters label part
  pub within_octets : length part ≤ octets.0
  pub within_characters : length (characters part) ≤ count.0
  pub longest : (other : List ℕ) → WholeCharacters label other → length other ≤ octets.0 → length (characters other) ≤ count.0 → length other ≤ length part
