-- What a character is (02, E1), and the front parts of a text that are made of whole characters. Everything else goes by these names and their laws.
use Rattle.std.specs.Prelude.{◌≡◌, Bool, true, not, cond, ℕ, zero, suc, take, drop}
use mathlib.Core.List.{List, [], ◌∷◌, ◌++◌, flatten}
use Rattle.label.specs.Utf8.{Range, ◌to◌, in_range, sequence_length, sequences}
use Rattle.label.specs.CodePoint.{code_point}

-- 02, E1: U+0300 to U+036F, which 02 calls marks; Unicode's name of these is combining diacritical marks
abbrev pub combining_marks : Range
combining_marks = 0x0300 to 0x036F

-- whether a well-formed sequence is for one of them
unfoldable pub is_combining_mark : List ℕ → Bool
is_combining_mark sequence = in_range combining_marks (code_point sequence)

-- whether one of them stands at the text's start
unfoldable pub combining_mark_at : List ℕ → Bool
combining_mark_at text = is_combining_mark (take (sequence_length text) text)

-- whether a character starts at an offset of the text where a sequence stands: at the text's start, and wherever that sequence is no combining mark
unfoldable pub starts_character : List ℕ → ℕ → Bool
starts_character text zero = true
starts_character text (suc at) = not (combining_mark_at (drop (suc at) text))

-- "a well-formed sequence and all sequences for U+0300 to U+036F that directly follow it": the characters of a run behind `held`, the octets of the character under way
unfoldable pub joined_to : List ℕ → List (List ℕ) → List (List ℕ)
joined_to held [] = held ∷ []
joined_to held (sequence ∷ run) = cond (is_combining_mark sequence) (joined_to (held ++ sequence) run) (held ∷ joined_to sequence run)

-- how sequences make up characters; the first one starts a character whatever it is: "a mark that starts a label is a character with the marks after it"
unfoldable pub grouped : List (List ℕ) → List (List ℕ)
grouped [] = []
grouped (sequence ∷ run) = joined_to sequence run

-- the characters that a text starts with, each with its octets
unfoldable pub characters : List ℕ → List (List ℕ)
characters text = grouped (sequences text)

-- a front part of a text that is made of whole characters
pub record WholeCharacters (text part : List ℕ) : Type 0 where
  pub count : ℕ
  pub made : part ≡ flatten (take count (characters text))
