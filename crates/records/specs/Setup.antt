-- The rules of setup on records, and the records that break none (01, The card).
use Rattle.std.specs.Prelude.{ℕ, zero, suc, ◌≤◌, ◌<◌, Bool, true, false, not, ◌&&◌, ◌||◌, List, [], ◌∷◌, ◌≡◌, leb, eqb, length, replicate}
use Rattle.numbers.specs.Table.{none}
use Rattle.numbers.specs.Answer.{number_of}
use Rattle.records.specs.declared.Kind.TheVariants.{Raw, Label}
use Rattle.records.specs.declared.Kind.{Kind}
use Rattle.records.specs.declared.Attributes.{Attributes}
use Rattle.records.specs.declared.Record.{Record}
use Rattle.records.specs.declared.Records.{Records}
use Rattle.records.specs.Sizes.{most_records, most_octets, most_characters}
use Rattle.records.specs.Judging.{acceptable, contents, contents_answer}
use Rattle.records.specs.Finding.{used, attributes_of, blank_attributes, record_at}

-- "for labels a character limit": a raw record has none
abbrev pub character_limit : Kind → ℕ
character_limit Raw = 0
character_limit (Label limit) = limit.0

-- "limits in range"
abbrev pub keeps_limits : Attributes → Bool
keeps_limits a = leb a.limit.0 most_octets && leb (character_limit a.kind) most_characters

unfoldable pub all_keep_limits : List Attributes → Bool
all_keep_limits [] = true
all_keep_limits (a ∷ l) = keeps_limits a && all_keep_limits l

-- whether a record of the list has this TAB
unfoldable pub present : ℕ → List Attributes → Bool
present t [] = false
present t (a ∷ l) = eqb a.tab t || present t l

-- "no TAB twice"
unfoldable pub tabs_apart : List Attributes → Bool
tabs_apart [] = true
tabs_apart (a ∷ l) = not (present a.tab l) && tabs_apart l

-- "at most 32 records, no TAB twice, known kinds, limits in range (12)"; the type of a kind has no unknown one
unfoldable pub keeps_rules : Records → Bool
keeps_rules s = leb s.count most_records && tabs_apart (attributes_of s) && all_keep_limits (attributes_of s)

-- the first of two numbers, unless it is none
unfoldable pub first_number : ℕ → ℕ → ℕ
first_number zero next = next
first_number (suc n) next = suc n

-- "then each content in turn"
unfoldable pub contents_number : List Record → ℕ
contents_number [] = none
contents_number (r ∷ l) = first_number (number_of (contents_answer r)) (contents_number l)

-- whether the records break no setup rule, contents included
unfoldable pub sound : Records → Bool
sound s = keeps_rules s && eqb (contents_number (used s)) none

-- what `keeps_rules` tests, record by record
pub record Rules (s : Records) : Type 0 where
  pub few : s.count ≤ most_records
  pub apart : (i j : ℕ) → i < length (used s) → j < length (used s) → (record_at s i).attributes.tab ≡ (record_at s j).attributes.tab → i ≡ j
  pub octet_limits : (i : ℕ) → i < length (used s) → (record_at s i).attributes.limit.0 ≤ most_octets
  pub character_limits : (i : ℕ) → i < length (used s) → character_limit (record_at s i).attributes.kind ≤ most_characters

-- what `sound` tests, record by record: nothing else makes records unsound
pub record Sound (s : Records) : Type 0 where
  pub rules : Rules s
  pub lengths : (i : ℕ) → i < length (used s) → (record_at s i).length.0 ≤ (record_at s i).attributes.limit.0
  pub accepted : (i : ℕ) → i < length (used s) → number_of (acceptable (record_at s i).attributes (contents (record_at s i))) ≡ none

-- no record is in use, and every octet is 0
abbrev pub empty : Records
empty = record { count = 0; each = replicate most_records (record { attributes = blank_attributes; length = record { 0 = 0 }; storage = replicate most_octets 0 }) }
