-- The record that a TAB names, among the records in use (01, The card).
use Rattle.std.specs.Prelude.{ℕ, suc, false, cond, List, [], ◌∷◌, map, ltb, eqb, length, take, get_or}
use Rattle.numbers.specs.Table.{no_record, not_open}
use Rattle.numbers.specs.Answer.{Answer, given, refused, when_given}
use Rattle.records.specs.declared.Kind.TheVariants.{Raw}
use Rattle.records.specs.declared.Attributes.{Attributes}
use Rattle.records.specs.declared.Record.{Record}
use Rattle.records.specs.declared.Records.{Records}

-- the records in use
abbrev pub used : Records → List Record
used s = take s.count s.each

-- what setup gave the records in use besides their contents: all that finding, reading and granting a write go by
unfoldable pub attributes_of : Records → List Attributes
attributes_of s = map (λ r. r.attributes) (used s)

-- what an index past a list's end gives
abbrev pub blank_attributes : Attributes
blank_attributes = record { tab = 0; kind = Raw; limit = record { 0 = 0 }; readable = false; programming = false; transfer = false }

abbrev pub blank : Record
blank = record { attributes = blank_attributes; length = record { 0 = 0 }; storage = [] }

abbrev pub record_at : Records → ℕ → Record
record_at s i = get_or s.each i blank

-- how many stand before the first with this TAB
unfoldable pub index_of : ℕ → List Attributes → ℕ
index_of t [] = 0
index_of t (a ∷ l) = cond (eqb a.tab t) 0 (suc (index_of t l))

-- "tests first that the record exists (10)"
unfoldable pub find : List Attributes → ℕ → Answer ℕ
find l t = cond (ltb (index_of t l) (length l)) (given (index_of t l)) (refused no_record)

-- "missing (10) or not readable (11)"
unfoldable pub find_readable : List Attributes → ℕ → Answer ℕ
find_readable l t = when_given (find l t) (λ i. cond (get_or l i blank_attributes).readable (given i) (refused not_open))
