-- Which data is acceptable to a record (01, The card: "Data is acceptable to a record if ..").
use Rattle.std.specs.Prelude.{ℕ, Bool, cond, ◌||◌, List, ltb, length, take}
use Rattle.numbers.specs.Table.{too_long, too_many_characters}
use Rattle.numbers.specs.Counts.{in_octets, in_characters}
use Rattle.numbers.specs.Answer.{Answer, given, refused, refused_at}
use Rattle.label.specs.Fitting as label
use Rattle.numbers.specs.declared.Characters.{Characters}
use Rattle.numbers.specs.declared.Octets.{Octets}
use Rattle.records.specs.declared.Kind.TheVariants.{Raw, Label}
use Rattle.records.specs.declared.Kind.{Kind}
use Rattle.records.specs.declared.Attributes.{Attributes}
use Rattle.records.specs.declared.Record.{Record}
use Rattle.records.specs.Sizes.{most_octets}

abbrev pub length_of : List ℕ → Octets
length_of d = in_octets (length d)

-- more octets than the limit allows, or than any limit may allow
abbrev pub over_long : Octets → Octets → Bool
over_long limit octets = ltb most_octets octets.0 || ltb limit.0 octets.0

-- "well-formed UTF-8 (8) and within the character limit (9), in that order"
abbrev pub text_answer : Characters → Answer Characters → Answer Characters
text_answer limit (given characters) = cond (ltb limit.0 characters.0) (refused too_many_characters) (given characters)
text_answer limit (refused n) = refused n
text_answer limit (refused_at n offset) = refused n

-- only a label is text: of raw data no characters are counted
abbrev pub kind_answer : Kind → List ℕ → Answer Characters
kind_answer Raw d = given (in_characters 0)
kind_answer (Label limit) d = text_answer limit (label.measured d)

-- "within the octet limit (7) and, for a label, ..": the character count of the data
unfoldable pub acceptable : Attributes → List ℕ → Answer Characters
acceptable a d = cond (over_long a.limit (length_of d)) (refused too_long) (kind_answer a.kind d)

-- what a record holds
abbrev pub contents : Record → List ℕ
contents r = take r.length.0 r.storage

-- the contents as data for the record, where a length over the octet limit is over-long data
unfoldable pub contents_answer : Record → Answer Characters
contents_answer r = cond (over_long r.attributes.limit r.length) (refused too_long) (acceptable r.attributes (contents r))
