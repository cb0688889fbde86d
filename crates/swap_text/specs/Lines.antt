-- The lines of `swaplist` (01, Swap file).
use Rattle.std.specs.Prelude.{ℕ, List, [], ◌∷◌, ◌++◌, length}
use Rattle.numbers.specs.declared.Characters.{Characters}
use Rattle.numbers.specs.Answer.{Answer, given, refused, refused_at}
use Rattle.text.specs.Text.{hex_text, decimal_text}
use Rattle.text.specs.Quoted.{quoted}
use Rattle.label.specs.Fitting.{measured}
use Rattle.swap.specs.declared.kind.Kind.{Kind}
use Rattle.swap.specs.declared.kind.Kind.TheVariants.{Raw, Label, Long}
use Rattle.swap.specs.Record.{Record, kind_of}
use Rattle.swap.specs.Reading.{FileListing, faulty, listed}

abbrev pub line_of : List ℕ → List ℕ
line_of text = text ++ quoted "\n"

-- 01, Swap file: "records 2"
unfoldable pub count_line : ℕ → List ℕ
count_line records = line_of (quoted "records " ++ decimal_text records)

-- 01, Swap file: "for a fault one line, as `refused 18 at 0`"
unfoldable pub refusal_line : ℕ → List ℕ
refusal_line offset = line_of (quoted "refused 18 at " ++ decimal_text offset)

-- the character count of a text that has one: of ill-formed text, which no record of a swap file holds, nothing is said
unfoldable pub characters_text : Answer Characters → List ℕ
characters_text (given count) = quoted " characters " ++ decimal_text count.0
characters_text (refused n) = []
characters_text (refused_at n offset) = []

-- 01, Swap file: "label octets 4 characters 3", "raw octets 2"; 02, E10: "`swaplist` shows `long octets` with the length"
unfoldable pub kind_text : Kind → List ℕ → List ℕ
kind_text Raw content = quoted " raw octets " ++ decimal_text (length content)
kind_text Label content = (quoted " label octets " ++ decimal_text (length content)) ++ characters_text (measured content)
kind_text Long content = quoted " long octets " ++ decimal_text (length content)

-- ADS and TAB; 01, Swap file: "112233445566 0A"
unfoldable pub name_text : List ℕ → ℕ → List ℕ
name_text ads tab = hex_text ads ++ (quoted " " ++ hex_text (tab ∷ []))

unfoldable pub record_line : List ℕ → ℕ → Kind → List ℕ → List ℕ
record_line ads tab kind content = line_of (name_text ads tab ++ kind_text kind content)

-- the most octets that a line has: ADS and TAB 15, two counts of twenty digits with their words 66, and the line feed
abbrev pub longest_line : ℕ
longest_line = 82

unfoldable pub record_lines : List Record → List ℕ
record_lines [] = []
record_lines (r ∷ rs) = record_line r.ads r.tab (kind_of r.kind) r.content ++ record_lines rs

-- all that `swaplist` prints, by what reading the file comes to
unfoldable pub listing : FileListing → List ℕ
listing (faulty o) = refusal_line o
listing (listed rs) = count_line (length rs) ++ record_lines rs
