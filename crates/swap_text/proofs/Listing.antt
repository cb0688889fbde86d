-- What the lines say: 01's example, the line of a record that an entry of a file shows, and a label's own two counts.
use mathlib.Core.Path.{◌≡◌, refl}
use mathlib.Core.Bool.{true}
use mathlib.Core.List.{List, [], ◌∷◌, ◌++◌, flatten}
use Prim.Native.Nat.{ℕ}
use lib.ListN.{length}
use Rattle.label.specs.Utf8.{table, begins, row_at, sequence_length, sequences_from, sequences, well_formed_octets, well_formed}
use Rattle.label.specs.CodePoint.{code_point}
use Rattle.label.specs.Character.{is_combining_mark, joined_to, grouped, characters}
use Rattle.label.specs.Fitting.{judged, measured}
use Rattle.label.proofs.Laws.{measured-well_formed}
use Rattle.number.specs.Groups.{groups, joined, decoded, bounded, front_number}
use Rattle.swap.specs.declared.item.Entry.{Entry}
use Rattle.swap.specs.declared.kind.Kind.TheVariants.{Label, Long}
use Rattle.swap.specs.Record.{Record, known_kind, kind_of, length_limit, fits_kind, number_from, rank_of}
use Rattle.swap.specs.Items as items
use Rattle.swap.specs.Items.{good_address, good_kind, limited, length_field, good_content, judged_content, front_record}
use Rattle.swap.specs.Reading.{preceded, read_records, read_counted, read_file}
use Rattle.swap.proofs.KindOctets.{kind_kept}
use Rattle.swap.specs.Cursor.{ads_of, content_of, Shows}
use Rattle.text.specs.Text.{digit_of, hex_text, decimal, decimal_text}
use Rattle.text.specs.Quoted.{quoted}
use Rattle.swap_text.specs.Lines.{count_line, refusal_line, characters_text, kind_text, name_text, record_line, record_lines, listing}

-- 01, Swap file: "02 112233445566 0A 01 04 5A6FC3A9 112233445566 0B 00 02 00FF"
abbrev pub example : List ℕ
example =
    0x02 ∷ 0x11 ∷ 0x22 ∷ 0x33 ∷ 0x44 ∷ 0x55 ∷ 0x66 ∷ 0x0A ∷ 0x01 ∷ 0x04 ∷ 0x5A ∷ 0x6F ∷ 0xC3 ∷ 0xA9 ∷
    0x11 ∷ 0x22 ∷ 0x33 ∷ 0x44 ∷ 0x55 ∷ 0x66 ∷ 0x0B ∷ 0x00 ∷ 0x02 ∷ 0x00 ∷ 0xFF ∷ []

-- 02, E1: Zoé with e and U+0301
abbrev pub accent_example : List ℕ
accent_example = 0x01 ∷ 0x11 ∷ 0x22 ∷ 0x33 ∷ 0x44 ∷ 0x55 ∷ 0x66 ∷ 0x0A ∷ 0x01 ∷ 0x05 ∷ 0x5A ∷ 0x6F ∷ 0x65 ∷ 0xCC ∷ 0x81 ∷ []

-- 02, E10: a long record, of octets that are no text
abbrev pub curve_example : List ℕ
curve_example = 0x01 ∷ 0x11 ∷ 0x22 ∷ 0x33 ∷ 0x44 ∷ 0x55 ∷ 0x66 ∷ 0x0C ∷ 0x02 ∷ 0x03 ∷ 0x01 ∷ 0x86 ∷ 0xA0 ∷ []

-- 01, Swap file: "it prints exactly"; five octets are three characters as well as four are
pub example_listed :
    (listing (read_file example) ≡ quoted "records 2\n112233445566 0A label octets 4 characters 3\n112233445566 0B raw octets 2\n")
    × (listing (read_file accent_example) ≡ quoted "records 1\n112233445566 0A label octets 5 characters 3\n")
    × (listing (read_file curve_example) ≡ quoted "records 1\n112233445566 0C long octets 3\n")
unfolding listing count_line record_lines record_line name_text kind_text characters_text hex_text digit_of decimal_text decimal read_file read_counted read_records preceded items.judged good_address good_kind length_field limited good_content judged_content front_record known_kind kind_of length_limit fits_kind rank_of number_from front_number bounded decoded joined groups measured judged characters grouped joined_to is_combining_mark code_point well_formed well_formed_octets sequences sequences_from sequence_length row_at begins table flatten
example_listed = (refl, refl, refl)

-- a file whose count is in a longer form
pub example_refused : listing (read_file (0x81 ∷ 0x00 ∷ [])) ≡ quoted "refused 18 at 0\n"
unfolding listing refusal_line decimal_text decimal read_file read_counted limited front_number bounded decoded joined
example_refused = refl

-- the line of an entry is that of the record which the entry stands for
pub entry_line : (s : List ℕ) (e : Entry) (r : Record) → Shows s e r → record_line (ads_of s e) e.tab e.kind (content_of s e) ≡ record_line r.ads r.tab (kind_of r.kind) r.content
entry_line s e r h = let k = (kind_kept e.kind).1 in cc

-- a label of a swap file is listed with its own two counts
pub label_line : (content : List ℕ) → well_formed content ≡ true → kind_text Label content ≡ (quoted " label octets " ++ decimal_text (length content)) ++ (quoted " characters " ++ decimal_text (length (characters content)))
unfolding kind_text characters_text
label_line content h = rw (measured-well_formed content h)

-- the longest is listed with all of its length
pub longest_line : (content : List ℕ) → length content ≡ 4096 → record_line (0x11 ∷ 0x22 ∷ 0x33 ∷ 0x44 ∷ 0x55 ∷ 0x66 ∷ []) 0x0C Long content ≡ quoted "112233445566 0C long octets 4096\n"
unfolding record_line name_text kind_text hex_text digit_of decimal_text decimal
longest_line content h = rw h
