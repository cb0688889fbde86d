-- The rows of 01, Measured on the bench, that are marked P, in the paper's order; then rows of our own for 02's requests. What a row leaves open, it holds for all of.
use Rattle.std.specs.Prelude.{◌≡◌, List, [], ◌∷◌, ◌++◌, ℕ, ◌-◌, ◌^◌, ◌≤◌, length}
use Rattle.numbers.specs.declared.Octets.{Octets}
use Rattle.numbers.specs.declared.Characters.{Characters}
use Rattle.numbers.specs.Counts.{in_octets, in_characters}
use Rattle.numbers.specs.Answer.{Answer, given, refused, refused_at}
use Rattle.numbers.specs.Table.{too_long, ill_formed, faulty_file}
use Rattle.label.specs.Fitting.{fit_of}
use Rattle.frame.specs.declared.codes.Command.{Command}
use Rattle.frame.specs.declared.codes.Command.TheVariants.{Rec, Trf}
use Rattle.frame.specs.declared.content.Fields.{Fields}
use Rattle.frame.specs.Sizes.{longest_frame}
use Rattle.frame.specs.Content.{Shaped}
use Rattle.frame.specs.Building.{built}
use Rattle.number.specs.Groups.{encoded, found, none as not_a_number, front_number}
use Rattle.swap.specs.declared.file.RecordCount.{RecordCount}
use Rattle.swap.specs.Record.{file_limit}
use Rattle.swap.specs.Reading.{verdict_of}

-- a limit that a row names, or one that it leaves open
pub data Limit : Type 0 where
  exactly : ℕ → Limit
  any : Limit

abbrev pub Allows : Limit → ℕ → Type 0
Allows (exactly limit) n = n ≡ limit
Allows any n = Unit {0}

pub data Row : Type 0 where
  -- a command with so many octets of DATA, and what building it answers: for every ADS, ADP, TAB and other field, all data, and every buffer of a whole frame's length or more
  builds : Command → ℕ → Answer Octets → Row
  -- a label, its octet limit and its character limit, and what fitting answers
  fits : List ℕ → Limit → Limit → Answer (Octets × Characters) → Row
  -- a number, and its octets in the swap file: it is written so, and read so whatever follows
  encodes : ℕ → List ℕ → Row
  -- octets with which no number begins, whatever follows
  unnumbered : List ℕ → Row
  -- how a swap file begins, and what reading it answers, whatever follows within the file's limit
  judges : List ℕ → Answer RecordCount → Row

-- what a row says
abbrev pub Holds : Row → Type 0
Holds (builds command count answer) =
    (buffer : List ℕ) (fields : Fields) (content : List ℕ) → longest_frame ≤ length buffer → Shaped fields → length content ≡ count → (built buffer command fields content).answer ≡ answer
Holds (fits label octet_limit character_limit answer) =
    (octets characters : ℕ) → Allows octet_limit octets → Allows character_limit characters → fit_of label (in_octets octets) (in_characters characters) ≡ answer
Holds (encodes n octets) = (encoded n ≡ octets) × ((rest : List ℕ) → front_number (octets ++ rest) ≡ found n (length octets))
Holds (unnumbered octets) = (rest : List ℕ) → front_number (octets ++ rest) ≡ not_a_number
Holds (judges front answer) = (rest : List ℕ) → length (front ++ rest) ≤ file_limit → verdict_of (front ++ rest) ≡ answer

-- each row of a list holds
pub data Each : List Row → Type 0 where
  none : Each []
  next : {row : Row} {rows : List Row} → Holds row → Each rows → Each (row ∷ rows)

-- so many octets and so many characters are kept
abbrev pub kept : ℕ → ℕ → Answer (Octets × Characters)
kept octets characters = given (in_octets octets, in_characters characters)

-- a frame of so many octets
abbrev pub whole : ℕ → Answer Octets
whole octets = given (in_octets octets)

-- 8 with the offset
abbrev pub ill_formed_at : ℕ → Answer (Octets × Characters)
ill_formed_at offset = refused_at ill_formed (in_octets offset)

-- É and é, of two octets each
abbrev pub two_letters : List ℕ
two_letters = 0xC3 ∷ 0x89 ∷ 0xC3 ∷ 0xA9 ∷ []

-- e and U+0301 after it, as some suppliers send é
abbrev pub letter_with_accent : List ℕ
letter_with_accent = 0x65 ∷ 0xCC ∷ 0x81 ∷ []

-- Z, o and these
abbrev pub name_with_accent : List ℕ
name_with_accent = 0x5A ∷ 0x6F ∷ letter_with_accent

-- how a file of one record begins, up to its kind
abbrev pub one_record : List ℕ
one_record = 0x01 ∷ 0x11 ∷ 0x22 ∷ 0x33 ∷ 0x44 ∷ 0x55 ∷ 0x66 ∷ 0x0A ∷ []

abbrev pub rows : List Row
rows =
    builds Trf 116 (whole 128) ∷
    builds Trf 117 (refused too_long) ∷
    builds Rec 100 (whole 128) ∷
    builds Rec 101 (refused too_long) ∷
    fits two_letters (exactly 3) (exactly 9) (kept 2 1) ∷
    fits two_letters (exactly 4) (exactly 1) (kept 2 1) ∷
    fits two_letters (exactly 1) (exactly 9) (kept 0 0) ∷
    fits [] any any (kept 0 0) ∷
    fits (0xE2 ∷ 0x82 ∷ 0xAC ∷ []) (exactly 2) any (kept 0 0) ∷
    fits (0x41 ∷ 0xC3 ∷ []) any any (ill_formed_at 1) ∷
    fits (0xC0 ∷ 0x80 ∷ []) any any (ill_formed_at 0) ∷
    fits (0xED ∷ 0xA0 ∷ 0x80 ∷ []) any any (ill_formed_at 0) ∷
    fits (0xF4 ∷ 0x90 ∷ 0x80 ∷ 0x80 ∷ []) any any (ill_formed_at 0) ∷
    encodes 4096 (0x80 ∷ 0x20 ∷ []) ∷
    judges (0x81 ∷ 0x00 ∷ []) (refused_at faulty_file (in_octets 0)) ∷
    -- 02, E1: a letter, or anything else, is kept with its marks or not at all
    fits letter_with_accent (exactly 1) any (kept 0 0) ∷
    fits letter_with_accent (exactly 2) any (kept 0 0) ∷
    fits letter_with_accent (exactly 3) (exactly 0) (kept 0 0) ∷
    fits letter_with_accent (exactly 3) (exactly 1) (kept 3 1) ∷
    fits name_with_accent (exactly 4) (exactly 9) (kept 2 2) ∷
    fits name_with_accent (exactly 5) (exactly 2) (kept 2 2) ∷
    fits name_with_accent (exactly 5) (exactly 3) (kept 5 3) ∷
    fits (0x20 ∷ 0xCC ∷ 0x81 ∷ []) (exactly 2) any (kept 0 0) ∷
    -- 02, E1: marks that start a label are one character, and all that follow a letter are one with it
    fits (0xCC ∷ 0x81 ∷ 0xCD ∷ 0xAF ∷ []) (exactly 3) any (kept 0 0) ∷
    fits (0xCC ∷ 0x81 ∷ 0xCD ∷ 0xAF ∷ []) (exactly 4) (exactly 1) (kept 4 1) ∷
    fits (0xCC ∷ 0x81 ∷ 0x65 ∷ []) (exactly 3) (exactly 1) (kept 2 1) ∷
    fits (0x65 ∷ 0xCC ∷ 0x80 ∷ 0xCC ∷ 0xBF ∷ 0xCD ∷ 0x80 ∷ []) (exactly 7) (exactly 1) (kept 7 1) ∷
    -- 02, E1: U+02FF, U+0370 and U+20D0 are outside U+0300 to U+036F
    fits (0x65 ∷ 0xCB ∷ 0xBF ∷ []) (exactly 3) (exactly 1) (kept 1 1) ∷
    fits (0x65 ∷ 0xCD ∷ 0xB0 ∷ []) (exactly 3) (exactly 1) (kept 1 1) ∷
    fits (0x65 ∷ 0xE2 ∷ 0x83 ∷ 0x90 ∷ []) (exactly 4) (exactly 1) (kept 1 1) ∷
    -- 02, E1: where ill-formed text starts is as before
    fits (0x65 ∷ 0xCC ∷ 0x81 ∷ 0xFF ∷ []) any any (ill_formed_at 3) ∷
    fits (0x65 ∷ 0xCC ∷ 0xFF ∷ []) any any (ill_formed_at 1) ∷
    -- 02, E10: "up to five octets and any number below 2^32, shortest form only"
    encodes (2 ^ 32 - 1) (0xFF ∷ 0xFF ∷ 0xFF ∷ 0xFF ∷ 0x0F ∷ []) ∷
    unnumbered (0x80 ∷ 0x80 ∷ 0x80 ∷ 0x80 ∷ 0x10 ∷ []) ∷
    unnumbered (0x80 ∷ 0x80 ∷ 0x80 ∷ 0x80 ∷ 0x80 ∷ []) ∷
    unnumbered (0x80 ∷ 0x80 ∷ 0x80 ∷ 0x80 ∷ 0x00 ∷ []) ∷
    -- 02, E10: "each caller tests its own limit": a count that is a number, a label of 117 octets, a long record of 4,097; and kind 3 is none
    judges (0xFF ∷ 0xFF ∷ 0xFF ∷ 0xFF ∷ 0x0F ∷ []) (refused_at faulty_file (in_octets 0)) ∷
    judges (one_record ++ 0x01 ∷ 0x75 ∷ []) (refused_at faulty_file (in_octets 9)) ∷
    judges (one_record ++ 0x02 ∷ 0x81 ∷ 0x20 ∷ []) (refused_at faulty_file (in_octets 9)) ∷
    judges (one_record ++ 0x03 ∷ []) (refused_at faulty_file (in_octets 8)) ∷ []
