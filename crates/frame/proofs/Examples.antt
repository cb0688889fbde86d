-- The worked frames of docs/FACTS.md, one of each command (codes: 004 Annex D, Table D.1; layouts: 001 2.4.1 to 2.4.9), the whole lengths of all commands, and
-- those that N may state: the definitions compute.
use Prim.Native.Nat.{ℕ}
use mathlib.Core.Path.{◌≡◌, refl}
use mathlib.Core.List.{List, [], ◌∷◌, map}
use mathlib.Core.Bool.{xor}
use lib.ListN.{replicate}
use Rattle.octets.specs.Part.{part_of}
use Rattle.octets.specs.Splice.{spliced}
use Rattle.octets.specs.Between.{between}
use Rattle.numbers.specs.Counts.{in_octets}
use Rattle.numbers.specs.Answer.{given, refused, when_given}
use Rattle.crc.specs.Polynomial.{plus, step, reduce}
use Rattle.crc.specs.Transmission.{bits, number, transmitted}
use Rattle.crc.specs.AnnexE.{remainder, check_key, divides, is_zero}
use Rattle.frame.specs.declared.codes.Command.{Command}
use Rattle.frame.specs.declared.codes.Command.TheVariants.{Enq, Dat, Rec, Ech, Aut, Eos, Aso, Rso, Ib, Drj, Arj, Trf, Trb, Tra, Pre, Sel}
use Rattle.frame.specs.declared.content.Fields.{Fields}
use Rattle.frame.specs.Codes.{code_of, commands, among, command_of}
use Rattle.frame.specs.Layout.{layout_of, whole_length, can_have}
use Rattle.frame.specs.Content.{on_wire, value_at, octet_at, fields_of, data_of}
use Rattle.frame.specs.Checks.{stated_by, judged, judged_as, inspected, inspected_as, read_of, fields_in}
use Rattle.frame.specs.Building.{head_of, fixed_of, body_of, frame_octets}

-- a command with fields and DATA to build from, the fields that are told of the frame, and the frame
record Worked : Type 0 where
  command : Command
  from : Fields
  content : List ℕ
  told : Fields
  octets : List ℕ

abbrev worked : Command → Fields → List ℕ → Fields → List ℕ → Worked
worked command from content told octets = record { command = command; from = from; content = content; told = told; octets = octets }

-- fields of primary 01
abbrev fields : List ℕ → List ℕ → List ℕ → ℕ → List ℕ → Fields
fields ads za1 za2 tab announced = record { ads = ads; adp = 0x01; za1 = za1; za2 = za2; tab = tab; announced = announced }

abbrev station : List ℕ
station = 0x11 ∷ 0x22 ∷ 0x33 ∷ 0x44 ∷ 0x55 ∷ 0x66 ∷ []

-- the broadcast address, and an address that is not carried
abbrev zero_address : List ℕ
zero_address = replicate 6 0

abbrev zero_number : List ℕ
zero_number = replicate 8 0

abbrev na1 : List ℕ
na1 = 0x01 ∷ 0x23 ∷ 0x45 ∷ 0x67 ∷ 0x89 ∷ 0xAB ∷ 0xCD ∷ 0xEF ∷ []

abbrev na1k : List ℕ
na1k = 0x85 ∷ 0xE8 ∷ 0x13 ∷ 0x54 ∷ 0x0F ∷ 0x0A ∷ 0xB4 ∷ 0x05 ∷ []

abbrev na2 : List ℕ
na2 = 0xFE ∷ 0xDC ∷ 0xBA ∷ 0x98 ∷ 0x76 ∷ 0x54 ∷ 0x32 ∷ 0x10 ∷ []

abbrev na2k : List ℕ
na2k = 0x4A ∷ 0xB6 ∷ 0x5B ∷ 0x3D ∷ 0x4B ∷ 0x06 ∷ 0x15 ∷ 0x18 ∷ []

-- "Zoé"
abbrev text : List ℕ
text = 0x5A ∷ 0x6F ∷ 0xC3 ∷ 0xA9 ∷ []

abbrev two_octets : List ℕ
two_octets = 0x00 ∷ 0xFF ∷ []

-- Each is built from fields that hold something where its command carries nothing, so that a field that should be zero or absent shows.
abbrev frames : List Worked
frames =
    worked Enq (fields station na1 na2 0x0A station) [] (fields station zero_number zero_number 0x0A zero_address)
    (0x0C ∷ 0x66 ∷ 0x55 ∷ 0x44 ∷ 0x33 ∷ 0x22 ∷ 0x11 ∷ 0x01 ∷ 0x01 ∷ 0x0A ∷ 0xAA ∷ 0x35 ∷ []) ∷
    worked Dat (fields station na1 na2 0x0A station) text (fields station zero_number zero_number 0x0A zero_address)
    (0x10 ∷ 0x66 ∷ 0x55 ∷ 0x44 ∷ 0x33 ∷ 0x22 ∷ 0x11 ∷ 0x01 ∷ 0x02 ∷ 0x0A ∷ 0x5A ∷ 0x6F ∷ 0xC3 ∷ 0xA9 ∷ 0x9E ∷ 0x72 ∷ []) ∷
    worked Rec (fields station na1 na2 0x0A station) text (fields station na1 zero_number 0x0A zero_address)
    (0x20 ∷ 0x66 ∷ 0x55 ∷ 0x44 ∷ 0x33 ∷ 0x22 ∷ 0x11 ∷ 0x01 ∷ 0x03 ∷ 0xEF ∷ 0xCD ∷ 0xAB ∷ 0x89 ∷ 0x67 ∷ 0x45 ∷ 0x23 ∷ 0x01 ∷ 0x00 ∷ 0x00 ∷ 0x00 ∷ 0x00 ∷ 0x00 ∷ 0x00 ∷ 0x00 ∷ 0x00 ∷ 0x0A ∷ 0x5A ∷ 0x6F ∷ 0xC3 ∷ 0xA9 ∷ 0x51 ∷ 0x61 ∷ []) ∷
    worked Ech (fields station na1k na2 0x0A station) text (fields station na1k na2 0x0A zero_address)
    (0x20 ∷ 0x66 ∷ 0x55 ∷ 0x44 ∷ 0x33 ∷ 0x22 ∷ 0x11 ∷ 0x01 ∷ 0x04 ∷ 0x05 ∷ 0xB4 ∷ 0x0A ∷ 0x0F ∷ 0x54 ∷ 0x13 ∷ 0xE8 ∷ 0x85 ∷ 0x10 ∷ 0x32 ∷ 0x54 ∷ 0x76 ∷ 0x98 ∷ 0xBA ∷ 0xDC ∷ 0xFE ∷ 0x0A ∷ 0x5A ∷ 0x6F ∷ 0xC3 ∷ 0xA9 ∷ 0x97 ∷ 0x1A ∷ []) ∷
    worked Aut (fields station na1 na2k 0x0A station) [] (fields station zero_number na2k 0x00 zero_address)
    (0x1B ∷ 0x66 ∷ 0x55 ∷ 0x44 ∷ 0x33 ∷ 0x22 ∷ 0x11 ∷ 0x01 ∷ 0x05 ∷ 0x00 ∷ 0x00 ∷ 0x00 ∷ 0x00 ∷ 0x00 ∷ 0x00 ∷ 0x00 ∷ 0x00 ∷ 0x18 ∷ 0x15 ∷ 0x06 ∷ 0x4B ∷ 0x3D ∷ 0x5B ∷ 0xB6 ∷ 0x4A ∷ 0x4E ∷ 0x3C ∷ []) ∷
    worked Eos (fields station na1 na2 0x0A station) [] (fields station zero_number zero_number 0x00 zero_address)
    (0x1B ∷ 0x66 ∷ 0x55 ∷ 0x44 ∷ 0x33 ∷ 0x22 ∷ 0x11 ∷ 0x01 ∷ 0x06 ∷ 0x00 ∷ 0x00 ∷ 0x00 ∷ 0x00 ∷ 0x00 ∷ 0x00 ∷ 0x00 ∷ 0x00 ∷ 0x00 ∷ 0x00 ∷ 0x00 ∷ 0x00 ∷ 0x00 ∷ 0x00 ∷ 0x00 ∷ 0x00 ∷ 0xD5 ∷ 0x27 ∷ []) ∷
    worked Aso (fields zero_address na1 na2 0x0A station) (0x0A ∷ 0x0B ∷ []) (fields zero_address zero_number zero_number 0x00 zero_address)
    (0x0D ∷ 0x00 ∷ 0x00 ∷ 0x00 ∷ 0x00 ∷ 0x00 ∷ 0x00 ∷ 0x01 ∷ 0x07 ∷ 0x0A ∷ 0x0B ∷ 0xCC ∷ 0xF6 ∷ []) ∷
    worked Rso (fields station na1 na2 0x0A station) [] (fields station zero_number zero_number 0x0A station)
    (0x12 ∷ 0x66 ∷ 0x55 ∷ 0x44 ∷ 0x33 ∷ 0x22 ∷ 0x11 ∷ 0x01 ∷ 0x08 ∷ 0x0A ∷ 0x66 ∷ 0x55 ∷ 0x44 ∷ 0x33 ∷ 0x22 ∷ 0x11 ∷ 0xE4 ∷ 0x55 ∷ []) ∷
    worked Ib (fields zero_address na1 na2 0x0A station) [] (fields zero_address zero_number zero_number 0x00 zero_address)
    (0x0B ∷ 0x00 ∷ 0x00 ∷ 0x00 ∷ 0x00 ∷ 0x00 ∷ 0x00 ∷ 0x01 ∷ 0x09 ∷ 0xB2 ∷ 0xA6 ∷ []) ∷
    worked Drj (fields station na1 na2 0x0A station) [] (fields station zero_number zero_number 0x00 zero_address)
    (0x0B ∷ 0x66 ∷ 0x55 ∷ 0x44 ∷ 0x33 ∷ 0x22 ∷ 0x11 ∷ 0x01 ∷ 0x0A ∷ 0x20 ∷ 0x9D ∷ []) ∷
    worked Arj (fields station na1 na2 0x0A station) [] (fields station zero_number zero_number 0x00 zero_address)
    (0x0B ∷ 0x66 ∷ 0x55 ∷ 0x44 ∷ 0x33 ∷ 0x22 ∷ 0x11 ∷ 0x01 ∷ 0x0B ∷ 0xE1 ∷ 0x5D ∷ []) ∷
    worked Trf (fields station na1 na2 0x0B station) two_octets (fields station zero_number zero_number 0x0B zero_address)
    (0x0E ∷ 0x66 ∷ 0x55 ∷ 0x44 ∷ 0x33 ∷ 0x22 ∷ 0x11 ∷ 0x01 ∷ 0x0C ∷ 0x0B ∷ 0x00 ∷ 0xFF ∷ 0x54 ∷ 0x5C ∷ []) ∷
    worked Trb (fields zero_address na1 na2 0x0B station) two_octets (fields zero_address zero_number zero_number 0x0B zero_address)
    (0x0E ∷ 0x00 ∷ 0x00 ∷ 0x00 ∷ 0x00 ∷ 0x00 ∷ 0x00 ∷ 0x01 ∷ 0x0D ∷ 0x0B ∷ 0x00 ∷ 0xFF ∷ 0xE7 ∷ 0x39 ∷ []) ∷
    worked Tra (fields station na1 na2 0x0A station) [] (fields station zero_number zero_number 0x00 zero_address)
    (0x0B ∷ 0x66 ∷ 0x55 ∷ 0x44 ∷ 0x33 ∷ 0x22 ∷ 0x11 ∷ 0x01 ∷ 0x0E ∷ 0x21 ∷ 0x5E ∷ []) ∷
    worked Pre (fields station na1 na2 0x0A station) [] (fields station zero_number zero_number 0x00 zero_address)
    (0x0B ∷ 0x66 ∷ 0x55 ∷ 0x44 ∷ 0x33 ∷ 0x22 ∷ 0x11 ∷ 0x01 ∷ 0x10 ∷ 0xA1 ∷ 0x56 ∷ []) ∷
    worked Sel (fields station na1 na2 0x0A station) [] (fields station zero_number zero_number 0x00 zero_address)
    (0x0B ∷ 0x66 ∷ 0x55 ∷ 0x44 ∷ 0x33 ∷ 0x22 ∷ 0x11 ∷ 0x01 ∷ 0x11 ∷ 0x60 ∷ 0x96 ∷ []) ∷ []

frames_built : map (λ (w : Worked). frame_octets w.command w.from w.content) frames ≡ map (λ (w : Worked). w.octets) frames
unfolding frame_octets body_of fixed_of head_of on_wire layout_of code_of check_key remainder reduce step plus xor bits number transmitted
frames_built = refl

frames_read : map (λ (w : Worked). read_of w.octets) frames ≡ map (λ (w : Worked). record { verdict = given w.command; fields = w.told }) frames
unfolding read_of fields_in inspected inspected_as stated_by judged judged_as when_given can_have between command_of among code_of layout_of fields_of value_at octet_at spliced part_of divides is_zero remainder reduce step plus xor bits transmitted
frames_read = refl

frames_data : map (λ (w : Worked). data_of w.command w.octets) frames ≡ map (λ (w : Worked). w.content) frames
unfolding data_of layout_of part_of
frames_data = refl

-- the shortest and the longest whole length of each command, in the order of Table D.1
whole_lengths : map (λ c. whole_length (layout_of c) (layout_of c).least.0 ∷ whole_length (layout_of c) (layout_of c).most.0 ∷ []) commands
    ≡ (12 ∷ 12 ∷ []) ∷ (12 ∷ 128 ∷ []) ∷ (28 ∷ 128 ∷ []) ∷ (28 ∷ 128 ∷ []) ∷ (27 ∷ 27 ∷ []) ∷ (27 ∷ 27 ∷ []) ∷ (12 ∷ 51 ∷ []) ∷ (18 ∷ 18 ∷ [])
    ∷ (11 ∷ 11 ∷ []) ∷ (11 ∷ 11 ∷ []) ∷ (11 ∷ 11 ∷ []) ∷ (12 ∷ 128 ∷ []) ∷ (12 ∷ 128 ∷ []) ∷ (11 ∷ 11 ∷ []) ∷ (11 ∷ 11 ∷ []) ∷ (11 ∷ 11 ∷ []) ∷ []
unfolding layout_of
whole_lengths = refl

-- 01, Receiving: "under 11 or over 128, answer 1"
lengths_stated : map stated_by (0 ∷ 10 ∷ 11 ∷ 128 ∷ 129 ∷ 255 ∷ []) ≡ refused 1 ∷ refused 1 ∷ given (in_octets 11) ∷ given (in_octets 128) ∷ refused 1 ∷ refused 1 ∷ []
unfolding stated_by between
lengths_stated = refl
