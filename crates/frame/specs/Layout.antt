-- The fields between COM and CRC: 01, Frames, and the drawings of 001 2.4.1 to 2.4.9, which 004 4.4.2 to 4.4.7 lack.
use Rattle.std.specs.Prelude.{ℕ, ◌+◌, Bool}
use Rattle.octets.specs.Between.{between}
use Rattle.numbers.specs.Counts.{in_octets}
use Rattle.frame.specs.declared.codes.Command.{Command}
use Rattle.frame.specs.declared.codes.Command.TheVariants.{Enq, Dat, Rec, Ech, Aut, Eos, Aso, Rso, Ib, Drj, Arj, Trf, Trb, Tra, Pre, Sel}
use Rattle.frame.specs.declared.layout.Presence.{Presence}
use Rattle.frame.specs.declared.layout.Presence.TheVariants.{Absent, Zero, Carried}
use Rattle.frame.specs.declared.layout.Layout.{Layout}
use Rattle.frame.specs.declared.layout.Places.{Places}
use Rattle.frame.specs.Sizes.{fields_at, crc_width, address_width, number_width, tab_width, most_programmed, most_transferred, most_tabs}

abbrev pub row : Presence → Presence → Presence → Presence → ℕ → ℕ → Layout
row za1 za2 tab announced least most =
    record { za1 = za1; za2 = za2; tab = tab; announced = announced; least = in_octets least; most = in_octets most }

-- A row has ZA1 (8 octets), ZA2 (8), TAB (1), RSO's second ADS (6), and the least and the most octets of DATA. A field is Zero where
-- 001 2.4.2 sets it to zero: REC's ZA2, AUT's ZA1, both of EOS. ASO's TABi, 1 to 40 octets, are its DATA.
unfoldable pub layout_of : Command → Layout
layout_of Enq = row Absent Absent Carried Absent 0 0
layout_of Dat = row Absent Absent Carried Absent 0 most_transferred
layout_of Rec = row Carried Zero Carried Absent 0 most_programmed
layout_of Ech = row Carried Carried Carried Absent 0 most_programmed
layout_of Aut = row Zero Carried Absent Absent 0 0
layout_of Eos = row Zero Zero Absent Absent 0 0
layout_of Aso = row Absent Absent Absent Absent 1 most_tabs
layout_of Rso = row Absent Absent Carried Carried 0 0
layout_of Ib = row Absent Absent Absent Absent 0 0
layout_of Drj = row Absent Absent Absent Absent 0 0
layout_of Arj = row Absent Absent Absent Absent 0 0
layout_of Trf = row Absent Absent Carried Absent 0 most_transferred
layout_of Trb = row Absent Absent Carried Absent 0 most_transferred
layout_of Tra = row Absent Absent Absent Absent 0 0
layout_of Pre = row Absent Absent Absent Absent 0 0
layout_of Sel = row Absent Absent Absent Absent 0 0

-- the octets that a field of n octets takes
abbrev pub width : Presence → ℕ → ℕ
width Absent n = 0
width Zero n = n
width Carried n = n

-- the offsets of the fields, which follow each other from ZA1 on (004 4.4.8: in ascending order, from N to CRC)
abbrev pub places_of : Layout → Places
places_of l =
    let za2 = fields_at + width l.za1 number_width in
    let tab = za2 + width l.za2 number_width in
    let announced = tab + width l.tab tab_width in
    let content = announced + width l.announced address_width in
    record { za2 = in_octets za2; tab = in_octets tab; announced = in_octets announced; content = in_octets content }

-- the whole length of a frame with n octets of DATA; N counts itself and the CRC (004 4.4.8)
abbrev pub whole_length : Layout → ℕ → ℕ
whole_length l n = (places_of l).content.0 + n + crc_width

-- a number of octets of DATA that the command can have
unfoldable pub within : Layout → ℕ → Bool
within l n = between l.least.0 l.most.0 n

-- a whole length that the command can have
unfoldable pub can_have : Layout → ℕ → Bool
can_have l n = between (whole_length l l.least.0) (whole_length l l.most.0) n
