-- Lengths, widths and offsets of a frame, in octets. `src/sizes.rt` has the same names.
use Rattle.std.specs.Prelude.{ℕ}

-- 01, Receiving: "If the whole length it states is under 11 or over 128, answer 1"
abbrev pub shortest_frame : ℕ
shortest_frame = 11

abbrev pub longest_frame : ℕ
longest_frame = 128

-- 01, Frames: "N 1, ADS 6, ADP 1, COM 1, then the command's fields, then CRC 2", so these stand at
abbrev pub ads_at : ℕ
ads_at = 1

abbrev pub adp_at : ℕ
adp_at = 7

abbrev pub com_at : ℕ
com_at = 8

abbrev pub fields_at : ℕ
fields_at = 9

abbrev pub crc_width : ℕ
crc_width = 2

-- ADS, and RSO's second ADS
abbrev pub address_width : ℕ
address_width = 6

-- "ZA1 8, ZA2 8, TAB 1"
abbrev pub number_width : ℕ
number_width = 8

abbrev pub tab_width : ℕ
tab_width = 1

-- the most octets before DATA, where a command had every field
abbrev pub most_before_data : ℕ
most_before_data = 32

-- "DATA 0 to 100" of ECH and REC, "DATA 0 to 116" of TRF, TRB and DAT
abbrev pub most_programmed : ℕ
most_programmed = 100

abbrev pub most_transferred : ℕ
most_transferred = 116

-- ASO's TABi (001 2.4.6)
abbrev pub most_tabs : ℕ
most_tabs = 40
