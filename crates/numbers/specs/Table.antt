-- The table of 01, Numbers handed back, and the numbers that 02's requests add. Every definition and every promise names its numbers by these.
use Rattle.std.specs.Prelude.{ℕ}

-- no number is given
abbrev pub none : ℕ
none = 0

-- 1 to 5, "bad frame". 01, Receiving: N states a whole length "under 11 or over 128"
abbrev pub length_out_of_range : ℕ
length_out_of_range = 1

-- "CRC (2)"
abbrev pub wrong_check_key : ℕ
wrong_check_key = 2

-- "A gap inside a frame answers 3."
abbrev pub cut_frame : ℕ
cut_frame = 3

-- "known command (4)"
abbrev pub unknown_command : ℕ
unknown_command = 4

-- "length that this command can have (5)"
abbrev pub impossible_length : ℕ
impossible_length = 5

-- "address of the wrong sort"
abbrev pub wrong_address : ℕ
wrong_address = 6

-- 7, 8, 9, "data too long, ill-formed, too many characters"
abbrev pub too_long : ℕ
too_long = 7

abbrev pub ill_formed : ℕ
ill_formed = 8

abbrev pub too_many_characters : ℕ
too_many_characters = 9

-- 10, 11, "no such record, not open"
abbrev pub no_record : ℕ
no_record = 10

abbrev pub not_open : ℕ
not_open = 11

-- "setup rule broken"
abbrev pub broken_rule : ℕ
broken_rule = 12

-- 13, 14, 15, 19, 20, "cipher wrong, echo wrong, session ended, unexpected frame, rejected"
abbrev pub wrong_cipher : ℕ
wrong_cipher = 13

abbrev pub wrong_echo : ℕ
wrong_echo = 14

abbrev pub session_ended : ℕ
session_ended = 15

-- "tool busy"
abbrev pub busy : ℕ
busy = 16

-- "reply or frame buffer under 128 octets, card memory too short, a lent key or number not of 8 octets, an address not of 6"
abbrev pub wrong_length : ℕ
wrong_length = 17

-- "swap file"
abbrev pub faulty_file : ℕ
faulty_file = 18

abbrev pub unexpected_frame : ℕ
unexpected_frame = 19

abbrev pub rejected : ℕ
rejected = 20

-- 02, E5: "Refusals: 21"
abbrev pub weak_key : ℕ
weak_key = 21
