-- How much a card holds. `src/sizes.rt` has the same names.
use Rattle.std.specs.Prelude.{ℕ}

-- 01, The card: "up to 32 records"
abbrev pub most_records : ℕ
most_records = 32

-- 01, The card: "an octet limit 0 to 116", so that no record holds more
abbrev pub most_octets : ℕ
most_octets = 116

-- 01, The card: "for labels a character limit 0 to 116"
abbrev pub most_characters : ℕ
most_characters = 116
