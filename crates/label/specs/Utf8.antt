-- Well-formed UTF-8: the sequences of RFC 3629 section 4, and the run of them that a text starts with.
use Rattle.std.specs.Prelude.{Bool, true, false, cond, ◌&&◌, ℕ, zero, suc, leb, eqb, length, take}
use mathlib.Core.List.{List, [], ◌∷◌, flatten}

infix 70 ◌to◌
-- the numbers from a least to a greatest one
pub record Range : Type 0 where
  pub least : ℕ
  pub greatest : ℕ

abbrev pub ◌to◌ : ℕ → ℕ → Range
low to high = record { least = low; greatest = high }

abbrev pub in_range : Range → ℕ → Bool
in_range range n = leb range.least n && leb n range.greatest

-- RFC 3629 section 4, UTF8-tail
abbrev pub tail : Range
tail = 0x80 to 0xBF

-- RFC 3629 section 4, UTF8-1 to UTF8-4: a row for each form of a sequence, with the range of each of its octets
unfoldable pub table : List (List Range)
table =
    (0x00 to 0x7F ∷ [])
    ∷ (0xC2 to 0xDF ∷ tail ∷ [])
    ∷ (0xE0 to 0xE0 ∷ 0xA0 to 0xBF ∷ tail ∷ [])
    ∷ (0xE1 to 0xEC ∷ tail ∷ tail ∷ [])
    ∷ (0xED to 0xED ∷ 0x80 to 0x9F ∷ tail ∷ [])
    ∷ (0xEE to 0xEF ∷ tail ∷ tail ∷ [])
    ∷ (0xF0 to 0xF0 ∷ 0x90 to 0xBF ∷ tail ∷ tail ∷ [])
    ∷ (0xF1 to 0xF3 ∷ tail ∷ tail ∷ tail ∷ [])
    ∷ (0xF4 to 0xF4 ∷ 0x80 to 0x8F ∷ tail ∷ tail ∷ [])
    ∷ []

-- whether the text begins with an octet of each range in turn
unfoldable pub begins : List Range → List ℕ → Bool
begins [] text = true
begins (range ∷ ranges) [] = false
begins (range ∷ ranges) (octet ∷ text) = in_range range octet && begins ranges text

-- the row of the table that the text begins with: an empty one where it begins with none
unfoldable pub row_at : List (List Range) → List ℕ → List Range
row_at [] text = []
row_at (row ∷ rows) text = cond (begins row text) row (row_at rows text)

-- how many octets the well-formed sequence at the text's start has: 0 where none stands there
unfoldable pub sequence_length : List ℕ → ℕ
sequence_length text = length (row_at table text)

-- the well-formed sequences that stand one after the other from an octet on, up to the first place where none stands
unfoldable pub sequences_from : ℕ → List ℕ → List (List ℕ)
sequences_from from [] = []
sequences_from (suc from) (octet ∷ text) = sequences_from from text
sequences_from zero (octet ∷ text) = elim (sequence_length (octet ∷ text)) [ zero ↦ [] | suc rest ↦ take (suc rest) (octet ∷ text) ∷ sequences_from rest text ]

unfoldable pub sequences : List ℕ → List (List ℕ)
sequences text = sequences_from 0 text

-- the offset at which the longest well-formed front part ends (01, Labels): `offset_well_formed` and `offset_longest` of proofs/Laws.antt
unfoldable pub well_formed_octets : List ℕ → ℕ
well_formed_octets text = length (flatten (sequences text))

-- a text is well-formed if it is a run of whole sequences
unfoldable pub well_formed : List ℕ → Bool
well_formed text = eqb (well_formed_octets text) (length text)
