-- A worked example, which antt computes from the definitions.
-- Assumes nothing.
use Rattle.std.specs.Prelude.{◌≡◌, refl, ℕ}
use mathlib.Core.List.{List, [], ◌∷◌, flat_map, zip_with}
use Rattle.des.specs.Tables.{IP, inverse_ip, E, P, PC1, PC2, left_shifts, boxes}
use Rattle.des.specs.Des.{encipher, decipher, computation, bits_of, number, bits, octets, permuted, ◌⊕◌, s_box, selected, f, round, rounds, exchanged, left_shift, both_shifted, key_halves, round_key}

key : List ℕ
key = 0x13 ∷ 0x34 ∷ 0x57 ∷ 0x79 ∷ 0x9B ∷ 0xBC ∷ 0xDF ∷ 0xF1 ∷ []

plain : List ℕ
plain = 0x01 ∷ 0x23 ∷ 0x45 ∷ 0x67 ∷ 0x89 ∷ 0xAB ∷ 0xCD ∷ 0xEF ∷ []

cipher : List ℕ
cipher = 0x85 ∷ 0xE8 ∷ 0x13 ∷ 0x54 ∷ 0x0F ∷ 0x0A ∷ 0xB4 ∷ 0x05 ∷ []

both_ways : (encipher key plain ≡ cipher) × (decipher key cipher ≡ plain)
unfolding key plain cipher encipher decipher computation bits_of number bits octets permuted ◌⊕◌ s_box selected f round rounds exchanged left_shift both_shifted key_halves round_key IP inverse_ip E P PC1 PC2 left_shifts boxes flat_map zip_with
both_ways = (refl, refl)
