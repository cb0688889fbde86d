-- The examples of RFC 3629 section 7: their sequences stand for the code points that the RFC gives.
use mathlib.Core.Path.{◌≡◌, refl}
use mathlib.Core.List.{List, [], ◌∷◌, map}
use Prim.Native.Nat.{ℕ}
use Rattle.label.specs.Utf8.{table, begins, row_at, sequence_length, sequences_from, sequences}
use Rattle.label.specs.CodePoint.{code_point}

abbrev CodePoints : List ℕ → List ℕ → Type 0
CodePoints text codes = map code_point (sequences text) ≡ codes

pub published :
    CodePoints (0x41 ∷ 0xE2 ∷ 0x89 ∷ 0xA2 ∷ 0xCE ∷ 0x91 ∷ 0x2E ∷ []) (0x0041 ∷ 0x2262 ∷ 0x0391 ∷ 0x002E ∷ [])
    × CodePoints (0xED ∷ 0x95 ∷ 0x9C ∷ 0xEA ∷ 0xB5 ∷ 0xAD ∷ 0xEC ∷ 0x96 ∷ 0xB4 ∷ []) (0xD55C ∷ 0xAD6D ∷ 0xC5B4 ∷ [])
    × CodePoints (0xE6 ∷ 0x97 ∷ 0xA5 ∷ 0xE6 ∷ 0x9C ∷ 0xAC ∷ 0xE8 ∷ 0xAA ∷ 0x9E ∷ []) (0x65E5 ∷ 0x672C ∷ 0x8A9E ∷ [])
    × CodePoints (0xEF ∷ 0xBB ∷ 0xBF ∷ 0xF0 ∷ 0xA3 ∷ 0x8E ∷ 0xB4 ∷ []) (0xFEFF ∷ 0x233B4 ∷ [])
unfolding table begins row_at sequence_length sequences_from sequences code_point
published = (refl, refl, refl, refl)
