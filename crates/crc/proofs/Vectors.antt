-- Worked examples: the definitions compute.
-- Assumes nothing.
use mathlib.Core.Path.{◌≡◌, refl}
use mathlib.Core.Bool.{true, xor}
use mathlib.Core.List.{[], ◌∷◌}
use Rattle.crc.specs.Polynomial.{plus, step, reduce}
use Rattle.crc.specs.Transmission.{bits, number, transmitted}
use Rattle.crc.specs.AnnexE.{remainder, check_key, divides, is_zero}

-- "123456789"
digits : check_key (0x31 ∷ 0x32 ∷ 0x33 ∷ 0x34 ∷ 0x35 ∷ 0x36 ∷ 0x37 ∷ 0x38 ∷ 0x39 ∷ []) ≡ 0xBB3D
unfolding check_key remainder reduce step plus xor bits number transmitted
digits = refl

-- the ENQ frame that asks station 112233445566 for TAB 0A; its CRC field is AA 35
enq : check_key (0x0C ∷ 0x66 ∷ 0x55 ∷ 0x44 ∷ 0x33 ∷ 0x22 ∷ 0x11 ∷ 0x01 ∷ 0x01 ∷ 0x0A ∷ []) ≡ 0x35AA
unfolding check_key remainder reduce step plus xor bits number transmitted
enq = refl

enq_passes : divides (0x0C ∷ 0x66 ∷ 0x55 ∷ 0x44 ∷ 0x33 ∷ 0x22 ∷ 0x11 ∷ 0x01 ∷ 0x01 ∷ 0x0A ∷ 0xAA ∷ 0x35 ∷ []) ≡ true
unfolding divides is_zero remainder reduce step plus xor bits transmitted
enq_passes = refl
