-- `crc::residues::check_key_of` meets its contract.
-- Assumes nothing.
use mathlib.Core.Path.{ap, ap₂, ◌∙◌}
use Prim.Native.Nat.{ℕ}
use lib.Bits.{bit_xor}
use Rattle.computed.specs.Steps.{value}
use Rattle.computed.specs.Steps.{right, then, sum}
use Rattle.crc.specs.Residues.{folded, check_key_of}
use Rattle.crc.proofs.residues.check_key_of.Goals as goal

pub returns : goal.returns
unfolding check_key_of
returns c = ap₂ (λ (low part : ℕ). bit_xor (value (sum (right 48) (right 49)) low) (value (right 48) part))
    (c.folded-lowest.ensures
    ∙ ap (value (folded 15 1))
    (c.folded-2.ensures ∙ ap (value (then (right 1) (folded 15 1))) c.folded.ensures))
    c.parity_part-part.ensures
