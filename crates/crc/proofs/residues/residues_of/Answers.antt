-- `crc::residues::residues_of` meets its contract: the words of the two parts represent them, and their sum represents all.
-- Assumes nothing.
use mathlib.Core.Path.{◌≡◌, subst}
use mathlib.Core.List.{◌++◌}
use lib.Bits.{bit_xor}
use lib.ListN.{take-append-drop}
use native.Mathlib.Omega.{arith}
use Rattle.crc.specs.Residues.{Represent}
use Rattle.crc.proofs.Represented.{eight_octets, next_octets}
use Rattle.crc.proofs.residues.residues_of.Goals as goal

pub returns : goal.returns
returns c = let parts = c.split_at.ensures in
    let whole : c.split_at.result.0.now ++ c.split_at.result.1.now ≡ c.args.s.now = rw (parts.front, parts.back) (take-append-drop _ _) in
    subst (Represent (bit_xor c.moved.result c.word_of-last.result) (bit_xor c.word_of-first.result c.word_of-last.result)) whole
    (next_octets 8 eight_octets _ _ (omega arith) c.word_of-first.ensures c.word_of-last.ensures c.moved.ensures (omega arith))
