-- `crc::residues::word_of` meets its contract. The loop's invariant: the sum of the word and of any that represents the octets left represents all.
-- Assumes nothing.
use Prim.Native.Nat.{ℕ}
use lib.Bits.{bit_xor}
use lib.ListN.{drop}
use Rattle.crc.specs.Residues.{Represent}
use Rattle.crc.proofs.residues.word_of.Given as goal

abbrev pub invariant-loop-i : goal.invariant-loop-i
invariant-loop-i l = (x : ℕ) → Represent x x (drop l.i l.s) → Represent (bit_xor l.word x) (bit_xor l.word x) l.s
