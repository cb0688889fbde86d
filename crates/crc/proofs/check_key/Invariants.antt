-- `crc::check_key` meets its contract. The loop's invariant: the word and the parity represent the octets passed, and what is left is whole turns.
-- Assumes nothing.
use mathlib.Core.Path.{◌≡◌}
use mathlib.Core.List.{List, ◌++◌}
use Prim.Native.Nat.{ℕ, ◌%◌}
use lib.ListN.{length}
use Rattle.crc.specs.Residues.{Represent}
use Rattle.crc.proofs.check_key.Given as goal

abbrev pub invariant-loop-turn : goal.invariant-loop-turn
invariant-loop-turn l = record {
  size : l.turn-iterator.size ≡ 16;
  turns : length l.turn-iterator.rest.now % 16 ≡ 0;
  passed : (before : List ℕ) × (before ++ l.turn-iterator.rest.now ≡ l.s) × Represent l.word l.parity before;
}
