-- `crc::residues::word_of` meets its contract. The loop's invariant: the sum of the word and of any that represents the octets left represents all.
-- Assumes nothing.
use mathlib.Core.Path.{◌≡◌}
use mathlib.Core.List.{[]}
use native.Mathlib.Omega.{arith}
use lib.Bits.{xor_zero_r}
use lib.ListN.{drop, drop_of_length-le}
use Rattle.computed.proofs.Xor.{xor_assoc}
use Rattle.crc.proofs.Represented.{no_octets, next_octet}
use Rattle.crc.proofs.residues.word_of.Goals as goal

pub loop-i-preserved : goal.loop-i-preserved
loop-i-preserved c = let l = c.loop-i in
    λ x r.
    rw xor_assoc
    (l.invariant _
    (next_octet c.args.s.now l.i c.from.result (omega arith) (omega arith) c.from.ensures
    (omega arith) r))

pub returns : goal.returns
returns c = let l = c.loop-i in
    let s = c.args.s.now in
    let e : drop l.i s ≡ [] = drop_of_length-le s {i = l.i} (omega arith) in rw (← xor_zero_r l.word) (l.invariant 0 (rw e no_octets))
