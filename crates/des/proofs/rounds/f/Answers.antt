-- `rounds::f` meets its contract: each box is handed its six bits of K ⊕ E(R), and the tables give P of what the boxes select.
-- Assumes nothing.
use Prim.Native.Nat.{◌/◌, ◌^◌}
use lib.Bits.{bit_xor}
use Rattle.des.specs.Tables.{E}
use Rattle.des.specs.Des.{bits_of, permuted, ◌⊕◌, f}
use Rattle.des.proofs.Windows.{handed}
use Rattle.des.proofs.ThroughP.{all_boxes}
use Rattle.des.proofs.rounds.f.Goals as goal

pub returns : goal.returns
unfolding f
returns c = λ K gaps.
    let a = c.args in
    let w = c.windows-w in
    rw c.through_p.ensures
    (all_boxes (permuted E (bits_of 32 a.r) ⊕ K) (bit_xor w.result (a.k / 2 ^ 30)) (bit_xor w.result a.k)
    (handed a.r w.result a.k K w.ensures gaps))
