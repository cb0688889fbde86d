-- `file_size`: what is summed and the octets of the heads left make up the whole.
use Prim.Native.Nat.{◌-◌}
use lib.ListN.{length}
use Rattle.swap_write.specs.Heads.{file_of}
use Rattle.swap_write.proofs.Sized.{Summed}
use Rattle.swap_write.proofs.size.file_size.Given as goal

abbrev pub invariant-loop-summed : goal.invariant-loop-summed
invariant-loop-summed l = Summed (length l.initial.heads_left) (length l.initial.data_left) (file_of l.initial.heads_left l.initial.data_left) l.heads_left l.data_left l.sum (l.count - l._summed)
