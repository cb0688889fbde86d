-- `lay`: what is laid and the octets of the heads left make up the file.
use Prim.Native.Nat.{ℕ, ◌-◌}
use mathlib.Core.List.{List}
use Rattle.swap_write.specs.Heads.{file_of}
use Rattle.swap_write.proofs.Laid.{Laying}
use Rattle.swap_write.proofs.lay.lay.Given as goal

abbrev pub invariant-loop-laid : goal.invariant-loop-laid
invariant-loop-laid l = (p : List ℕ) × Laying (file_of l.initial.heads_left l.initial.data_left) l.heads_left l.data_left l.initial.buffer p l.buffer l.at (l.count - l._laid)
