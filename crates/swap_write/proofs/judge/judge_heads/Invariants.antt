-- `judge_heads`: the heads counted and the octets of those left make up the verdict.
use Prim.Native.Nat.{◌-◌}
use lib.ListN.{length}
use Rattle.number.specs.Groups.{encoded}
use Rattle.swap.specs.Reading.{answer_of_listing, read_records}
use Rattle.swap_write.specs.Heads.{body_of}
use Rattle.swap_write.proofs.Judged.{Judging}
use Rattle.swap_write.proofs.judge.judge_heads.Given as goal

abbrev pub invariant-loop-judged : goal.invariant-loop-judged
invariant-loop-judged l = Judging l.count (answer_of_listing (read_records l.count 0 (length (encoded l.count)) (body_of l.count l.initial.heads_left l.initial.data_left))) l.heads_left l.data_left l.at (l.count - l._judged) l.least
