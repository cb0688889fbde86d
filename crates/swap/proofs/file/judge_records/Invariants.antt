-- `judge_records`: the records counted and what is left to read make up the verdict.
use Prim.Native.Nat.{◌-◌}
use lib.ListN.{drop}
use Rattle.swap.specs.Reading.{answer_of_listing, read_records}
use Rattle.swap.proofs.Tally.{Tallied}
use Rattle.swap.proofs.file.judge_records.Given as goal

abbrev pub invariant-loop-judged : goal.invariant-loop-judged
invariant-loop-judged l = Tallied l.file l.count (answer_of_listing (read_records l.count 0 l.start (drop l.start l.file))) l.at (l.count - l._judged) l.least
