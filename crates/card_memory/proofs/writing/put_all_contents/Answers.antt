-- `put_all_contents` puts one record's contents after the other: what is left to put makes the whole.
use mathlib.Core.Path.{sym, ◌∙◌}
use Prim.Native.Nat.{◌<◌}
use lib.ListN.{length}
use native.Mathlib.Omega.{arith}
use Rattle.card_memory.proofs.ContentsRuns.{contents_next, contents_end}
use Rattle.card_memory.proofs.writing.put_all_contents.Goals as goal

pub loop-stored-preserved : goal.loop-stored-preserved
loop-stored-preserved c = let l = c.loop-stored in
    let lt : l.stored-index < length c.args.each.now = omega arith in
    (omega arith, rw c.put_contents.ensures (contents_next l.at l.stored-index c.args.each.now l.memory lt ∙ l.invariant.1))

pub returns : goal.returns
returns c = let l = c.loop-stored in
    sym (contents_end l.at l.stored-index _ l.memory (omega arith)) ∙ l.invariant.1
