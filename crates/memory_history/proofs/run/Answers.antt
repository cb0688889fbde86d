-- The calls that are left end as the whole history does.
use mathlib.Core.List.{List}
use mathlib.Core.Path.{sym, ap, ◌∙◌}
use Prim.Native.Nat.{ℕ}
use Rattle.history.proofs.Decoding.{some_left, none_left}
use Rattle.memory_history.specs.Claim.{MemoryCall, lent_outcome, run}
use Rattle.memory_history.specs.Encoding.{memory_calls_of}
use Rattle.memory_history.proofs.Decoding.{fewer_left, run_next, run_end}
use Rattle.memory_history.proofs.run.Goals as goal

pub loop-history-smaller : goal.loop-history-smaller
loop-history-smaller c = fewer_left c.loop-history.history.now _ (some_left _ c.loop-history-test.ensures) c.split_memory_call-room.ensures.rest

pub loop-history-preserved : goal.loop-history-preserved
loop-history-preserved c =
    let step = c.after_lent.ensures ∙ ap (λ (k : MemoryCall). (lent_outcome c.loop-history.memory k).memory) c.split_memory_call-room.ensures.call in
    let next = run_next c.loop-history.memory c.loop-history.history.now _ (some_left _ c.loop-history-test.ensures) c.split_memory_call-room.ensures.rest in
    c.loop-history.invariant ∙ next ∙ ap (λ (m : List ℕ). run m (memory_calls_of c.split_memory_call-room.result.2.now)) (sym step)

pub returns : goal.returns
returns c = sym (c.loop-history.invariant ∙ run_end c.loop-history.memory c.loop-history.history.now (none_left _ c.loop-history-test.ensures))
