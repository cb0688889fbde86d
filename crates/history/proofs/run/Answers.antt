-- The calls that are left end as the whole history does.
use mathlib.Core.Path.{sym, ap, ◌∙◌}
use Rattle.card.specs.declared.Card.{Card}
use Rattle.card.specs.Events.{Call, after}
use Rattle.history.specs.Claim.{run}
use Rattle.history.specs.Encoding.{calls_of}
use Rattle.history.proofs.Decoding.{fewer_left, run_next, run_end, some_left, none_left}
use Rattle.history.proofs.run.Goals as goal

pub loop-history-smaller : goal.loop-history-smaller
loop-history-smaller c = fewer_left c.loop-history.history.now _ (some_left _ c.loop-history-test.ensures) c.split_call.ensures.rest

pub loop-history-preserved : goal.loop-history-preserved
loop-history-preserved c =
    let step = c.after-card.ensures ∙ ap (λ (k : Call). (after c.loop-history.card k).card) c.split_call.ensures.call in
    let next = run_next c.loop-history.card c.loop-history.history.now _ (some_left _ c.loop-history-test.ensures) c.split_call.ensures.rest in
    c.loop-history.invariant ∙ next ∙ ap (λ (k : Card). run k (calls_of c.split_call.result.1.now)) (sym step)

pub returns : goal.returns
returns c = sym (c.loop-history.invariant ∙ run_end c.loop-history.card c.loop-history.history.now (none_left _ c.loop-history-test.ensures))
