-- The call on whole, legible memory is the method by value between decoding and encoding.
use mathlib.Core.Path.{refl, sym, ap, ◌∙◌}
use Rattle.card.specs.declared.Card.{Card}
use Rattle.card.specs.Events.{gap, after}
use Rattle.card_exports.proofs.Calls.{lent_held, call_refused, call_finished}
use Rattle.card_exports.proofs.stepping.propolisk_card_step_gap.Goals as goal

pub returns-in-Ok : goal.returns-in-Ok
unfolding after
returns-in-Ok c =
    let held = lent_held _ _ (sym c.lent_card.ensures ∙ c.in-Ok.is) in
    let told = c.gap.ensures in
    c.finish.ensures
    ∙ call_finished _ held.whole gap refl held.legible _ _
    (told.number ∙ ap (λ (x : Card). (after x gap).number) held.card) (told.card ∙ ap (λ (x : Card). (after x gap).card) held.card)

pub returns-in-Err : goal.returns-in-Err
returns-in-Err c = rw c.number.ensures (sym (call_refused _ _ (sym c.lent_card.ensures ∙ c.in-Err.is) gap refl))
