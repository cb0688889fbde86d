-- The octet call: 17, 12, then the method by value between decoding and encoding.
use mathlib.Core.Path.{◌≡◌, sym, ◌∙◌}
use mathlib.Core.Bool.{true}
use borrow.Author.Tests.{eq-eqb, ne_eqb, le-leb, lt-leb}
use Rattle.card.specs.Loan.{lending, usable}
use Rattle.card_exports.proofs.Calls.{lent_held}
use Rattle.card_exports.proofs.OctetCall.{octet_unlent, octet_refused, octet_fits, octet_broken, octet_replied}
use Rattle.card_exports.proofs.stepping.propolisk_card_step_octet.Goals as goal
use Rattle.card_exports.proofs.stepping.propolisk_card_step_octet.Goals.{then-na2-ne-NUMBER_WIDTH-via-then-na2-ne-NUMBER_WIDTH, then-na2-ne-NUMBER_WIDTH-via-else-na2-ne-NUMBER_WIDTH+then-reply-lt-LONGEST_FRAME}

pub returns-then-na2-ne-NUMBER_WIDTH : goal.returns-then-na2-ne-NUMBER_WIDTH
returns-then-na2-ne-NUMBER_WIDTH c =
    octet_unlent _ _ _ _ _ (elim c.then-na2-ne-NUMBER_WIDTH.branch [
      | then-na2-ne-NUMBER_WIDTH-via-then-na2-ne-NUMBER_WIDTH w ↦ rw (ne_eqb _ _ w.if-na2-ne-NUMBER_WIDTH.true)
      | then-na2-ne-NUMBER_WIDTH-via-else-na2-ne-NUMBER_WIDTH+then-reply-lt-LONGEST_FRAME w ↦ rw (eq-eqb _ _ w.if-na2-ne-NUMBER_WIDTH.false, lt-leb _ _ w.if-reply-lt-LONGEST_FRAME.true)
    ])

pub returns-in-Err : goal.returns-in-Err
returns-in-Err c =
    let lent : usable (lending c.args.na2.now c.args.reply.now) ≡ true = rw (eq-eqb _ _ c.if-na2-ne-NUMBER_WIDTH.false, le-leb _ _ c.if-reply-lt-LONGEST_FRAME.false) in
    rw c.number.ensures (octet_refused _ _ _ _ _ lent _ (sym c.lent_card.ensures ∙ c.in-Err.is))

pub returns-then-number-eq-BROKEN_RULE : goal.returns-then-number-eq-BROKEN_RULE
returns-then-number-eq-BROKEN_RULE c =
    let lent : usable (lending c.args.na2.now c.args.reply.now) ≡ true = rw (eq-eqb _ _ c.if-na2-ne-NUMBER_WIDTH.false, le-leb _ _ c.if-reply-lt-LONGEST_FRAME.false) in
    let held = lent_held _ _ (sym c.lent_card.ensures ∙ c.in-Ok.is) in
    octet_broken _ _ _ _ (octet_fits c.args.memory.now c.args.octet c.args.na2.now c.args.reply.now lent held.whole) held.legible
    _ c.octet-stepped.result (rw (← held.card) c.octet-stepped.ensures) _ _ c.finish-number.ensures _ c.if-number-eq-BROKEN_RULE.true

pub returns : goal.returns
returns c =
    let lent : usable (lending c.args.na2.now c.args.reply.now) ≡ true = rw (eq-eqb _ _ c.if-na2-ne-NUMBER_WIDTH.false, le-leb _ _ c.if-reply-lt-LONGEST_FRAME.false) in
    let held = lent_held _ _ (sym c.lent_card.ensures ∙ c.in-Ok.is) in
    octet_replied _ _ _ _ (octet_fits c.args.memory.now c.args.octet c.args.na2.now c.args.reply.now lent held.whole) held.legible
    _ c.octet-stepped.result (rw (← held.card) c.octet-stepped.ensures) _ _ c.finish-number.ensures _ c.if-number-eq-BROKEN_RULE.false
