-- Setup: 17 for the memory, then the number of setup by value with kinds that are none counted; only 0 writes.
use Prim.Native.Nat.{ℕ}
use mathlib.Core.Path.{◌≡◌, ap, ◌∙◌}
use borrow.Author.Tests.{lt-leb, le-leb, ne_eqb}
use Rattle.card_exports.specs.Setup.{number_with_kinds, setup_number, setup_outcome}
use Rattle.card_exports.proofs.Judging.{setup_judged}
use Rattle.card_exports.proofs.setup.propolisk_card_setup.Goals as goal

pub returns-then-memory-lt-SIZE : goal.returns-then-memory-lt-SIZE
unfolding setup_outcome
returns-then-memory-lt-SIZE c = rw (lt-leb _ _ c.if-memory-lt-SIZE.true)

pub returns-then-number-eq-NONE : goal.returns-then-number-eq-NONE
unfolding setup_outcome
returns-then-number-eq-NONE c = let judged : c.judge-number.result ≡ setup_number c.args.address.now c.args.key.now c.args.count c.args.entries.now =
    c.judge-number.ensures
    ∙ ap (λ (n : ℕ). number_with_kinds n c.entry_kinds_known.result) c.setup-start.ensures.number
    ∙ rw (c.entry_kinds_known.ensures, c.entries-records.ensures) (setup_judged _ _ _ _) in
    rw (c.set_up.ensures, le-leb _ _ c.if-memory-lt-SIZE.false, ← judged, c.if-number-eq-NONE.true)

pub returns-else-number-eq-NONE : goal.returns-else-number-eq-NONE
unfolding setup_outcome
returns-else-number-eq-NONE c = let judged : c.judge-number.result ≡ setup_number c.args.address.now c.args.key.now c.args.count c.args.entries.now =
    c.judge-number.ensures
    ∙ ap (λ (n : ℕ). number_with_kinds n c.entry_kinds_known.result) c.setup-start.ensures.number
    ∙ rw (c.entry_kinds_known.ensures, c.entries-records.ensures) (setup_judged _ _ _ _) in
    rw (le-leb _ _ c.if-memory-lt-SIZE.false, ← judged, ne_eqb _ _ c.if-number-eq-NONE.false)
