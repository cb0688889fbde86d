-- `keeps_rules` runs the tests of its definition in their order.
use mathlib.Core.Bool.{true≢false}
use mathlib.Core.Path.{sym, ◌∙◌}
use borrow.Author.Tests.{lt-leb, le-leb}
use Rattle.records.specs.Setup.{keeps_rules}
use Rattle.records.proofs.Records.keeps_rules.Goals as goal
use Rattle.records.proofs.Records.keeps_rules.Goals.{then-self-le-MOST_RECORDS, else-self-le-MOST_RECORDS}

pub returns-then-tabs_apart : goal.returns-then-tabs_apart
unfolding keeps_rules
returns-then-tabs_apart c =
    elim c.if-self-le-MOST_RECORDS.branch [
      | then-self-le-MOST_RECORDS w ↦ rw (le-leb _ _ w.if-self-le-MOST_RECORDS.true, sym w.tabs_apart.ensures ∙ sym w.value-is ∙ c.if-tabs_apart.true) c.all_keep_limits.ensures
      | else-self-le-MOST_RECORDS w ↦ absurd (true≢false (sym c.if-tabs_apart.true ∙ w.value-is ∙ lt-leb _ _ w.if-self-le-MOST_RECORDS.false))
    ]

pub returns-else-tabs_apart : goal.returns-else-tabs_apart
unfolding keeps_rules
returns-else-tabs_apart c =
    elim c.if-self-le-MOST_RECORDS.branch [
      | then-self-le-MOST_RECORDS w ↦ rw (le-leb _ _ w.if-self-le-MOST_RECORDS.true, sym w.tabs_apart.ensures ∙ sym w.value-is ∙ c.if-tabs_apart.false) c.if-tabs_apart.false
      | else-self-le-MOST_RECORDS w ↦ rw (lt-leb _ _ w.if-self-le-MOST_RECORDS.false) (w.value-is ∙ lt-leb _ _ w.if-self-le-MOST_RECORDS.false)
    ]
