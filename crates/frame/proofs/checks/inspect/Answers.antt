-- `inspect` meets its contract: an empty slice first, then each `let .. else` is a case of `inspected`.
use mathlib.Core.Path.{sym}
use lib.Dec.{eqb}
use Rattle.numbers.specs.Answer.{when_given}
use Rattle.frame.specs.Checks.{inspected_as}
use Rattle.frame.proofs.Told.{passed, failed}
use Rattle.frame.proofs.Steps.{inspected_none, inspected_some}
use Rattle.frame.proofs.checks.inspect.Goals as goal

pub returns-in_default : goal.returns-in_default
returns-in_default c = sym (inspected_none _ c.in_default.ensures.value)

pub returns-in_default-stated_by : goal.returns-in_default-stated_by
unfolding inspected_as when_given
returns-in_default-stated_by c = rw (inspected_some _ _ c.in-Some.ensures.value, ← c.stated_by.ensures, c.in_default-stated_by.is)

pub returns-in_default-check_extent : goal.returns-in_default-check_extent
unfolding inspected_as when_given
returns-in_default-check_extent c = rw (
  inspected_some _ _ c.in-Some.ensures.value,
  ← c.stated_by.ensures,
  c.in-Some-stated_by.is,
  failed (eqb _ _) c.check_extent.ensures c.in_default-check_extent.is,
)

pub returns : goal.returns
unfolding inspected_as when_given
returns c = rw (
  inspected_some _ _ c.in-Some.ensures.value,
  ← c.stated_by.ensures,
  c.in-Some-stated_by.is,
  passed (eqb _ _) c.check_extent.ensures c.in-Passes.is,
)
    c.judge.ensures
