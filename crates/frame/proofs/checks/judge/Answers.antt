-- `judge` meets its contract: each `let .. else` is a case of `judged`, in its order.
use Rattle.numbers.specs.Answer.{when_given}
use Rattle.crc.specs.AnnexE.{divides}
use Rattle.frame.specs.Layout.{can_have}
use Rattle.frame.specs.Checks.{judged, judged_as}
use Rattle.frame.proofs.Told.{passed, failed}
use Rattle.frame.proofs.checks.judge.Goals as goal

pub returns-in_default : goal.returns-in_default
unfolding judged
returns-in_default c = rw (failed (divides _) c.check_crc.ensures c.in_default.is)

pub returns-in_default-check_command : goal.returns-in_default-check_command
unfolding judged judged_as when_given
returns-in_default-check_command c = rw (
  passed (divides _) c.check_crc.ensures c.in-Passes.is,
  ← c.check_command.ensures,
  c.in_default-check_command.is,
)

pub returns-in_default-check_length : goal.returns-in_default-check_length
unfolding judged judged_as when_given
returns-in_default-check_length c = rw (
  passed (divides _) c.check_crc.ensures c.in-Passes.is,
  ← c.check_command.ensures,
  c.in-Ok.is,
  failed (can_have _ _) c.check_length.ensures c.in_default-check_length.is,
)

pub returns : goal.returns
unfolding judged judged_as when_given
returns c = rw (
  passed (divides _) c.check_crc.ensures c.in-Passes.is,
  ← c.check_command.ensures,
  c.in-Ok.is,
  passed (can_have _ _) c.check_length.ensures c.in-Passes-check_length.is,
)
