-- `frame_exports::propolisk_frame_build` meets its contract: each way out is a case of `build_outcome`.
use Rattle.frame_exports.proofs.Outcomes.{build_short, build_unknown, build_framed, build_refused}
use Rattle.frame_exports.proofs.propolisk_frame_build.Goals as goal

pub returns-then-buffer-lt-LONGEST_FRAME : goal.returns-then-buffer-lt-LONGEST_FRAME
returns-then-buffer-lt-LONGEST_FRAME c = build_short _ _ _ _ _ c.if-buffer-lt-LONGEST_FRAME.true

pub returns-in_default : goal.returns-in_default
returns-in_default c = build_unknown _ _ _ _ _ _ c.try_from.ensures _ c.if-buffer-lt-LONGEST_FRAME.false c.in_default.is

pub returns-in-Ok-build : goal.returns-in-Ok-build
returns-in-Ok-build c = build_framed _ _ _ _ _ _ c.try_from.ensures _ _ _ c.if-buffer-lt-LONGEST_FRAME.false c.in-Ok.is c.build.ensures.0 c.build.ensures.1 _ c.in-Ok-build.is

pub returns-in-Err : goal.returns-in-Err
returns-in-Err c = build_refused _ _ _ _ _ _ c.try_from.ensures _ _ _ c.if-buffer-lt-LONGEST_FRAME.false c.in-Ok.is c.build.ensures.0 c.build.ensures.1 _ _ c.in-Err.is c.number.ensures
