-- `after`: the sum with what is more is within the limit or not.
use Prim.Native.Nat.{◌+◌}
use borrow.Author.Tests.{lt-ltb, le-ltb}
use Rattle.swap.specs.Record.{file_limit}
use Rattle.swap_write.specs.Writing.{size_after}
use native.Mathlib.Omega.{arith}
use Rattle.swap_write.proofs.size.after.Goals as goal

pub returns-then-sum-gt-FILE_LIMIT : goal.returns-then-sum-gt-FILE_LIMIT
unfolding size_after
returns-then-sum-gt-FILE_LIMIT c = rw (lt-ltb file_limit (c.args.sum + c.args.more) (omega arith))

pub returns : goal.returns
unfolding size_after
returns c = rw (le-ltb file_limit (c.args.sum + c.args.more) (omega arith))
