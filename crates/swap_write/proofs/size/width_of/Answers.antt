-- `width_of`: five octets hold every number from 2^28 on.
use mathlib.Core.Path.{sym}
use Rattle.number.proofs.Laying.{width_five}
use native.Mathlib.Omega.{arith}
use Rattle.swap_write.proofs.size.width_of.Goals as goal

pub returns-in-Err : goal.returns-in-Err
returns-in-Err c = sym (width_five c.args.n (omega (arith, c.in-Err.ensures)))
