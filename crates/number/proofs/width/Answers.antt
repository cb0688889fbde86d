-- `width`: each range has the numbers that take so many octets.
use Rattle.std.proofs.Common.{arith, sym}
use Rattle.number.proofs.Laying.{width_one, width_two, width_three, width_four, width_five}
use Rattle.number.proofs.width.Goals as goal

pub returns-in-0-to-127 : goal.returns-in-0-to-127
returns-in-0-to-127 c = sym (width_one c.args.n (omega arith))

pub returns-in-128-to-16383 : goal.returns-in-128-to-16383
returns-in-128-to-16383 c = sym (width_two c.args.n (omega arith) (omega arith))

pub returns-in-16384-to-2097151 : goal.returns-in-16384-to-2097151
returns-in-16384-to-2097151 c = sym (width_three c.args.n (omega arith) (omega arith))

pub returns-in-2097152-to-268435455 : goal.returns-in-2097152-to-268435455
returns-in-2097152-to-268435455 c = sym (width_four c.args.n (omega arith) (omega arith))

pub returns-in_default : goal.returns-in_default
returns-in_default c = sym (width_five c.args.n (omega arith))
