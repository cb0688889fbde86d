-- Two first octets have a second octet that starts higher; every other range starts where that of a tail octet does.
use Rattle.std.proofs.Common.{arith, sym, ap}
use borrow.Author.Tests.{ne_eqb}
use Rattle.label.specs.Utf8.{Range}
use Rattle.label.proofs.Table.{second_least, later}
use Rattle.label.proofs.utf8.lowest.Goals as goal

pub returns-in-1-eq224 : goal.returns-in-1-eq224
returns-in-1-eq224 c = sym (rw (c.in-1-eq224.is-1, c.in-1-eq224.is-0) (second_least 224 (omega arith)))

pub returns-in-1-eq240 : goal.returns-in-1-eq240
returns-in-1-eq240 c = sym (rw (c.in-1-eq240.is-1, c.in-1-eq240.is-0) (second_least 240 (omega arith)))

pub returns-in_default : goal.returns-in_default
returns-in_default c =
    let other = c.in_default.is-1 in
    sym (rw (c.in_default.is-0, second_least _ c.ranges.lead.fits, ne_eqb _ _ other.0.1, ne_eqb _ _ other.1))

pub returns-in_default-2 : goal.returns-in_default-2
returns-in_default-2 c = sym (ap (λ (r : Range). r.least) (later _ c.ranges.lead.fits _ (omega (arith, c.requires, c.in_default.is-0.1))))
