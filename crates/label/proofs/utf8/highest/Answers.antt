-- Two first octets have a second octet that ends lower; every other range ends where that of a tail octet does.
use Rattle.std.proofs.Common.{arith, sym, ap}
use borrow.Author.Tests.{ne_eqb}
use Rattle.label.specs.Utf8.{Range}
use Rattle.label.proofs.Table.{second_greatest, later}
use Rattle.label.proofs.utf8.highest.Goals as goal

pub returns-in-1-eq237 : goal.returns-in-1-eq237
returns-in-1-eq237 c = sym (rw (c.in-1-eq237.is-1, c.in-1-eq237.is-0) (second_greatest 237 (omega arith)))

pub returns-in-1-eq244 : goal.returns-in-1-eq244
returns-in-1-eq244 c = sym (rw (c.in-1-eq244.is-1, c.in-1-eq244.is-0) (second_greatest 244 (omega arith)))

pub returns-in_default : goal.returns-in_default
returns-in_default c =
    let other = c.in_default.is-1 in
    sym (rw (c.in_default.is-0, second_greatest _ c.ranges.lead.fits, ne_eqb _ _ other.0.1, ne_eqb _ _ other.1))

pub returns-in_default-2 : goal.returns-in_default-2
returns-in_default-2 c = sym (ap (λ (r : Range). r.greatest) (later _ c.ranges.lead.fits _ (omega (arith, c.requires, c.in_default.is-0.1))))
