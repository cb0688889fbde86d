-- The ranges of the first octet are those that tell the length of its row of the table.
use Rattle.std.proofs.Common.{arith, sym}
use Rattle.label.proofs.Table.{one_octet, two_octets, three_octets, four_octets, none_between, none_above}
use Rattle.label.proofs.utf8.sequence_length.Goals as goal

pub returns-in-0-to-127 : goal.returns-in-0-to-127
returns-in-0-to-127 c = (sym (one_octet _ c.ranges.lead.fits (omega arith)), omega arith)

pub returns-in-194-to-223 : goal.returns-in-194-to-223
returns-in-194-to-223 c = (sym (two_octets _ c.ranges.lead.fits (omega arith) (omega arith)), omega arith)

pub returns-in-224-to-239 : goal.returns-in-224-to-239
returns-in-224-to-239 c = (sym (three_octets _ c.ranges.lead.fits (omega arith) (omega arith)), omega arith)

pub returns-in-240-to-244 : goal.returns-in-240-to-244
returns-in-240-to-244 c = (sym (four_octets _ c.ranges.lead.fits (omega arith) (omega arith)), omega arith)

pub returns-in_default : goal.returns-in_default
returns-in_default c = none_between _ c.ranges.lead.fits (omega arith) (omega arith)

pub returns-in_default-2 : goal.returns-in_default-2
returns-in_default-2 c = none_above _ c.ranges.lead.fits (omega arith)
