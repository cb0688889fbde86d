-- `contents_answers`: the answer of the rest is the answer of the whole.
use mathlib.Core.Path.{◌≡◌}
use lib.ListN.{drop}
use Rattle.records.specs.Setup.{contents_number}
use Rattle.records.proofs.Records.contents_answers.Given as goal

abbrev pub invariant-loop-record : goal.invariant-loop-record
invariant-loop-record l = contents_number l.record-items ≡ contents_number (drop l.record-index l.record-items)
