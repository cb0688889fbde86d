-- `tabs_apart`: the marks are those of the TABs passed, which stand apart.
use Prim.Native.Nat.{◌≤◌}
use mathlib.Core.Bool.{true}
use mathlib.Core.Path.{◌≡◌}
use lib.ListN.{length, drop}
use Rattle.records.specs.Sizes.{most_records}
use Rattle.records.specs.Finding.{used, attributes_of}
use Rattle.records.specs.Setup.{tabs_apart}
use Rattle.records.proofs.Walks.{Marked}
use Rattle.records.proofs.Records.tabs_apart.Given as goal

abbrev pub invariant-loop-i : goal.invariant-loop-i
invariant-loop-i l = (l.i ≤ length (used l.self)) × (l.i ≤ most_records) × (length l.seen ≡ 256) × (tabs_apart (drop l.i (attributes_of l.self)) ≡ true) × Marked l.seen (drop l.i (attributes_of l.self))

abbrev pub decreases-loop-i : goal.decreases-loop-i
decreases-loop-i l = l.i
