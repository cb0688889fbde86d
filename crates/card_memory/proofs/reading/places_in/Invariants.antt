-- `places_in` fills an array: after i turns it has the first i records.
use mathlib.Core.Path.{◌≡◌}
use Prim.Native.Nat.{◌≤◌}
use mathlib.Core.List.{◌++◌}
use lib.ListN.{length, take, drop}
use Rattle.card_memory.specs.Layout.{records_at, record_places}
use Rattle.card_memory.specs.Decoding.{records_in}
use Rattle.card_memory.proofs.reading.places_in.Given as goal

abbrev pub invariant-loop-i : goal.invariant-loop-i
invariant-loop-i l = (l.start ≤ records_at) × (length l.initial.each ≡ record_places) × (l.each ≡ take l.i (records_in record_places l.start l.memory) ++ drop l.i l.initial.each)
