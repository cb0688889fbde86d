-- The count is that of the characters of the front part that is read; a turn reads one sequence more.
use mathlib.Core.Path.{◌≡◌}
use Prim.Native.Nat.{◌-◌, ◌≤◌}
use lib.ListN.{length, take}
use Rattle.label.specs.Character.{characters}
use Rattle.label.proofs.Turn.{ReadTo}
use Rattle.label.proofs.measure.Given as goal

abbrev pub invariant-loop-at : goal.invariant-loop-at
invariant-loop-at l = ReadTo l.text l.at × (l.characters ≤ l.at) × (l.characters ≡ length (characters (take l.at l.text)))

abbrev pub decreases-loop-at : goal.decreases-loop-at
decreases-loop-at l = length l.text - l.at
