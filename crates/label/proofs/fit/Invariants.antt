-- Of the characters of the front part that is read, all are counted and those before the last may be kept; a turn reads one sequence more.
use mathlib.Core.Path.{◌≡◌}
use mathlib.Core.List.{List, flatten}
use Prim.Native.Nat.{ℕ, ◌-◌, ◌≤◌}
use lib.ListN.{length, take}
use Rattle.label.specs.Character.{characters}
use Rattle.label.specs.declared.Counts.{Counts}
use Rattle.label.proofs.Turn.{ReadTo, kept_before}
use Rattle.label.proofs.fit.Given as goal

-- the counts of what is kept of a run of characters
abbrev pub KeptCounts : List (List ℕ) → Counts → Type 0
KeptCounts run kept = (kept.octets.0 ≡ length (flatten run)) × (kept.characters.0 ≡ length run)

abbrev pub invariant-loop-at : goal.invariant-loop-at
invariant-loop-at l = ReadTo l.label l.at × (l.begun ≤ l.at) × (l.begun ≡ length (characters (take l.at l.label))) × KeptCounts (kept_before l.octets.0 l.characters.0 (characters (take l.at l.label))) l.kept

abbrev pub decreases-loop-at : goal.decreases-loop-at
decreases-loop-at l = length l.label - l.at
