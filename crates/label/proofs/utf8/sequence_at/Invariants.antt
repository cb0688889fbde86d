-- The first octet gives the row, and the loop judges each further octet by its range: what is left of the row decides.
use Rattle.std.proofs.Common.{◌≡◌, cond, ◌+◌, drop}
use Rattle.label.specs.Utf8.{begins, sequence_length}
use Rattle.label.specs.Lead.{row_of}
use Rattle.label.proofs.utf8.sequence_at.Given as goal

abbrev pub invariant-loop-place : goal.invariant-loop-place
invariant-loop-place l = sequence_length (drop l.at l.text) ≡ cond (begins (drop l.place (row_of l.lead)) (drop (l.at + l.place) l.text)) l.length 0
