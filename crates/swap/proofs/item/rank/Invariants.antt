-- `rank`: what is passed of the octets, as a number, stands before what is left.
use mathlib.Core.Path.{◌≡◌}
use lib.ListN.{take, drop}
use Rattle.swap.specs.Record.{number_from, rank_of}
use Rattle.swap.proofs.item.rank.Given as goal

abbrev pub invariant-loop-octet : goal.invariant-loop-octet
invariant-loop-octet l = number_from l.number (drop l.octet-index l.front) ≡ rank_of (take 7 l.octets)
