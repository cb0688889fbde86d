-- `put_all_contents` puts one record's contents after the other: what is left to put makes the whole.
use Prim.Native.Nat.{◌+◌, ◌*◌}
use mathlib.Core.Path.{◌≡◌}
use lib.ListN.{drop}
use Rattle.receiver_memory.specs.Puts.{put_all}
use Rattle.card_memory.specs.Layout.{records_at, record_size}
use Rattle.card_memory.specs.Encoding.{contents_puts}
use Rattle.card_memory.proofs.writing.put_all_contents.Given as goal

abbrev pub invariant-loop-stored : goal.invariant-loop-stored
invariant-loop-stored l = (l.at ≡ records_at + record_size * l.stored-index)
    × (put_all (contents_puts l.at (drop l.stored-index l.each)) l.memory ≡ put_all (contents_puts records_at l.each) l.initial.memory)
