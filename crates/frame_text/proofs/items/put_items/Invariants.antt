use lib.ListN.{take}
use Rattle.text.proofs.Writing.{Written}
use Rattle.frame_text.specs.Words.{items_words}
use Rattle.frame_text.proofs.items.put_items.Given as goal

-- the words of the fields so far are written
abbrev pub invariant-loop-item : goal.invariant-loop-item
invariant-loop-item l = Written l.fn.buffer l.fn.at.0 (items_words (take l.item-index l.items) l.fields l.«data») l.next.0 l.buffer
