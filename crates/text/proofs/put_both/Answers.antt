-- `put_both` meets its contract: one text where another ends is both.
use lib.ListN.{length-append}
use Rattle.text.proofs.Writing.{unwritten, joined}
use native.Mathlib.Omega.{arith}
use Rattle.text.proofs.put_both.Goals as goal
use Rattle.text.proofs.put_both.Goals.{then-room-second-via-then-room-second, then-room-second-via-else-room-second+then-room-second-2}

pub returns-then-buffer-first : goal.returns-then-buffer-first
returns-then-buffer-first c = unwritten _ _ _ (rw length-append (omega arith))

pub returns-then-room-second : goal.returns-then-room-second
returns-then-room-second c =
    unwritten _ _ _ (rw length-append (elim c.then-room-second.branch [ then-room-second-via-then-room-second w ↦ omega arith | then-room-second-via-else-room-second+then-room-second-2 w ↦ omega arith ]))

pub returns : goal.returns
returns c = joined _ _ _ _ _ _ _ _ (omega arith) c.put_words-next.ensures c.put_words.ensures
