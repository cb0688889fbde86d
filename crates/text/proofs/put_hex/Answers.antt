-- `put_hex` meets its contract: the digits are laid where the words end.
use lib.ListN.{length-append}
use Rattle.text.proofs.Writing.{unwritten, room_after, joined}
use Rattle.text.proofs.Hexadecimal.{length_hex}
use native.Mathlib.Omega.{arith}
use Rattle.text.proofs.put_hex.Goals as goal
use Rattle.text.proofs.put_hex.Goals.{then-room-at-via-then-room-at, then-room-at-via-else-room-at+then-room-at-2}

pub returns-then-buffer-words : goal.returns-then-buffer-words
returns-then-buffer-words c = unwritten _ _ _ (rw (length-append, length_hex) (omega arith))

pub returns-then-room-at : goal.returns-then-room-at
returns-then-room-at c =
    unwritten _ _ _ (rw (length-append, length_hex) (elim c.then-room-at.branch [ then-room-at-via-then-room-at w ↦ omega arith | then-room-at-via-else-room-at+then-room-at-2 w ↦ omega arith ]))

pub put_digits-requires : goal.put_digits-requires
put_digits-requires c = room_after _ _ _ _ _ _ (omega arith) c.put_words-next.ensures

pub returns : goal.returns
returns c = joined _ _ _ _ _ _ _ _ (rw length_hex (omega arith)) c.put_words-next.ensures c.put_digits.ensures
