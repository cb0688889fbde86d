-- `put_frame` meets its contract: room for the longest words, a good frame, and its words.
use Rattle.frame.proofs.GoodFrame.{inspected_good}
use Rattle.frame_text.proofs.Lengths.{data_of_most}
use Rattle.frame_text.proofs.Outcomes.{no_room, no_frame, good_frame, read_bad, read_good}
use native.Mathlib.Omega.{arith}
use Rattle.frame_text.proofs.put_frame.Goals.{then-buffer-lt-MOST_WORDS-via-then-buffer-lt-MOST_WORDS, then-buffer-lt-MOST_WORDS-via-else-buffer-lt-MOST_WORDS+then-buffer-at}
use Rattle.frame_text.proofs.put_frame.Goals as goal

pub returns-then-buffer-lt-MOST_WORDS : goal.returns-then-buffer-lt-MOST_WORDS
returns-then-buffer-lt-MOST_WORDS c =
    elim c.then-buffer-lt-MOST_WORDS.branch [ then-buffer-lt-MOST_WORDS-via-then-buffer-lt-MOST_WORDS w ↦ no_room _ _ _ (omega arith) | then-buffer-lt-MOST_WORDS-via-else-buffer-lt-MOST_WORDS+then-buffer-at w ↦ no_room _ _ _ (omega arith) ]

pub returns-in_default : goal.returns-in_default
returns-in_default c = no_frame _ _ _ _ (omega arith) (read_bad _ _ _ c.read.ensures c.in_default.is)

pub put_whole-requires : goal.put_whole-requires
put_whole-requires c =
    let frame = c.args.frame.now in
    let good = inspected_good frame _ (read_good _ _ _ c.read.ensures c.in-Ok.is).0 in
    (omega arith, rw c.data_of.ensures (data_of_most _ frame good.most))

pub returns : goal.returns
returns c = let r = read_good _ _ _ c.read.ensures c.in-Ok.is in
    good_frame _ _ _ _ _ _ (omega arith) r.0 (rw (← r.1, ← c.data_of.ensures) c.put_whole.ensures)
