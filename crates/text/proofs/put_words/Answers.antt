-- `put_words` meets its contract: the words are spliced in where they fit.
use mathlib.Core.Path.{sym}
use Rattle.text.proofs.Writing.{unwritten, after_fits}
use native.Mathlib.Omega.{arith}
use Rattle.text.proofs.put_words.Goals as goal
use Rattle.text.proofs.put_words.Goals.{then-buffer-words-via-then-buffer-words, then-buffer-words-via-else-buffer-words+then-buffer-words-2}

pub returns-then-buffer-words : goal.returns-then-buffer-words
returns-then-buffer-words c =
    unwritten _ _ _ (elim c.then-buffer-words.branch [ then-buffer-words-via-then-buffer-words w ↦ omega arith | then-buffer-words-via-else-buffer-words+then-buffer-words-2 w ↦ omega arith ])

pub returns : goal.returns
returns c = (sym (after_fits _ _ _ (omega arith)), c.put.ensures)
