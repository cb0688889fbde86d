-- `put_line`: the text with its line feed is a part of the line, and goes to the buffer as it is.
use Rattle.swap_text.proofs.Whole.{with_feed}
use Rattle.swap_text.proofs.put_line.Goals as goal

pub returns : goal.returns
returns c = rw (c.part.ensures, with_feed _ _ _ _ c.requires c.put_words-length.ensures) at c.put_words.ensures
