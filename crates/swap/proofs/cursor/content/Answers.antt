-- `content`: the part is the definition's, and none where it would not fit.
use Rattle.swap.proofs.Cursors.{content_none, content_part}
use native.Mathlib.Omega.{arith}
use Rattle.swap.proofs.cursor.content.Goals as goal

pub returns-then-file-count : goal.returns-then-file-count
returns-then-file-count c = let a = c.args in content_none a.file.now a.entry (omega arith)

pub returns : goal.returns
returns c = let a = c.args in content_part a.file.now a.entry (omega arith)
