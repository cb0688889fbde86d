-- `boxes::boxes` meets its contract: the array is the table of the definitions, entry by entry.
-- Assumes nothing.
use mathlib.Core.Path.{refl}
use Rattle.des.specs.Tables.{boxes}
use Rattle.des.proofs.boxes.boxes.Goals as goal

pub returns : goal.returns
unfolding boxes
returns c = refl
