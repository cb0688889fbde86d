-- `fill` meets its contract: DATA is as long as the lent part, so it takes the place of all of it.
use mathlib.Core.Path.{sym, ◌∙◌}
use Rattle.octets.proofs.Splice.{spliced_whole}
use Rattle.frame.proofs.builder.fill.Goals as goal

pub returns : goal.returns
returns c = c.put.ensures ∙ spliced_whole _ _ (sym c.requires)
