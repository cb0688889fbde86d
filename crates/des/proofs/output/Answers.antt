-- `output` meets its contract: the halves are exchanged, permuted by the inverse of IP, and laid out as octets.
-- Assumes nothing.
use mathlib.Core.Path.{ap, ◌∙◌}
use Rattle.des.specs.Tables.{inverse_ip}
use Rattle.des.specs.Des.{octets, permuted}
use Rattle.des.proofs.output.Goals as goal

pub returns : goal.returns
returns c = c.octets.ensures ∙ ap (octets 8) (c.inverse_initial.ensures.same ∙ ap (permuted inverse_ip) c.exchanged.ensures.same)
