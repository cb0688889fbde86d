-- `is_well_formed`: the label measured tells whether it is well-formed.
use Rattle.std.proofs.Common.{◌∙◌}
use Rattle.swap.proofs.Texts.{measured_ok}
use Rattle.swap.proofs.kind.is_well_formed.Goals as goal

pub returns : goal.returns
returns c = c.is_ok.ensures.value ∙ measured_ok _ _ c.measure.ensures
