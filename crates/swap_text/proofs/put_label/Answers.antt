-- `put_label`: the octet count, and the character count where the text has one.
use mathlib.Core.Path.{sym, ap, ◌∙◌}
use Rattle.label.specs.Fitting.{answer_of_text}
use Rattle.swap_text.proofs.Parts.{label_octets, label_counts}
use Rattle.swap_text.proofs.put_label.Goals as goal

pub returns-in_default : goal.returns-in_default
returns-in_default c =
    label_octets _ _ _ _ _ c.put_number-next.ensures _ _ (sym c.measure.ensures ∙ ap answer_of_text c.in_default.is)

pub returns : goal.returns
returns c =
    label_counts _ _ _ _ _ c.put_number-next.ensures _ _ _ c.requires (sym c.measure.ensures ∙ ap answer_of_text c.in-Ok.is) c.put_number.ensures
