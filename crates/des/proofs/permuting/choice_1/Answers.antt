-- `permuting::choice_1` meets its contract: the rows of the turned matrix, and C and D of these.
-- Assumes nothing.
use mathlib.Core.Path.{ap, sym, ◌∙◌, subst}
use Rattle.computed.specs.Steps.{value}
use Rattle.des.specs.Tables.{PC1}
use Rattle.des.specs.Des.{bits_of, permuted}
use Rattle.des.specs.Words.{Word}
use Rattle.des.specs.Exchanges.{gathered}
use Rattle.des.proofs.Exchanges.{by7, by14, by28, is_choice}
use Rattle.des.proofs.permuting.choice_1.Goals as goal

pub returns : goal.returns
returns c = let s = c in
    let w = s.args.w in
    subst (Word 56 (permuted PC1 (bits_of 64 w)))
    (sym (ap (value gathered) (c.exchange-c.ensures ∙ ap (value by28) (c.exchange-b.ensures ∙ ap (value by14) (c.exchange-a.ensures ∙ ap (value by7) c.reversed.ensures)))))
    (is_choice w s.ranges.w.fits)
