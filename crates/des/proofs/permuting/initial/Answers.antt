-- `permuting::initial` meets its contract: five exchanges, of which antt tests that they are the table's.
-- Assumes nothing.
use mathlib.Core.Path.{ap, sym, ◌∙◌, subst}
use Rattle.computed.specs.Steps.{value}
use Rattle.des.specs.Tables.{IP}
use Rattle.des.specs.Des.{bits_of, permuted}
use Rattle.des.specs.Words.{Word}
use Rattle.des.proofs.Exchanges.{by6, by9, by18, by36, is_initial}
use Rattle.des.proofs.permuting.initial.Goals as goal

pub returns : goal.returns
returns c = let s = c in
    let w = s.args.w in
    subst (Word 64 (permuted IP (bits_of 64 w)))
    (sym (c.exchange.ensures ∙ ap (value by36) (c.exchange-d.ensures ∙ ap (value by18) (c.exchange-c.ensures ∙ ap (value by9) (c.exchange-b.ensures ∙ ap (value by6) c.exchange-a.ensures)))))
    (is_initial w s.ranges.w.fits)
