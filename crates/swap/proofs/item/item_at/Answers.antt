-- `item_at`: each way out is a case of the definition, by the tests on the part from the record's start on.
use mathlib.Core.Path.{sym, ap, ◌∙◌}
use Rattle.swap.specs.Cursor.{content_at}
use Rattle.swap.proofs.Parts.{part_rest, length_rest}
use Rattle.swap.proofs.KindOctets.{kind_unknown, kind_known}
use Rattle.swap.proofs.Judging.{item_cut, item_low, item_short, item_unknown, item_content}
use native.Mathlib.Omega.{arith}
use Rattle.swap.proofs.item.item_at.Goals.{then-octets-lt7-via-then-octets-lt7, then-octets-lt7-via-else-octets-lt7+then-rank-least}
use Rattle.swap.proofs.item.item_at.Goals as goal

pub returns-then-octets-lt7 : goal.returns-then-octets-lt7
returns-then-octets-lt7 c = let a = c.args in
    let s = a.file.now in
    elim c.then-octets-lt7.branch [
      | then-octets-lt7-via-then-octets-lt7 w ↦ item_cut a.least s a.at _ (part_rest s a.at) (omega (arith, w.if-octets-lt7.true, length_rest s a.at))
      | then-octets-lt7-via-else-octets-lt7+then-rank-least w ↦ item_low a.least s a.at _ (part_rest s a.at) (rw (← w.rank.ensures) w.if-rank-least.true)
    ]

pub returns-then-octets-lt8 : goal.returns-then-octets-lt8
returns-then-octets-lt8 c = let a = c.args in
    let s = a.file.now in
    item_short a.least s a.at _ (part_rest s a.at) (omega (arith, c.if-octets-lt7.false, length_rest s a.at)) (rw (← c.rank.ensures) c.if-rank-least.false) (omega (arith, c.if-octets-lt8.true, length_rest s a.at))

pub returns-in_default : goal.returns-in_default
returns-in_default c = let a = c.args in
    let s = a.file.now in
    item_unknown a.least s a.at _ (part_rest s a.at) (omega (arith, c.if-octets-lt7.false, length_rest s a.at)) (rw (← c.rank.ensures) c.if-rank-least.false) (kind_unknown _ _ (sym c.try_from.ensures ∙ c.in_default.is))

pub returns : goal.returns
returns c = let a = c.args in
    let s = a.file.now in
    let k = kind_known _ _ (sym c.try_from.ensures ∙ c.in-Ok.is) in
    c.content_at.ensures
    ∙ ap (λ v. content_at v s a.at) k.1
    ∙ item_content a.least s a.at _ (part_rest s a.at) (omega (arith, c.if-octets-lt7.false, length_rest s a.at)) (rw (← c.rank.ensures) c.if-rank-least.false) (omega (arith, c.if-octets-lt8.false, length_rest s a.at)) k.0
