-- `judge_head`: the address with TAB, the kind, then the length and the data.
use Prim.Native.Nat.{ℕ}
use mathlib.Core.Path.{sym, ap₂, ◌∙◌}
use Rattle.swap.specs.declared.kind.Kind.{Kind}
use Rattle.swap.proofs.KindOctets.{kind_unknown, kind_known}
use Rattle.swap_write.specs.Heading.{data_judged}
use Rattle.swap_write.proofs.Headed.{head_low, head_unknown, head_data}
use Rattle.swap_write.proofs.judge.judge_head.Goals as goal

pub returns-then-rank-least : goal.returns-then-rank-least
returns-then-rank-least c = let a = c.args in
    head_low a.least a.heads.now a.contents.now (rw (← c.rank.ensures) c.if-rank-least.true)

pub returns-in_default : goal.returns-in_default
returns-in_default c = let a = c.args in
    head_unknown a.least a.heads.now a.contents.now (rw (← c.rank.ensures) c.if-rank-least.false) (kind_unknown _ _ (sym c.try_from.ensures ∙ c.in_default.is))

pub returns : goal.returns
returns c = let a = c.args in
    let k = kind_known _ _ (sym c.try_from.ensures ∙ c.in-Ok.is) in
    c.judge_data.ensures
    ∙ ap₂ (λ (k : Kind) (n : ℕ). data_judged k n a.contents.now) k.1 c.head_length.ensures
    ∙ head_data a.least a.heads.now a.contents.now (rw (← c.rank.ensures) c.if-rank-least.false) k.0
