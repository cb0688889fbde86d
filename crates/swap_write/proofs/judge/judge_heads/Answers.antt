-- `judge_heads`: the heads counted and the octets of those left make up the verdict.
use Prim.Native.Nat.{◌+◌, ◌-◌}
use mathlib.Core.Path.{◌≡◌, sym, ◌∙◌}
use Rattle.swap.proofs.Ranks.{rank_below}
use Rattle.swap.proofs.Parts.{part_rest}
use Rattle.swap_write.proofs.Body.{head_good}
use Rattle.swap_write.proofs.Headed.{head_bad}
use Rattle.swap_write.proofs.Judged.{judging_start, Judging-bad, Judging-good, judging_left_over, judging_done}
use Rattle.swap_write.proofs.Tests.{filled, emptied}
use native.Mathlib.Omega.{arith}
use Rattle.swap_write.proofs.judge.judge_heads.Goals.{then-not-is_empty-via-then-not-is_empty, then-not-is_empty-via-else-not-is_empty+then-not-is_empty-2}
use Rattle.swap_write.proofs.judge.judge_heads.Goals as goal

pub loop-judged-init : goal.loop-judged-init
loop-judged-init c = let a = c.args in
    let z : a.count - 0 ≡ a.count = omega arith in
    rw (z, c.width_of-at.ensures) (judging_start a.heads.now a.contents.now a.count (λ i. (c.type_inv.heads i).fits) c.requires.0 c.requires.1)

pub overflow_add-result : goal.overflow_add-result
overflow_add-result c = omega (arith, c.loop-judged.invariant.small, head_bad _ _ _ _ (sym c.judge_head.ensures ∙ c.in-Err.is))

pub returns-in-Err : goal.returns-in-Err
returns-in-Err c = let l = c.loop-judged in
    Judging-bad c.args.count _ _ _ l.at (c.args.count - l._judged) l.least _ l.invariant (omega arith) (sym c.judge_head.ensures ∙ c.in-Err.is)

pub overflow_add-least : goal.overflow_add-least
overflow_add-least c =
    omega (arith, c.rank-least.ensures, rank_below c.loop-judged.heads_left.now c.loop-judged.invariant.octets)

pub overflow_add-at : goal.overflow_add-at
overflow_add-at c = omega (arith, c.width_of.ensures, (Judging-good c.args.count _ _ _ c.loop-judged.at (c.args.count - c.loop-judged._judged) c.loop-judged.least c.in-Ok.stated.0 c.loop-judged.invariant (omega arith) (sym c.judge_head.ensures ∙ c.in-Ok.is)).small)

pub overflow_add-at-in-loop-judged : goal.overflow_add-at-in-loop-judged
overflow_add-at-in-loop-judged c = omega (arith, c.width_of.ensures, (Judging-good c.args.count _ _ _ c.loop-judged.at (c.args.count - c.loop-judged._judged) c.loop-judged.least c.in-Ok.stated.0 c.loop-judged.invariant (omega arith) (sym c.judge_head.ensures ∙ c.in-Ok.is)).small)

pub overflow_add-at-in-loop-judged-2 : goal.overflow_add-at-in-loop-judged-2
overflow_add-at-in-loop-judged-2 c = omega (arith, c.width_of.ensures, (Judging-good c.args.count _ _ _ c.loop-judged.at (c.args.count - c.loop-judged._judged) c.loop-judged.least c.in-Ok.stated.0 c.loop-judged.invariant (omega arith) (sym c.judge_head.ensures ∙ c.in-Ok.is)).small)

pub slice_bounds-data_left-count : goal.slice_bounds-data_left-count
slice_bounds-data_left-count c =
    let g = head_good c.loop-judged.least c.loop-judged.heads_left.now c.loop-judged.data_left.now c.in-Ok.stated.0 (sym c.judge_head.ensures ∙ c.in-Ok.is) in
    omega (arith, g.0, g.1)

pub slice_bounds-data_left-start : goal.slice_bounds-data_left-start
slice_bounds-data_left-start c =
    let g = head_good c.loop-judged.least c.loop-judged.heads_left.now c.loop-judged.data_left.now c.in-Ok.stated.0 (sym c.judge_head.ensures ∙ c.in-Ok.is) in
    omega (arith, g.0, g.1)

pub loop-judged-preserved : goal.loop-judged-preserved
loop-judged-preserved c =
    let left : c.args.count - (c.loop-judged._judged + 1) ≡ c.args.count - c.loop-judged._judged - 1 = omega arith in
    rw (left, c.width_of.ensures, c.rank-least.ensures, part_rest, part_rest) (Judging-good c.args.count _ _ _ c.loop-judged.at (c.args.count - c.loop-judged._judged) c.loop-judged.least c.in-Ok.stated.0 c.loop-judged.invariant (omega arith) (sym c.judge_head.ensures ∙ c.in-Ok.is))

pub returns-then-not-is_empty : goal.returns-then-not-is_empty
returns-then-not-is_empty c = let l = c.loop-judged in
    let z : c.args.count - l._judged ≡ 0 = omega arith in
    judging_left_over c.args.count _ _ _ l.at l.least (rw z at l.invariant)
    (elim c.then-not-is_empty.branch [
      | then-not-is_empty-via-then-not-is_empty w ↦ let h = filled _ _ c.is_empty.ensures w.if-not-is_empty.true in omega arith
      | then-not-is_empty-via-else-not-is_empty+then-not-is_empty-2 w ↦ let h = filled _ _ w.is_empty-else-not-is_empty.ensures w.if-not-is_empty-2.true in omega arith
    ])

pub returns : goal.returns
returns c = let l = c.loop-judged in
    let z : c.args.count - l._judged ≡ 0 = omega arith in
    let h = emptied _ _ c.is_empty.ensures c.if-not-is_empty.false in
    let d = emptied _ _ c.is_empty-else-not-is_empty.ensures c.if-not-is_empty-2.false in
    judging_done c.args.count _ _ _ l.at l.least (rw z at l.invariant) (omega arith)
