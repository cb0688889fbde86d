-- `judge_records`: the records counted and what is left to read make up the verdict.
use Prim.Native.Nat.{ℕ, ◌+◌, ◌-◌, ◌<◌}
use mathlib.Core.Path.{◌≡◌, sym, ap, ◌∙◌}
use mathlib.Core.List.{List}
use lib.ListN.{length, get_or, take, drop}
use Rattle.std.proofs.lemmas.Result.{err_from_is_err_and}
use Rattle.swap.specs.Record.{rank_of}
use Rattle.swap.proofs.Ranks.{rank_rest_below}
use Rattle.swap.proofs.Parts.{part_rest}
use Rattle.swap.proofs.Tally.{tally_start, tally_bad, tally_good, tally_rest, tally_end}
use native.Mathlib.Omega.{arith}
use Rattle.swap.proofs.file.judge_records.Goals as goal

-- the rank of the record at an offset
rank_there : (s : List ℕ) (at r : ℕ) → r ≡ rank_of (take 7 (take (length s - at) (drop at s))) → r ≡ rank_of (take 7 (drop at s))
rank_there s at r e = e ∙ ap (λ (t : List ℕ). rank_of (take 7 t)) (part_rest s at)

pub loop-judged-init : goal.loop-judged-init
loop-judged-init c =
    let z : c.args.count - 0 ≡ c.args.count = omega arith in
    rw z (tally_start c.args.file.now c.args.count c.args.start c.requires)

pub item_at-requires : goal.item_at-requires
item_at-requires c = c.loop-judged.invariant.within

pub returns-in_err-entry : goal.returns-in_err-entry
returns-in_err-entry c = let l = c.loop-judged in
    let p = err_from_is_err_and c.from_residual.result c.from_residual.ensures.1 in
    rw (p.1, p.2) (tally_bad _ _ _ l.at (c.args.count - l._judged) l.least _ l.invariant (omega arith) (sym c.item_at.ensures ∙ c.in_err-entry.was))

pub overflow_add-least : goal.overflow_add-least
overflow_add-least c = let s = c.args.file.now in
    let octets : (j : ℕ) → get_or s j 0 < 256 = λ j. (c.type_inv.file j).fits in
    omega (arith, rank_there s c.loop-judged.at c.rank-least.result c.rank-least.ensures, rank_rest_below s c.loop-judged.at octets)

pub overflow_add-at : goal.overflow_add-at
overflow_add-at c = let l = c.loop-judged in
    omega (arith, (tally_good _ _ _ l.at (c.args.count - l._judged) l.least c.in_ok-entry.entry l.invariant (omega arith) (sym c.item_at.ensures ∙ c.in_ok-entry.was)).within)

pub loop-judged-preserved : goal.loop-judged-preserved
loop-judged-preserved c = let l = c.loop-judged in
    let left : c.args.count - (l._judged + 1) ≡ c.args.count - l._judged - 1 = omega arith in
    rw (left, rank_there c.args.file.now l.at c.rank-least.result c.rank-least.ensures)
    (tally_good _ _ _ l.at (c.args.count - l._judged) l.least c.in_ok-entry.entry l.invariant (omega arith) (sym c.item_at.ensures ∙ c.in_ok-entry.was))

pub returns-then-at-file : goal.returns-then-at-file
returns-then-at-file c = let l = c.loop-judged in
    let z : c.args.count - l._judged ≡ 0 = omega arith in
    tally_rest _ _ _ l.at l.least (rw z at l.invariant) c.if-at-file.true

pub returns : goal.returns
returns c = let l = c.loop-judged in
    let z : c.args.count - l._judged ≡ 0 = omega arith in
    tally_end _ _ _ l.at l.least (rw z at l.invariant) c.if-at-file.false
