-- `tabs_apart`: the marks are those of the TABs passed, which stand apart.
use mathlib.Core.Path.{◌≡◌, refl, sym, ◌∙◌}
use native.Mathlib.Omega.{arith}
use lib.ListN.{length-set}
use Rattle.records.proofs.Shape.{in_use_length}
use Rattle.records.proofs.Walks.{apart_end, marks_none, seen_stop, seen_pass, seen_next}
use Rattle.records.proofs.Records.tabs_apart.Goals as goal

pub loop-i-init : goal.loop-i-init
loop-i-init c = let s = c.args.self in
    let n = c.in_use-i.result in
    let long = in_use_length s _ c.well_formed.0 n c.in_use-i.ensures in
    (omega (arith, long), omega (arith, c.in_use-i.ensures), refl, apart_end s n (omega (arith, long)), marks_none s n (omega (arith, long)))

pub returns-then-seen-tab : goal.returns-then-seen-tab
returns-then-seen-tab c = let w = c in
    let l = w.loop-i in
    sym (seen_stop w.args.self l.i (omega arith) l.invariant.0 l.seen (omega arith) l.invariant.4 (rw c.from-tab.ensures at c.if-seen-tab.true))

pub loop-i-preserved : goal.loop-i-preserved
loop-i-preserved c = let w = c in
    let l = w.loop-i in
    let s = w.args.self in
    (omega arith, omega arith, length-set l.seen _ _ ∙ l.invariant.2, seen_pass s l.i (omega arith) l.invariant.0 l.seen (omega arith) l.invariant.4 (rw c.from-tab.ensures at c.if-seen-tab.false) l.invariant.3, rw c.from-tab.ensures (seen_next s l.i (omega arith) l.invariant.0 l.seen (omega arith) l.invariant.4 l.invariant.2))

pub returns : goal.returns
returns c = let l = c.loop-i in
    let e : l.i ≡ 0 = omega arith in
    sym (rw e at l.invariant.3)
