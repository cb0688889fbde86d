-- `check_length` meets its contract: the test is the one of `can_have`; the sums fit, since no frame is longer than 128.
use Prim.Native.Nat.{◌+◌}
use mathlib.Core.Path.{◌≡◌, sym, ◌∙◌}
use native.Mathlib.Omega.{arith}
use lib.ListN.{length}
use Rattle.frame.specs.Layout.{layout_of, whole_length, can_have}
use Rattle.frame.proofs.Widths.{limits, range_between}
use Rattle.frame.proofs.checks.check_length.Goals as goal
use Rattle.frame.proofs.checks.check_length.Goals.{After-contains}

pub overflow_add-fixed-2 : goal.overflow_add-fixed-2
overflow_add-fixed-2 c = rw (c.places_of-fixed.ensures, c.layout_of-layout.ensures) (omega (arith, limits c.args.command))

pub overflow_add-fixed-3 : goal.overflow_add-fixed-3
overflow_add-fixed-3 c = rw (c.places_of-fixed.ensures, c.layout_of-layout.ensures) (omega (arith, limits c.args.command))

told : (c : After-contains) → c.contains.result ≡ can_have (layout_of c.args.command) (length c.args.frame.now)
unfolding can_have
told c = let new = c.new.ensures in
    let l = layout_of c.args.command in
    let least : c.places_of-fixed.result.content.0 + 2 + c.layout_of-layout.result.least.0 ≡ whole_length l l.least.0 = rw (c.places_of-fixed.ensures, c.layout_of-layout.ensures) (omega arith) in
    let most : c.places_of-fixed.result.content.0 + 2 + c.layout_of-layout.result.most.0 ≡ whole_length l l.most.0 = rw (c.places_of-fixed.ensures, c.layout_of-layout.ensures) (omega arith) in
    rw (c.contains.ensures.value, new.exhausted, new.start, new.end, least, most) (range_between (whole_length l l.least.0) (whole_length l l.most.0) (length c.args.frame.now))

pub returns-then-contains : goal.returns-then-contains
returns-then-contains c = rw (sym (told (goal.at.returns-then-contains c).After-contains) ∙ c.if-contains.true)

pub returns-else-contains : goal.returns-else-contains
returns-else-contains c = rw (sym (told (goal.at.returns-else-contains c).After-contains) ∙ c.if-contains.false)
