-- `build` meets its contract: the two tests are those of `built`, in its order.
use mathlib.Core.Path.{◌≡◌, refl, sym, ◌∙◌}
use lib.ListN.{length}
use borrow.Author.Tests.{lt-leb, le-leb}
use Rattle.frame.specs.Sizes.{longest_frame}
use Rattle.frame.specs.Layout.{within}
use Rattle.frame.specs.Building.{built}
use Rattle.frame.proofs.Widths.{range_between, within_bounds}
use Rattle.frame.proofs.builder.build.Goals as goal
use Rattle.frame.proofs.builder.build.Goals.{After-contains}

pub returns-then-buffer-lt-LONGEST_FRAME : goal.returns-then-buffer-lt-LONGEST_FRAME
unfolding built
returns-then-buffer-lt-LONGEST_FRAME c = rw (lt-leb longest_frame _ c.if-buffer-lt-LONGEST_FRAME.true) (refl, refl)

told : (c : After-contains) → c.contains.result ≡ within c.layout_of-layout.result (length c.args.«data».now)
unfolding within
told c = let new = c.new.ensures in
    let l = c.layout_of-layout.result in
    rw (c.contains.ensures.value, new.exhausted, new.start, new.end) (range_between l.least.0 l.most.0 (length c.args.«data».now))

pub returns-then-not-contains : goal.returns-then-not-contains
unfolding built
returns-then-not-contains c = rw (
  le-leb longest_frame _ c.if-buffer-lt-LONGEST_FRAME.false,
  ← c.layout_of-layout.ensures,
  sym (told (goal.at.returns-then-not-contains c).After-contains) ∙ c.if-not-contains.true,
)
    (refl, refl)

pub write-requires : goal.write-requires
write-requires c = (c.if-buffer-lt-LONGEST_FRAME.false, rw (← c.layout_of-layout.ensures) (within_bounds c.layout_of-layout.result _ (sym (told (goal.at.write-requires c).After-contains) ∙ c.if-not-contains.false)).1)

pub returns : goal.returns
unfolding built
returns c = rw (
  c.write.ensures.0,
  c.write.ensures.1,
  le-leb longest_frame _ c.if-buffer-lt-LONGEST_FRAME.false,
  ← c.layout_of-layout.ensures,
  sym (told (goal.at.returns c).After-contains) ∙ c.if-not-contains.false,
)
    (refl, refl)
