-- `stated_by` meets its contract: the test is the one of `stated_by`.
use mathlib.Core.Path.{◌≡◌, refl}
use mathlib.Core.Bool.{Bool, true, false, cond}
use Rattle.std.specs.Bool.{then_some}
use Rattle.numbers.specs.Table.{length_out_of_range}
use Rattle.numbers.specs.Answer.{given, refused}
use Rattle.numbers.specs.declared.Octets.{Octets}
use Rattle.octets.specs.Between.{between}
use Rattle.frame.specs.Sizes.{shortest_frame, longest_frame}
use Rattle.frame.specs.Checks.{answer_of_stated, stated_by}
use Rattle.frame.proofs.Widths.{range_between}
use Rattle.frame.proofs.checks.stated_by.Goals as goal

answered : (b : Bool) (n : Octets) → answer_of_stated (then_some b n) ≡ cond b (given n) (refused length_out_of_range)
answered true n = refl
answered false n = refl

pub returns : goal.returns
unfolding stated_by
returns c = let new = c.new.ensures in
    let told : c.contains.result ≡ between shortest_frame longest_frame c.from-whole.result = rw (c.contains.ensures.value, new.exhausted, new.start, new.end) (range_between shortest_frame longest_frame c.from-whole.result) in
    rw (c.then_some.ensures, told, c.from-whole.ensures) (answered _ _)
