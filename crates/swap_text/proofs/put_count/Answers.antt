-- `put_count`: the words and the count are made in an array, and taken over with a line feed.
use native.Mathlib.Omega.{arith}
use Rattle.text.proofs.Digits.{text_most}
use Rattle.swap_text.specs.Lines.{count_line}
use Rattle.swap_text.proofs.Whole.{made, taken_over}
use Rattle.swap_text.proofs.put_count.Goals as goal

pub put_line-requires : goal.put_line-requires
put_line-requires c =
    let g = made _ _ _ _ (omega (arith, text_most c.args.records.0)) c.put_number-end.ensures in
    omega (arith, g.0, g.2, text_most c.args.records.0)

pub returns : goal.returns
unfolding count_line
returns c =
    let g = made _ _ _ _ (omega (arith, text_most c.args.records.0)) c.put_number-end.ensures in
    taken_over _ _ _ _ _ _ c.put_line.ensures g.1
