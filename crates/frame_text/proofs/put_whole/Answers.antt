-- `put_whole` meets its contract: the fields are written where the head ends.
use mathlib.Core.Path.{◌∙◌}
use mathlib.Core.List.{◌++◌}
use lib.ListN.{length-append}
use Rattle.text.proofs.Writing.{after_fits, room_after, joined}
use Rattle.frame.proofs.Shape.{shaped}
use Rattle.frame_text.specs.Words.{items_of, items_words, head_words, words_of}
use Rattle.frame_text.proofs.Lengths.{head_most, items_most, items_long}
use native.Mathlib.Omega.{arith}
use Rattle.frame_text.proofs.put_whole.Goals as goal

pub put_items-requires : goal.put_items-requires
put_items-requires c =
    let long = shaped c.args.fields _ c.well_formed.1.1.1.0 in
    let command = c.args.command in
    rw c.items_of.ensures (
      room_after _ _ _ _ _ _ (omega (arith, c.requires.0, head_most command c.args.fields long, items_most command)) c.put_head-next.ensures,
      c.requires.1,
    )

pub returns : goal.returns
unfolding words_of
returns c =
    let f = c.args.fields in
    let d = c.args.«data».now in
    let command = c.args.command in
    let long = shaped f _ c.well_formed.1.1.1.0 in
    let head = head_most command f long in
    let items = items_long (items_of command) f d long c.requires.1 in
    let most = items_most command in
    let whole = joined _ _ (head_words command f) (items_words (items_of command) f d) _ _ _ _ (omega (arith, c.requires.0)) c.put_head-next.ensures (rw c.items_of.ensures at c.put_items.ensures) in (
      whole.0 ∙ after_fits c.args.buffer.now c.args.at.0 (head_words command f ++ items_words (items_of command) f d) (rw length-append (omega (arith, c.requires.0))),
      whole.1,
    )
