-- `put_items` meets its contract: each field is written where the last one ends.
use Prim.Native.Nat.{suc}
use native.Mathlib.Numerals.{add-one}
use Rattle.std.proofs.Math.Seq.{take-length}
use mathlib.Core.Path.{◌≡◌}
use native.Mathlib.Omega.{arith}
use lib.ListN.{length, take, length-append}
use Rattle.text.proofs.Writing.{joined}
use Rattle.frame.proofs.Shape.{shaped}
use Rattle.frame_text.specs.declared.items.Item.TheVariants.{Na1}
use Rattle.frame_text.specs.Words.{items_words}
use Rattle.frame_text.proofs.Lengths.{nothing_written, words_next, words_most}
use Rattle.frame_text.proofs.items.put_items.Goals as goal

pub loop-item-init : goal.loop-item-init
unfolding items_words
loop-item-init c = nothing_written _ _

pub loop-item-preserved : goal.loop-item-preserved
loop-item-preserved c =
    let l = c.args.items.now in
    let k = c.loop-item.item-index in
    let d = c.args.«data».now in
    let long = words_most c.args.fields d l (suc k) (shaped c.args.fields _ c.well_formed.1.1.1.0) c.requires.1 in
    let next = words_next c.args.fields d l k Na1 c.loop-item-test.true in
    let most = rw (next, length-append) at long in
    rw (add-one, next) (joined _ _ _ _ _ _ _ _ (omega (arith, most, c.requires.0)) c.loop-item.invariant c.put_item-next.ensures)

pub returns : goal.returns
returns c =
    let whole : c.loop-item.item-index ≡ length c.args.items.now = omega (arith, c.loop-item.auto.item-index-end, c.loop-item-test.false) in
    let all : take c.loop-item.item-index c.args.items.now ≡ c.args.items.now = rw whole (take-length _) in
    rw all at c.loop-item.invariant
