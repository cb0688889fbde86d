-- `file_size`: what is summed and the octets of the heads left make up the whole.
use Prim.Native.Nat.{◌+◌, ◌-◌, ◌/◌}
use mathlib.Core.Path.{◌≡◌, ◌∙◌}
use lib.ListN.{length}
use Rattle.number.proofs.Laying.{encoded_short}
use Rattle.swap.proofs.Parts.{part_rest}
use Rattle.swap_write.proofs.Sized.{summed_start, summed_long, summed_whole, summed_cut, summed_next, summed_rest}
use native.Mathlib.Omega.{arith}
use Rattle.swap_write.proofs.size.file_size.Goals as goal

pub loop-summed-init : goal.loop-summed-init
loop-summed-init c = let a = c.args in
    let z : length a.heads.now / 10 - 0 ≡ length a.heads.now / 10 = omega arith in
    rw (z, c.width_of-sum.ensures) (summed_start a.heads.now a.contents.now (λ i. (c.type_inv.heads i).fits))

pub returns-then-sum-gt-FILE_LIMIT : goal.returns-then-sum-gt-FILE_LIMIT
returns-then-sum-gt-FILE_LIMIT c = let l = c.loop-summed in
    summed_long _ _ _ _ _ l.sum _ l.invariant c.if-sum-gt-FILE_LIMIT.true

pub overflow_add-sum : goal.overflow_add-sum
overflow_add-sum c = omega (arith, c.width_of.ensures, encoded_short c.head_length-length.result.0)

pub overflow_add-sum-in-loop-summed : goal.overflow_add-sum-in-loop-summed
overflow_add-sum-in-loop-summed c = omega (arith, c.width_of.ensures, encoded_short c.head_length-length.result.0, c.if-sum-gt-FILE_LIMIT.false)

pub returns-then-data_left-length : goal.returns-then-data_left-length
returns-then-data_left-length c = let l = c.loop-summed in
    c.after.ensures
    ∙ summed_whole _ _ _
    (summed_cut _ _ _ _ _ l.sum _ l.invariant (omega arith) (rw (← c.head_length-length.ensures) c.if-data_left-length.true)
    ∙ rw (c.width_of.ensures, c.head_length-length.ensures))

pub overflow_add-sum-in-loop-summed-2 : goal.overflow_add-sum-in-loop-summed-2
overflow_add-sum-in-loop-summed-2 c =
    omega (arith, c.width_of.ensures, encoded_short c.head_length-length.result.0, c.if-sum-gt-FILE_LIMIT.false, c.if-data_left-length.false, c.well_formed)

pub loop-summed-preserved : goal.loop-summed-preserved
loop-summed-preserved c = let l = c.loop-summed in
    let left : length c.args.heads.now / 10 - (l._summed + 1) ≡ length c.args.heads.now / 10 - l._summed - 1 = omega arith in
    rw (left, c.width_of.ensures, c.head_length-length.ensures, part_rest, part_rest)
    (summed_next _ _ _ _ _ l.sum _ l.invariant (omega arith) (rw (← c.head_length-length.ensures) c.if-data_left-length.false))

pub overflow_add-heads_left : goal.overflow_add-heads_left
overflow_add-heads_left c = omega (arith, c.loop-summed.invariant.heads_within, c.loop-summed.invariant.data_within, c.well_formed)

pub returns : goal.returns
returns c = let l = c.loop-summed in
    let z : length c.args.heads.now / 10 - l._summed ≡ 0 = omega arith in
    c.after-2.ensures ∙ summed_whole _ _ _ (summed_rest _ _ _ _ _ l.sum (rw z at l.invariant))
