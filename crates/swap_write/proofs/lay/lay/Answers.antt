-- `lay`: what is laid and the octets of the heads left make up the file.
use Prim.Native.Nat.{◌+◌, ◌-◌, ◌/◌}
use mathlib.Core.Path.{◌≡◌, sym, ◌∙◌}
use mathlib.Core.List.{◌++◌}
use lib.ListN.{length, take}
use lib.Seq.{length-take-le}
use Rattle.number.specs.Groups.{encoded}
use Rattle.swap.proofs.Parts.{part_rest}
use Rattle.swap_write.specs.Heads.{head_length, front_octets}
use Rattle.swap_write.proofs.Laid.{accepted_body, laying_start, laying_fits, laying_room, laying_next, laying_done, Laying-whole}
use native.Mathlib.Omega.{arith}
use Rattle.swap_write.proofs.lay.lay.Goals as goal

pub overflow_cast-count : goal.overflow_cast-count
overflow_cast-count c = omega (arith, (accepted_body c.args.heads.now c.args.contents.now c.requires.contents_value.0 c.requires.contents_value.1).0)

pub loop-laid-init : goal.loop-laid-init
loop-laid-init c = let a = c.args in
    let z : length a.heads.now / 10 - 0 ≡ length a.heads.now / 10 = omega arith in (
      encoded (length a.heads.now / 10),
      rw (z, c.width_of-at.ensures)
          (laying_start a.heads.now a.contents.now a.buffer.now c.requires.contents_in_bounds _ c.write.ensures.1 c.requires.contents_value.0 (λ i. (c.type_inv.heads i).fits) c.requires.contents_value.1),
    )

pub slice_bounds-lay_record-end : goal.slice_bounds-lay_record-end
slice_bounds-lay_record-end c = let l = c.loop-laid in
    sym (length-take-le _ l.data_left.now (rw c.head_length-length.ensures (laying_fits _ _ _ _ l.invariant.0 _ l.at _ l.invariant.1 (omega arith))))

pub lay_record-requires : goal.lay_record-requires
lay_record-requires c = let l = c.loop-laid in
    let n = head_length l.heads_left.now in (
      omega (arith, l.invariant.1.heads),
      rw (c.head_length-length.ensures, length-take-le n l.data_left.now (laying_fits _ _ _ _ l.invariant.0 _ l.at _ l.invariant.1 (omega arith))) (laying_room _ _ _ _ l.invariant.0 _ l.at _ l.invariant.1 (omega arith)),
    )

pub overflow_add-at : goal.overflow_add-at
overflow_add-at c = let l = c.loop-laid in
    omega (arith, c.width_of.ensures, rw (← c.head_length-length.ensures) at (laying_room _ _ _ _ l.invariant.0 _ l.at _ l.invariant.1 (omega arith)), c.well_formed)

pub overflow_add-at-in-loop-laid : goal.overflow_add-at-in-loop-laid
overflow_add-at-in-loop-laid c = let l = c.loop-laid in
    omega (arith, c.width_of.ensures, rw (← c.head_length-length.ensures) at (laying_room _ _ _ _ l.invariant.0 _ l.at _ l.invariant.1 (omega arith)), c.well_formed)

pub overflow_add-at-in-loop-laid-2 : goal.overflow_add-at-in-loop-laid-2
overflow_add-at-in-loop-laid-2 c = let l = c.loop-laid in
    omega (arith, c.width_of.ensures, rw (← c.head_length-length.ensures) at (laying_room _ _ _ _ l.invariant.0 _ l.at _ l.invariant.1 (omega arith)), c.well_formed)

pub slice_bounds-data_left-count : goal.slice_bounds-data_left-count
slice_bounds-data_left-count c = let l = c.loop-laid in rw c.head_length-length.ensures (laying_fits _ _ _ _ l.invariant.0 _ l.at _ l.invariant.1 (omega arith))

pub slice_bounds-data_left-start : goal.slice_bounds-data_left-start
slice_bounds-data_left-start c = let l = c.loop-laid in rw c.head_length-length.ensures (laying_fits _ _ _ _ l.invariant.0 _ l.at _ l.invariant.1 (omega arith))

pub loop-laid-preserved : goal.loop-laid-preserved
loop-laid-preserved c = let l = c.loop-laid in
    let n = head_length l.heads_left.now in
    let left : length c.args.heads.now / 10 - (l._laid + 1) ≡ length c.args.heads.now / 10 - l._laid - 1 = omega arith in (
      l.invariant.0 ++ (front_octets l.heads_left.now ++ take n l.data_left.now),
      rw (left, c.width_of.ensures, c.lay_record.ensures, c.head_length-length.ensures, part_rest, part_rest)
          (laying_next _ _ _ _ l.invariant.0 _ l.at _ l.invariant.1 (omega arith)),
    )

pub returns : goal.returns
returns c = let l = c.loop-laid in
    let z : length c.args.heads.now / 10 - l._laid ≡ 0 = omega arith in
    laying_done _ _ _ _ l.invariant.0 _ l.at (rw z at l.invariant.1)
    ∙ Laying-whole c.args.heads.now c.args.contents.now c.args.buffer.now c.requires.contents_in_bounds _ c.write.ensures.1
