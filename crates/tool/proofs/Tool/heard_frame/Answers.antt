-- `Tool::heard_frame` takes the frame out of the array by its N.
use native.Mathlib.Nat.{min-le_right}
use lib.ListN.{get_or, length, length-take}
use native.Mathlib.Omega.{arith}
use Rattle.tool.proofs.Receiving.{good_data, stated_length}
use Rattle.tool.proofs.Tool.heard_frame.Goals as goal

pub slice_bounds-whole-end : goal.slice_bounds-whole-end
slice_bounds-whole-end c = let s = stated_length c.args.command c.args.whole c.requires in
    omega (arith, s, length-take (get_or c.args.whole 0 0) c.args.whole, min-le_right (get_or c.args.whole 0 0) (length c.args.whole))

pub slice_bounds-octets-end : goal.slice_bounds-octets-end
slice_bounds-octets-end c = rw c.from-end.ensures (stated_length c.args.command c.args.whole c.requires)

pub on_frame-requires : goal.on_frame-requires
on_frame-requires c = rw (c.data_of-data.ensures, c.from-end.ensures) (good_data c.args.command _ c.requires)

pub returns : goal.returns
returns c = rw (c.fields_of-fields.ensures, c.data_of-data.ensures, c.from-end.ensures) at c.on_frame.ensures
