-- `put_fixed` meets its contract: four fields, each spliced in where the last one ended, are one splice.
use mathlib.Core.List.{[], ◌∷◌}
use mathlib.Core.Path.{refl}
use native.Mathlib.Omega.{arith}
use Rattle.frame.specs.Sizes.{address_width, number_width, tab_width}
use Rattle.frame.specs.Content.{on_wire}
use Rattle.frame.specs.Building.{fixed_of}
use Rattle.frame.proofs.Shape.{shaped}
use Rattle.frame.proofs.Writing.{on_wire_most, fields_made}
use Rattle.frame.proofs.builder.put_fixed.Goals as goal

pub put_field-tab_at-requires : goal.put_field-tab_at-requires
put_field-tab_at-requires c =
    let long = shaped c.args.fields _ c.well_formed.1.1.0 in
    let most = on_wire_most c.args.layout.za1 c.args.fields.za1 number_width long.za1_long in
    (rw c.put_field-za2_at.ensures.0 (omega arith), omega (arith, long.za2_long))

pub put_field-announced_at-requires : goal.put_field-announced_at-requires
put_field-announced_at-requires c =
    let long = shaped c.args.fields _ c.well_formed.1.1.0 in
    let most1 = on_wire_most c.args.layout.za1 c.args.fields.za1 number_width long.za1_long in
    let most2 = on_wire_most c.args.layout.za2 c.args.fields.za2 number_width long.za2_long in
    (rw (c.put_field-tab_at.ensures.0, c.put_field-za2_at.ensures.0) (omega arith), omega arith)

pub put_field-requires : goal.put_field-requires
put_field-requires c =
    let long = shaped c.args.fields _ c.well_formed.1.1.0 in
    let most1 = on_wire_most c.args.layout.za1 c.args.fields.za1 number_width long.za1_long in
    let most2 = on_wire_most c.args.layout.za2 c.args.fields.za2 number_width long.za2_long in
    let most3 = on_wire_most c.args.layout.tab (c.args.fields.tab ∷ []) tab_width refl in
    (rw (c.put_field-announced_at.ensures.0, c.put_field-tab_at.ensures.0, c.put_field-za2_at.ensures.0) (omega arith), omega (arith, long.announced_long))

pub returns : goal.returns
unfolding fixed_of
returns c = let f = c.args.fields in
    let l = c.args.layout in
    let long = shaped f _ c.well_formed.1.1.0 in
    let most1 = on_wire_most l.za1 f.za1 number_width long.za1_long in
    let most2 = on_wire_most l.za2 f.za2 number_width long.za2_long in
    let most3 = on_wire_most l.tab (f.tab ∷ []) tab_width refl in
    let most4 = on_wire_most l.announced f.announced address_width long.announced_long in
    rw (
      c.put_field.ensures.1,
      c.put_field-announced_at.ensures.1,
      c.put_field-tab_at.ensures.1,
      c.put_field-za2_at.ensures.1,
      c.put_field-announced_at.ensures.0,
      c.put_field-tab_at.ensures.0,
      c.put_field-za2_at.ensures.0,
    )
    (fields_made c.args.buffer.now 9 (on_wire l.za1 f.za1) (on_wire l.za2 f.za2) (on_wire l.tab (f.tab ∷ [])) (on_wire l.announced f.announced) (omega (arith, c.requires)))
