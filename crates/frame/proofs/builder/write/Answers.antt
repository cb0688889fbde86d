-- `write` meets its contract: head, fields, DATA in a lent part and CRC, each where the last one ended (`frame_made`); no offset wraps, since no frame is longer than 128.
use mathlib.Core.Path.{◌≡◌, sym}
use native.Mathlib.Omega.{arith}
use borrow.Rule.Slice.PartMut.{same_len_mid}
use Rattle.frame.specs.Layout.{layout_of, places_of}
use Rattle.frame.proofs.Shape.{shaped}
use Rattle.frame.proofs.Widths.{limits}
use Rattle.frame.proofs.Writing.{length_octets, frame_made}
use Rattle.frame.proofs.builder.write.Goals as goal

pub overflow_cast-n : goal.overflow_cast-n
overflow_cast-n c = rw (c.places_of-at.ensures, c.layout_of-layout.ensures) (omega (arith, limits c.args.command, c.requires))

pub slice_bounds-fill-end : goal.slice_bounds-fill-end
slice_bounds-fill-end c =
    let at : c.places_of-at.result.content.0 ≡ (places_of (layout_of c.args.command)).content.0 = rw (c.places_of-at.ensures, c.layout_of-layout.ensures) in
    omega (arith, c.put_fixed.auto.buffer, c.put_head.auto.buffer, at, limits c.args.command, c.requires)

pub close-requires : goal.close-requires
close-requires c =
    let at : c.places_of-at.result.content.0 ≡ (places_of (layout_of c.args.command)).content.0 = rw (c.places_of-at.ensures, c.layout_of-layout.ensures) in
    rw (same_len_mid _ _ _ _ c.fill.auto.part) (omega (arith, c.put_fixed.auto.buffer, c.put_head.auto.buffer, at, limits c.args.command, c.requires))

pub returns : goal.returns
returns c = let d = c.args.«data».now in
    let long = shaped c.args.fields _ c.well_formed.1.1.0 in
    rw (
      c.close.ensures.0,
      c.close.ensures.1,
      c.fill.ensures,
      c.put_fixed.ensures,
      c.put_head.ensures,
      c.from.ensures,
      c.places_of-at.ensures,
      c.layout_of-layout.ensures,
    )
    (sym (length_octets c.args.command c.args.fields d long), frame_made c.args.command c.args.fields d long c.args.buffer.now (omega (arith, limits c.args.command, c.requires)))
