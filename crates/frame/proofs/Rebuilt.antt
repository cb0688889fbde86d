-- A good frame whose zero fields hold zero, read and built again, gives the same octets.
use Prim.Native.Nat.{ℕ, ◌+◌, ◌-◌, ◌≤◌, ◌<◌}
use mathlib.Core.Path.{◌≡◌}
use mathlib.Core.List.{List}
use mathlib.Core.Bool.{true, or-true}
use native.Mathlib.Omega.{arith}
use lib.ListN.{length, get_or, take, take-append-drop}
use Rattle.octets.specs.Part.{part_of}
use Rattle.octets.proofs.Parts.{part_join, part_cons, part_none, part_front, length_part}
use Rattle.crc.proofs.Receiver.{divides_exactly}
use Rattle.frame.specs.declared.codes.Command.{Command}
use Rattle.frame.specs.declared.layout.Layout.{Layout}
use Rattle.frame.specs.declared.layout.Presence.TheVariants.{Carried}
use Rattle.frame.specs.Sizes.{ads_at, adp_at, com_at, fields_at, crc_width, address_width, number_width, tab_width}
use Rattle.frame.specs.Layout.{layout_of, places_of}
use Rattle.frame.specs.Content.{on_wire, value_at, fields_of, data_of, in_zero, in_zero_field}
use Rattle.frame.specs.Building.{head_of, fixed_of, body_of, frame_octets}
use Rattle.frame.proofs.Widths.{has_bounds}
use Rattle.frame.proofs.GoodFrame.{GoodFrame}
use Rattle.frame.proofs.OneField.{wire_of_value, wire_of_octet}

-- an offset in a zero field of the layout
module _ (l : Layout) (i : ℕ) where
  in_za1 : in_zero l.za1 number_width fields_at i ≡ true → in_zero_field l i ≡ true
  unfolding in_zero_field
  in_za1 e = rw e

  in_za2 : in_zero l.za2 number_width (places_of l).za2.0 i ≡ true → in_zero_field l i ≡ true
  unfolding in_zero_field
  in_za2 e = rw e (or-true (in_zero l.za1 number_width fields_at i))

  in_tab : in_zero l.tab tab_width (places_of l).tab.0 i ≡ true → in_zero_field l i ≡ true
  unfolding in_zero_field
  in_tab e = rw (e, or-true (in_zero l.za2 number_width (places_of l).za2.0 i)) (or-true (in_zero l.za1 number_width fields_at i))

  in_announced : in_zero l.announced address_width (places_of l).announced.0 i ≡ true → in_zero_field l i ≡ true
  unfolding in_zero_field
  in_announced e =
      rw (e, or-true (in_zero l.tab tab_width (places_of l).tab.0 i), or-true (in_zero l.za2 number_width (places_of l).za2.0 i))
      (or-true (in_zero l.za1 number_width fields_at i))

-- N, ADS, ADP and COM as they stand in the frame
head_again : (s : List ℕ) → fields_at ≤ length s → head_of (get_or s 0 0) (value_at Carried address_width s ads_at) (get_or s adp_at 0) (get_or s com_at 0) ≡ part_of s 0 fields_at
unfolding head_of on_wire in_zero
head_again s h =
    rw (
      wire_of_value Carried address_width s ads_at (omega arith) (λ i e. cc),
      part_cons s 0 fields_at (omega arith) h,
      ← part_join s ads_at adp_at fields_at (omega arith) (omega arith) h,
      part_cons s adp_at fields_at (omega arith) h,
      part_cons s com_at fields_at (omega arith) h,
      part_none s fields_at fields_at (omega arith),
    )

-- the fields between COM and DATA as they stand in the frame
fixed_again : (c : Command) (s : List ℕ) → (places_of (layout_of c)).content.0 ≤ length s → ((i : ℕ) → in_zero_field (layout_of c) i ≡ true → get_or s i 0 ≡ 0)
    → fixed_of (layout_of c) (fields_of c s) ≡ part_of s fields_at (places_of (layout_of c)).content.0
unfolding fixed_of fields_of
fixed_again c s h zero =
    let l = layout_of c in
    let p = places_of l in
    rw (
      wire_of_value l.za1 number_width s fields_at (omega arith) (λ i e. zero i (in_za1 l i e)),
      wire_of_value l.za2 number_width s p.za2.0 (omega arith) (λ i e. zero i (in_za2 l i e)),
      wire_of_octet l.tab s p.tab.0 (omega arith) (λ i e. zero i (in_tab l i e)),
      wire_of_value l.announced address_width s p.announced.0 h (λ i e. zero i (in_announced l i e)),
      part_join s p.tab.0 p.announced.0 p.content.0 (omega arith) (omega arith) h,
      part_join s p.za2.0 p.tab.0 p.content.0 (omega arith) (omega arith) h,
      part_join s fields_at p.za2.0 p.content.0 (omega arith) (omega arith) h,
    )

module _ (c : Command) (s : List ℕ) (g : GoodFrame c s) (zero : (i : ℕ) → in_zero_field (layout_of c) i ≡ true → get_or s i 0 ≡ 0) where
  body_again : body_of c (fields_of c s) (data_of c s) ≡ take (length s - crc_width) s
  unfolding body_of fields_of data_of
  body_again =
      let at = (places_of (layout_of c)).content.0 in
      let b = has_bounds (layout_of c) (length s) g.checked.long in
      let end : length s - crc_width ≤ length s = omega arith in
      let long : length (part_of s at (length s - crc_width)) ≡ length s - crc_width - at = length_part s at (length s - crc_width) (omega arith) end in
      let whole : at + (length s - crc_width - at) + 2 ≡ get_or s 0 0 = omega (arith, g.n) in
      rw (
        long,
        whole,
        g.checked.command,
        head_again s (omega (arith, g.least)),
        fixed_again c s (omega arith) zero,
        part_join s fields_at at (length s - crc_width) (omega arith) (omega arith) end,
        part_join s 0 fields_at (length s - crc_width) (omega arith) (omega (arith, g.least)) end,
      )
      (part_front s (length s - crc_width) end)

  pub rebuilt : ((i : ℕ) → get_or s i 0 < 256) → frame_octets c (fields_of c s) (data_of c s) ≡ s
  unfolding frame_octets
  rebuilt octets =
      rw (body_again, ← (divides_exactly s octets (omega (arith, g.least))).0 g.checked.check_key)
      (take-append-drop (length s - crc_width) s)
