-- Two good frames that differ only in zero fields and CRC read the same.
use Prim.Native.Nat.{ℕ, ◌+◌, ◌-◌, ◌≤◌, ◌<◌}
use mathlib.Core.Path.{◌≡◌, sym, ◌∙◌}
use mathlib.Core.List.{List}
use mathlib.Core.Bool.{false}
use native.Mathlib.Omega.{arith}
use lib.ListN.{length, get_or}
use Rattle.octets.proofs.Parts.{part_agree}
use Rattle.numbers.specs.Answer.{given}
use Rattle.frame.specs.declared.codes.Command.{Command}
use Rattle.frame.specs.declared.layout.Layout.{Layout}
use Rattle.frame.specs.declared.layout.Presence.TheVariants.{Carried}
use Rattle.frame.specs.Sizes.{ads_at, adp_at, com_at, fields_at, crc_width, address_width, number_width, tab_width}
use Rattle.frame.specs.Layout.{layout_of, width, places_of}
use Rattle.frame.specs.Content.{fields_of, data_of, in_zero, in_zero_field}
use Rattle.frame.specs.Checks.{inspected, read_of, fields_in}
use Rattle.frame.proofs.CodeTable.{codes_differ}
use Rattle.frame.proofs.Widths.{has_bounds}
use Rattle.frame.proofs.GoodFrame.{inspected_good}
use Rattle.frame.proofs.OneField.{value_agrees, octet_agrees, zero_not_before, zero_not_after, zero_not_carried}

-- offsets outside the zero fields: the head, each field that carries a value, and DATA
module _ (l : Layout) (i : ℕ) where
  none : in_zero l.za1 number_width fields_at i ≡ false → in_zero l.za2 number_width (places_of l).za2.0 i ≡ false → in_zero l.tab tab_width (places_of l).tab.0 i ≡ false
      → in_zero l.announced address_width (places_of l).announced.0 i ≡ false → in_zero_field l i ≡ false
  unfolding in_zero_field
  none a b c d = rw (a, b, c, d)

  head_free : i < fields_at → in_zero_field l i ≡ false
  head_free h =
      none (zero_not_before l.za1 number_width fields_at i h) (zero_not_before l.za2 number_width (places_of l).za2.0 i (omega arith))
      (zero_not_before l.tab tab_width (places_of l).tab.0 i (omega arith)) (zero_not_before l.announced address_width (places_of l).announced.0 i (omega arith))

  za1_free : l.za1 ≡ Carried → i < (places_of l).za2.0 → in_zero_field l i ≡ false
  za1_free e h =
      none (zero_not_carried l.za1 number_width fields_at i e) (zero_not_before l.za2 number_width (places_of l).za2.0 i h)
      (zero_not_before l.tab tab_width (places_of l).tab.0 i (omega arith)) (zero_not_before l.announced address_width (places_of l).announced.0 i (omega arith))

  za2_free : l.za2 ≡ Carried → (places_of l).za2.0 ≤ i → i < (places_of l).tab.0 → in_zero_field l i ≡ false
  za2_free e a h =
      none (zero_not_after l.za1 number_width fields_at i a) (zero_not_carried l.za2 number_width (places_of l).za2.0 i e)
      (zero_not_before l.tab tab_width (places_of l).tab.0 i h) (zero_not_before l.announced address_width (places_of l).announced.0 i (omega arith))

  tab_free : l.tab ≡ Carried → (places_of l).tab.0 ≤ i → i < (places_of l).announced.0 → in_zero_field l i ≡ false
  tab_free e a h =
      none (zero_not_after l.za1 number_width fields_at i (omega arith)) (zero_not_after l.za2 number_width (places_of l).za2.0 i a)
      (zero_not_carried l.tab tab_width (places_of l).tab.0 i e) (zero_not_before l.announced address_width (places_of l).announced.0 i h)

  announced_free : l.announced ≡ Carried → (places_of l).announced.0 ≤ i → in_zero_field l i ≡ false
  announced_free e a =
      none (zero_not_after l.za1 number_width fields_at i (omega arith)) (zero_not_after l.za2 number_width (places_of l).za2.0 i (omega arith))
      (zero_not_after l.tab tab_width (places_of l).tab.0 i a) (zero_not_carried l.announced address_width (places_of l).announced.0 i e)

  data_free : (places_of l).content.0 ≤ i → in_zero_field l i ≡ false
  data_free a =
      none (zero_not_after l.za1 number_width fields_at i (omega arith)) (zero_not_after l.za2 number_width (places_of l).za2.0 i (omega arith))
      (zero_not_after l.tab tab_width (places_of l).tab.0 i (omega arith)) (zero_not_after l.announced address_width (places_of l).announced.0 i a)

-- where s and t agree outside the zero fields and the CRC
module _ (c : Command) (s t : List ℕ) (whole : (places_of (layout_of c)).content.0 + crc_width ≤ length s) (same_length : length s ≡ length t)
    (same : (i : ℕ) → i + crc_width < length s → in_zero_field (layout_of c) i ≡ false → get_or s i 0 ≡ get_or t i 0) where
  fields_same : fields_of c s ≡ fields_of c t
  unfolding fields_of
  fields_same =
      let l = layout_of c in
      let p = places_of l in
      let ads = value_agrees Carried address_width s t ads_at same_length (λ e i a b. same i (omega arith) (head_free l i (omega arith))) in
      let za1 = value_agrees l.za1 number_width s t fields_at same_length (λ e i a b. let w : width l.za1 number_width ≡ number_width = rw e in same i (omega arith) (za1_free l i e (omega arith))) in
      let za2 = value_agrees l.za2 number_width s t p.za2.0 same_length (λ e i a b. let w : width l.za2 number_width ≡ number_width = rw e in same i (omega arith) (za2_free l i e a (omega arith))) in
      let tab = octet_agrees l.tab s t p.tab.0 (λ e. let w : width l.tab tab_width ≡ tab_width = rw e in same p.tab.0 (omega arith) (tab_free l p.tab.0 e (omega arith) (omega arith))) in
      let announced = value_agrees l.announced address_width s t p.announced.0 same_length (λ e i a b. let w : width l.announced address_width ≡ address_width = rw e in same i (omega arith) (announced_free l i e a)) in
      rw (ads, same adp_at (omega arith) (head_free l adp_at (omega arith)), za1, za2, tab, announced)

  data_same : data_of c s ≡ data_of c t
  unfolding data_of
  data_same =
      rw (← same_length)
      (part_agree s t (places_of (layout_of c)).content.0 (length s - crc_width) same_length (λ i a b. same i (omega arith) (data_free (layout_of c) i a)))

pub reads_same : (c e : Command) (s t : List ℕ) → inspected s ≡ given c → inspected t ≡ given e
    → ((i : ℕ) → i + crc_width < length s → in_zero_field (layout_of c) i ≡ false → get_or s i 0 ≡ get_or t i 0)
    → (read_of s ≡ read_of t) × (data_of c s ≡ data_of c t)
unfolding read_of fields_in
reads_same c e s t good_s good_t same =
    let gs = inspected_good s c good_s in
    let gt = inspected_good t e good_t in
    let b = has_bounds (layout_of c) (length s) gs.checked.long in
    let first : get_or s 0 0 ≡ get_or t 0 0 = same 0 (omega (arith, gs.least)) (head_free (layout_of c) 0 (omega arith)) in
    let code : get_or s com_at 0 ≡ get_or t com_at 0 = same com_at (omega (arith, gs.least)) (head_free (layout_of c) com_at (omega arith)) in
    let long : length s ≡ length t = omega (arith, gs.n, gt.n, first) in
    let command : c ≡ e = codes_differ c e (gs.checked.command ∙ code ∙ sym gt.checked.command) in (
      rw (good_s, good_t, ← command, fields_same c s t (omega arith) long same),
      data_same c s t (omega arith) long same,
    )
