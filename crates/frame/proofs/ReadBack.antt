-- A built frame reads back as the fields it was built from, for every command, address, ADP and DATA.
use Prim.Native.Nat.{ℕ, ◌+◌, ◌-◌, suc}
use mathlib.Core.Path.{◌≡◌, refl, sym, ap, ◌∙◌}
use mathlib.Core.List.{List, [], ◌∷◌, ◌++◌, reverse, append_assoc}
use mathlib.Core.Bool.{true}
use native.Mathlib.Omega.{arith}
use lib.ListN.{length, get_or, length-append, length-reverse}
use lib.Seq.{get_or_at, get_or-append-add}
use borrow.Author.Tests.{eq-eqb}
use Rattle.octets.proofs.Parts.{part_middle}
use Rattle.octets.proofs.Bounds.{between_both}
use Rattle.crc.specs.AnnexE.{check_key_octets, divides}
use Rattle.crc.proofs.Receiver.{check_key_appended}
use Rattle.numbers.specs.Answer.{given, when_given}
use Rattle.frame.specs.declared.codes.Command.{Command}
use Rattle.frame.specs.declared.layout.Presence.TheVariants.{Carried}
use Rattle.frame.specs.declared.content.Fields.{Fields}
use Rattle.frame.specs.Sizes.{shortest_frame, longest_frame, ads_at, adp_at, com_at, fields_at, crc_width, address_width, number_width, tab_width}
use Rattle.frame.specs.Codes.{code_of, command_of}
use Rattle.frame.specs.Layout.{layout_of, width, places_of, whole_length, within}
use Rattle.frame.specs.Content.{Shaped, on_wire, value_at, octet_at, carried_by, carried_octet, fields_of, data_of, carried}
use Rattle.frame.specs.Checks.{stated_by, judged, judged_as, inspected, inspected_as, read_of, fields_in}
use Rattle.frame.specs.Building.{head_of, fixed_of, body_of, frame_octets}
use Rattle.frame.proofs.CodeTable.{found}
use Rattle.frame.proofs.Widths.{limits, can_have_lem, within_bounds}
use Rattle.frame.proofs.Steps.{inspected_from}
use Rattle.frame.proofs.OneField.{value_on_wire, octet_on_wire}
use Rattle.frame.proofs.Writing.{length-on_wire, length_head, length_octets}

-- what stands in the head
module _ (n : ℕ) (ads : List ℕ) (adp code : ℕ) (rest : List ℕ) (six : length ads ≡ address_width) where
  turned_six : length (reverse ads) ≡ 6
  turned_six = length-reverse ads ∙ six

  split : head_of n ads adp code ++ rest ≡ (n ∷ reverse ads) ++ (adp ∷ code ∷ rest)
  unfolding head_of
  split = ap (λ (l : List ℕ). n ∷ l) (append_assoc (reverse ads) (adp ∷ code ∷ []) rest)

  head_n : get_or (head_of n ads adp code ++ rest) 0 0 ≡ n
  head_n = rw split

  head_ads : value_at Carried 6 (head_of n ads adp code ++ rest) 1 ≡ ads
  unfolding on_wire carried_by
  head_ads = rw split (value_on_wire Carried ads 6 (n ∷ []) (adp ∷ code ∷ rest) 1 six refl)

  head_adp : get_or (head_of n ads adp code ++ rest) 7 0 ≡ adp
  head_adp = rw split (get_or_at (n ∷ reverse ads) adp (code ∷ rest) 0 7 (ap suc turned_six))

  head_code : get_or (head_of n ads adp code ++ rest) 8 0 ≡ code
  head_code =
      rw split
      (ap (λ (k : ℕ). get_or ((n ∷ reverse ads) ++ (adp ∷ code ∷ rest)) (suc k + 1) 0) (sym turned_six)
      ∙ get_or-append-add (n ∷ reverse ads) (adp ∷ code ∷ rest) 1 0)

-- the same octets, cut before each field
module _ (h v w x y d k : List ℕ) where
  flat : (h ++ ((v ++ (w ++ (x ++ y))) ++ d)) ++ k ≡ h ++ (v ++ (w ++ (x ++ (y ++ (d ++ k)))))
  flat = simp append_assoc

  cut_2 : h ++ (v ++ (w ++ (x ++ (y ++ (d ++ k))))) ≡ (h ++ v) ++ (w ++ (x ++ (y ++ (d ++ k))))
  cut_2 = simp append_assoc

  cut_3 : h ++ (v ++ (w ++ (x ++ (y ++ (d ++ k))))) ≡ (h ++ v ++ w) ++ (x ++ (y ++ (d ++ k)))
  cut_3 = simp append_assoc

  cut_4 : h ++ (v ++ (w ++ (x ++ (y ++ (d ++ k))))) ≡ (h ++ v ++ w ++ x) ++ (y ++ (d ++ k))
  cut_4 = simp append_assoc

  cut_5 : h ++ (v ++ (w ++ (x ++ (y ++ (d ++ k))))) ≡ (h ++ v ++ w ++ x ++ y) ++ (d ++ k)
  cut_5 = simp append_assoc

module _ (c : Command) (f : Fields) (d : List ℕ) (long : Shaped f) where
  abbrev head : List ℕ
  head = head_of (whole_length (layout_of c) (length d)) f.ads f.adp (code_of c)

  abbrev za1 : List ℕ
  za1 = on_wire (layout_of c).za1 f.za1

  abbrev za2 : List ℕ
  za2 = on_wire (layout_of c).za2 f.za2

  abbrev tab : List ℕ
  tab = on_wire (layout_of c).tab (f.tab ∷ [])

  abbrev announced : List ℕ
  announced = on_wire (layout_of c).announced f.announced

  abbrev key : List ℕ
  key = check_key_octets (body_of c f d)

  nested : frame_octets c f d ≡ head ++ (za1 ++ (za2 ++ (tab ++ (announced ++ (d ++ key)))))
  unfolding frame_octets body_of fixed_of
  nested = flat head za1 za2 tab announced d key

  nine : length head ≡ fields_at
  nine = length_head (whole_length (layout_of c) (length d)) f.ads f.adp (code_of c) long.ads_long

  z1 : length za1 ≡ width (layout_of c).za1 number_width
  z1 = length-on_wire (layout_of c).za1 f.za1 number_width long.za1_long

  z2 : length za2 ≡ width (layout_of c).za2 number_width
  z2 = length-on_wire (layout_of c).za2 f.za2 number_width long.za2_long

  t1 : length tab ≡ width (layout_of c).tab tab_width
  t1 = length-on_wire (layout_of c).tab (f.tab ∷ []) tab_width refl

  s1 : length announced ≡ width (layout_of c).announced address_width
  s1 = length-on_wire (layout_of c).announced f.announced address_width long.announced_long

  reads_ads : value_at Carried address_width (frame_octets c f d) ads_at ≡ f.ads
  reads_ads = rw nested (head_ads _ f.ads f.adp (code_of c) _ long.ads_long)

  reads_adp : get_or (frame_octets c f d) adp_at 0 ≡ f.adp
  reads_adp = rw nested (head_adp _ f.ads f.adp (code_of c) _ long.ads_long)

  reads_za1 : value_at (layout_of c).za1 number_width (frame_octets c f d) fields_at ≡ carried_by (layout_of c).za1 f.za1
  reads_za1 =
      rw nested
      (value_on_wire (layout_of c).za1 f.za1 number_width head (za2 ++ (tab ++ (announced ++ (d ++ key)))) 9 long.za1_long nine)

  reads_za2 : value_at (layout_of c).za2 number_width (frame_octets c f d) (places_of (layout_of c)).za2.0 ≡ carried_by (layout_of c).za2 f.za2
  reads_za2 =
      rw (nested, cut_2 head za1 za2 tab announced d key)
      (value_on_wire (layout_of c).za2 f.za2 number_width (head ++ za1) (tab ++ (announced ++ (d ++ key))) (places_of (layout_of c)).za2.0 long.za2_long
      (rw (length-append, nine, z1)))

  reads_tab : octet_at (layout_of c).tab (frame_octets c f d) (places_of (layout_of c)).tab.0 ≡ carried_octet (layout_of c).tab f.tab
  reads_tab =
      rw (nested, cut_3 head za1 za2 tab announced d key)
      (octet_on_wire (layout_of c).tab f.tab (head ++ za1 ++ za2) (announced ++ (d ++ key)) (places_of (layout_of c)).tab.0
      (rw (length-append, length-append, nine, z1, z2)))

  reads_announced : value_at (layout_of c).announced address_width (frame_octets c f d) (places_of (layout_of c)).announced.0 ≡ carried_by (layout_of c).announced f.announced
  reads_announced =
      rw (nested, cut_4 head za1 za2 tab announced d key)
      (value_on_wire (layout_of c).announced f.announced address_width (head ++ za1 ++ za2 ++ tab) (d ++ key) (places_of (layout_of c)).announced.0 long.announced_long
      (rw (length-append, length-append, length-append, nine, z1, z2, t1)))

  pub reads_fields : fields_of c (frame_octets c f d) ≡ carried c f
  unfolding fields_of carried
  reads_fields = rw (reads_ads, reads_adp, reads_za1, reads_za2, reads_tab, reads_announced)

  pub reads_data : data_of c (frame_octets c f d) ≡ d
  unfolding data_of
  reads_data =
      let e : (places_of (layout_of c)).content.0 + length d ≡ length (frame_octets c f d) - crc_width = omega (arith, length_octets c f d long) in
      rw (← e, nested, cut_5 head za1 za2 tab announced d key)
      (part_middle (head ++ za1 ++ za2 ++ tab ++ announced) d key (places_of (layout_of c)).content.0 ((places_of (layout_of c)).content.0 + length d)
      (rw (length-append, length-append, length-append, length-append, nine, z1, z2, t1, s1)) refl)

  passes : divides (frame_octets c f d) ≡ true
  unfolding frame_octets
  passes = check_key_appended (body_of c f d)

  named : command_of (get_or (frame_octets c f d) com_at 0) ≡ given c
  named = rw (nested, head_code _ f.ads f.adp (code_of c) _ long.ads_long) (found c)

  pub is_good : within (layout_of c) (length d) ≡ true → inspected (frame_octets c f d) ≡ given c
  unfolding inspected_as judged judged_as stated_by when_given
  is_good w =
      let n = whole_length (layout_of c) (length d) in
      let whole : length (frame_octets c f d) ≡ n = length_octets c f d long in
      let b = within_bounds (layout_of c) (length d) w in
      let first : get_or (frame_octets c f d) 0 0 ≡ n = rw nested (head_n n f.ads f.adp (code_of c) _ long.ads_long) in
      rw (
        inspected_from (frame_octets c f d) (λ e. absurd (none (sym whole ∙ e))),
        first,
        between_both shortest_frame longest_frame n (omega arith) (omega (arith, limits c)),
        eq-eqb (length (frame_octets c f d)) n whole,
        passes,
        named,
        can_have_lem (layout_of c) (length (frame_octets c f d)) (omega arith) (omega arith),
      )
    where
      none : whole_length (layout_of c) (length d) ≡ 0 → ⊥
      none e = omega arith

  pub reads_back : within (layout_of c) (length d) ≡ true → read_of (frame_octets c f d) ≡ record { verdict = given c; fields = carried c f }
  unfolding read_of fields_in
  reads_back w = rw (is_good w, reads_fields)
