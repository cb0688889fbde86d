-- The steps of the builder on a buffer: each writes where the last one ended.
use Prim.Native.Nat.{ℕ, ◌+◌, ◌-◌, ◌≤◌}
use mathlib.Core.Path.{◌≡◌, refl, ap, ◌∙◌}
use mathlib.Core.List.{List, [], ◌∷◌, ◌++◌, reverse, append_assoc}
use native.Mathlib.Nat.{add_assoc}
use native.Mathlib.Omega.{arith}
use lib.ListN.{length, length-append, length-reverse, length-replicate}
use borrow.Rule.Slice.PartMut.{put_mid}
use Rattle.octets.specs.Splice.{spliced, fronted}
use Rattle.octets.proofs.Splice.{spliced_fits, spliced_front, spliced_next, take-fronted, length-fronted, spliced_after, lent_spliced}
use Rattle.crc.specs.AnnexE.{check_key_octets}
use Rattle.frame.specs.declared.layout.Presence.{Presence}
use Rattle.frame.specs.declared.layout.Presence.TheVariants.{Absent, Zero, Carried}
use Rattle.frame.specs.declared.codes.Command.{Command}
use Rattle.frame.specs.declared.layout.Layout.{Layout}
use Rattle.frame.specs.declared.content.Fields.{Fields}
use Rattle.frame.specs.Sizes.{fields_at, crc_width, address_width, number_width, tab_width}
use Rattle.frame.specs.Codes.{code_of}
use Rattle.frame.specs.Layout.{layout_of, width, places_of, whole_length}
use Rattle.frame.specs.Content.{Shaped, turned, on_wire}
use Rattle.frame.specs.Building.{head_of, fixed_of, body_of, frame_octets, closed}
use Rattle.frame.proofs.Widths.{width_most}

-- the address turned into the middle of the head
pub head_made : (n : ℕ) (ads : List ℕ) (adp code : ℕ) → length ads ≡ address_width → spliced (n ∷ 0 ∷ 0 ∷ 0 ∷ 0 ∷ 0 ∷ 0 ∷ adp ∷ code ∷ []) 1 (turned ads) ≡ head_of n ads adp code
unfolding head_of
head_made n ads adp code e =
    let k : length (reverse ads) ≡ address_width = length-reverse ads ∙ e in
    rw (spliced_fits (n ∷ 0 ∷ 0 ∷ 0 ∷ 0 ∷ 0 ∷ 0 ∷ adp ∷ code ∷ []) 1 (reverse ads) (omega arith), k)

pub length_head : (n : ℕ) (ads : List ℕ) (adp code : ℕ) → length ads ≡ address_width → length (head_of n ads adp code) ≡ fields_at
unfolding head_of
length_head n ads adp code e = rw (length-append, length-reverse, e)

pub length-on_wire : (p : Presence) (v : List ℕ) (n : ℕ) → length v ≡ n → length (on_wire p v) ≡ width p n
unfolding on_wire
length-on_wire Absent v n e = refl
length-on_wire Zero v n e = length-replicate (length v) 0 ∙ e
length-on_wire Carried v n e = length-reverse v ∙ e

pub on_wire_most : (p : Presence) (v : List ℕ) (n : ℕ) → length v ≡ n → length (on_wire p v) ≤ n
on_wire_most p v n e = rw (length-on_wire p v n e) (width_most p n)

-- four fields one after the other
pub fields_made : (b : List ℕ) (at : ℕ) (v w x y : List ℕ) → at + (length v + (length w + (length x + length y))) ≤ length b
    → spliced (spliced (spliced (spliced b at v) (at + length v) w) (at + length v + length w) x) (at + length v + length w + length x) y ≡ spliced b at (v ++ (w ++ (x ++ y)))
fields_made b at v w x y h =
    rw (
      spliced_after b at v w (omega arith),
      add_assoc at (length v) (length w),
      ← length-append v w,
      spliced_after b at (v ++ w) x (rw length-append (omega arith)),
      add_assoc at (length (v ++ w)) (length x),
      ← length-append (v ++ w) x,
      spliced_after b at (v ++ w ++ x) y (rw (length-append, length-append) (omega arith)),
      append_assoc v w x,
      append_assoc v (w ++ x) y,
      append_assoc w x y,
    )

-- the CRC after the octets at the front
pub closed_front : (p b : List ℕ) (end : ℕ) → length p ≡ end → end + crc_width ≤ length b → closed (fronted p b) end ≡ fronted (p ++ check_key_octets p) b
closed_front p b end e h =
    rw (← e, take-fronted p b) (spliced_next p b (check_key_octets p) (length p) refl (omega arith))

-- the fields between COM and DATA take the octets that the layout gives them
pub length_fixed : (l : Layout) (f : Fields) → Shaped f → fields_at + length (fixed_of l f) ≡ (places_of l).content.0
unfolding fixed_of
length_fixed l f long =
    rw (
      length-append,
      length-append,
      length-append,
      length-on_wire l.za1 f.za1 number_width long.za1_long,
      length-on_wire l.za2 f.za2 number_width long.za2_long,
      length-on_wire l.tab (f.tab ∷ []) tab_width refl,
      length-on_wire l.announced f.announced address_width long.announced_long,
    )
    (omega arith)

-- head, fields, DATA in a lent part, and the CRC
steps_made : (b head fixed d : List ℕ) (at : ℕ) → length head ≡ fields_at → fields_at + length fixed ≡ at → at + length d + crc_width ≤ length b
    → closed (put_mid at (at + length d - at) (spliced (spliced b 0 head) fields_at fixed) d) (at + length d) ≡ fronted ((head ++ (fixed ++ d)) ++ check_key_octets (head ++ (fixed ++ d))) b
steps_made b head fixed d at nine e h =
    let two : length (head ++ fixed) ≡ at = length-append head fixed ∙ omega arith in
    let three : length (head ++ fixed ++ d) ≡ at + length d = length-append (head ++ fixed) d ∙ ap (λ (k : ℕ). k + length d) two in
    rw (
      spliced_front b head (omega arith),
      spliced_next head b fixed fields_at nine (omega arith),
      lent_spliced (fronted (head ++ fixed) b) d at (rw (length-fronted (head ++ fixed) b (omega arith)) (omega arith)),
      spliced_next (head ++ fixed) b d at two (omega arith),
      closed_front (head ++ fixed ++ d) b (at + length d) three h,
      append_assoc head fixed d,
    )

module _ (c : Command) (f : Fields) (d : List ℕ) (long : Shaped f) where
  nine : length (head_of (whole_length (layout_of c) (length d)) f.ads f.adp (code_of c)) ≡ fields_at
  nine = length_head (whole_length (layout_of c) (length d)) f.ads f.adp (code_of c) long.ads_long

  pub length_body : length (body_of c f d) ≡ (places_of (layout_of c)).content.0 + length d
  unfolding body_of
  length_body = rw (length-append, length-append, nine) (omega (arith, length_fixed (layout_of c) f long))

  pub length_octets : length (frame_octets c f d) ≡ whole_length (layout_of c) (length d)
  unfolding frame_octets
  length_octets = rw (length-append, length_body)

  pub frame_made : (b : List ℕ) → whole_length (layout_of c) (length d) ≤ length b
      → (let at = (places_of (layout_of c)).content.0 in
      let head = head_of (whole_length (layout_of c) (length d)) f.ads f.adp (code_of c) in
      closed (put_mid at (at + length d - at) (spliced (spliced b 0 head) fields_at (fixed_of (layout_of c) f)) d) (at + length d) ≡ fronted (frame_octets c f d) b)
  unfolding frame_octets body_of
  frame_made b h =
      steps_made b (head_of (whole_length (layout_of c) (length d)) f.ads f.adp (code_of c)) (fixed_of (layout_of c) f) d
      (places_of (layout_of c)).content.0 nine (length_fixed (layout_of c) f long) h
