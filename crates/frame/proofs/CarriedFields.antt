-- The fields that a command does not carry play no part: they read as zero, and the frame built from them is the same.
use Prim.Native.Nat.{ℕ}
use mathlib.Core.Path.{◌≡◌, refl, ap}
use mathlib.Core.List.{List, [], ◌∷◌}
use lib.ListN.{length, replicate, length-replicate}
use Rattle.frame.specs.declared.codes.Command.{Command}
use Rattle.frame.specs.declared.layout.Presence.{Presence}
use Rattle.frame.specs.declared.layout.Presence.TheVariants.{Absent, Zero, Carried}
use Rattle.frame.specs.declared.content.Fields.{Fields}
use Rattle.frame.specs.Sizes.{fields_at, address_width, number_width}
use Rattle.frame.specs.Layout.{layout_of, places_of}
use Rattle.frame.specs.Content.{on_wire, value_at, octet_at, carried_by, carried_octet, fields_of, carried}
use Rattle.frame.specs.Building.{fixed_of, body_of, frame_octets}

zeros_again : (n : ℕ) → replicate {A = ℕ} (length (replicate {A = ℕ} n 0)) 0 ≡ replicate n 0
zeros_again n = ap (λ (k : ℕ). replicate {A = ℕ} k 0) (length-replicate n 0)

kept_value : (p : Presence) (n : ℕ) (s : List ℕ) (at : ℕ) → carried_by p (value_at p n s at) ≡ value_at p n s at
unfolding carried_by value_at
kept_value Absent n s at = zeros_again n
kept_value Zero n s at = zeros_again n
kept_value Carried n s at = refl

kept_octet : (p : Presence) (s : List ℕ) (at : ℕ) → carried_octet p (octet_at p s at) ≡ octet_at p s at
unfolding carried_octet octet_at
kept_octet Absent s at = refl
kept_octet Zero s at = refl
kept_octet Carried s at = refl

pub fields_carried : (c : Command) (s : List ℕ) → carried c (fields_of c s) ≡ fields_of c s
unfolding carried fields_of
fields_carried c s =
    let l = layout_of c in
    let p = places_of l in
    rw (
      kept_value l.za1 number_width s fields_at,
      kept_value l.za2 number_width s p.za2.0,
      kept_octet l.tab s p.tab.0,
      kept_value l.announced address_width s p.announced.0,
    )

wire_kept : (p : Presence) (v : List ℕ) → on_wire p (carried_by p v) ≡ on_wire p v
unfolding on_wire carried_by
wire_kept Absent v = refl
wire_kept Zero v = zeros_again (length v)
wire_kept Carried v = refl

wire_kept_octet : (p : Presence) (x : ℕ) → on_wire p (carried_octet p x ∷ []) ≡ on_wire p (x ∷ [])
unfolding on_wire carried_octet
wire_kept_octet Absent x = refl
wire_kept_octet Zero x = refl
wire_kept_octet Carried x = refl

pub octets_carried : (c : Command) (f : Fields) (d : List ℕ) → frame_octets c (carried c f) d ≡ frame_octets c f d
unfolding frame_octets body_of fixed_of carried
octets_carried c f d =
    let l = layout_of c in
    rw (
      wire_kept l.za1 f.za1,
      wire_kept l.za2 f.za2,
      wire_kept_octet l.tab f.tab,
      wire_kept l.announced f.announced,
    )
