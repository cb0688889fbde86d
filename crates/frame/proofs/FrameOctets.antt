-- What a frame is made of are octets.
use Prim.Native.Nat.{ℕ, ◌<◌, ◌%◌, ◌/◌}
use mathlib.Core.Path.{◌≡◌}
use mathlib.Core.List.{List, [], ◌∷◌, ◌++◌, reverse}
use mathlib.Core.Bool.{true}
use native.Mathlib.Omega.{arith}
use lib.ListN.{length}
use lib.Dec.{lit<}
use Rattle.octets.proofs.Below.{Below, below_nil, below_cons, below_append, Below-reverse, Below-replicate}
use Rattle.crc.specs.AnnexE.{check_key, check_key_octets}
use Rattle.crc.proofs.CheckKey.{check_key_lt}
use Rattle.frame.specs.declared.codes.Command.{Command}
use Rattle.frame.specs.declared.codes.Command.TheVariants.{Enq, Dat, Rec, Ech, Aut, Eos, Aso, Rso, Ib, Drj, Arj, Trf, Trb, Tra, Pre, Sel}
use Rattle.frame.specs.declared.layout.Presence.{Presence}
use Rattle.frame.specs.declared.layout.Presence.TheVariants.{Absent, Zero, Carried}
use Rattle.frame.specs.declared.layout.Layout.{Layout}
use Rattle.frame.specs.declared.content.Fields.{Fields}
use Rattle.frame.specs.Codes.{code_of}
use Rattle.frame.specs.Layout.{layout_of, whole_length, within}
use Rattle.frame.specs.Content.{Shaped, on_wire}
use Rattle.frame.specs.Building.{head_of, fixed_of, body_of, frame_octets}
use Rattle.frame.proofs.Widths.{limits, within_bounds}

some : 0 < 256
some = lit< tt

code_octet : (c : Command) → code_of c < 256
unfolding code_of
code_octet Enq = lit< tt
code_octet Dat = lit< tt
code_octet Rec = lit< tt
code_octet Ech = lit< tt
code_octet Aut = lit< tt
code_octet Eos = lit< tt
code_octet Aso = lit< tt
code_octet Rso = lit< tt
code_octet Ib = lit< tt
code_octet Drj = lit< tt
code_octet Arj = lit< tt
code_octet Trf = lit< tt
code_octet Trb = lit< tt
code_octet Tra = lit< tt
code_octet Pre = lit< tt
code_octet Sel = lit< tt

wire_octets : (p : Presence) (v : List ℕ) → Below 256 v → Below 256 (on_wire p v)
unfolding on_wire
wire_octets Absent v h = below_nil 256 some
wire_octets Zero v h = Below-replicate 256 some (length v) 0 some
wire_octets Carried v h = Below-reverse 256 some v h

key_octets : (s : List ℕ) → Below 256 (check_key_octets s)
key_octets s =
    let h : check_key s < 65536 = check_key_lt s in
    below_cons 256 some (check_key s % 256) (check_key s / 256 ∷ []) (omega arith)
    (below_cons 256 some (check_key s / 256) [] (omega arith) (below_nil 256 some))

joined : (s t : List ℕ) → Below 256 s → Below 256 t → Below 256 (s ++ t)
joined s t h k = below_append 256 some s t h k

head_octets : (n : ℕ) (ads : List ℕ) (adp code : ℕ) → n < 256 → Below 256 ads → adp < 256 → code < 256 → Below 256 (head_of n ads adp code)
unfolding head_of
head_octets n ads adp code hn hads hadp hcode =
    below_cons 256 some n (reverse ads ++ (adp ∷ code ∷ [])) hn
    (joined (reverse ads) (adp ∷ code ∷ []) (Below-reverse 256 some ads hads)
    (below_cons 256 some adp (code ∷ []) hadp (below_cons 256 some code [] hcode (below_nil 256 some))))

fixed_octets : (l : Layout) (f : Fields) → Shaped f → Below 256 (fixed_of l f)
unfolding fixed_of
fixed_octets l f long =
    let za1 = on_wire l.za1 f.za1 in
    let za2 = on_wire l.za2 f.za2 in
    let tab = on_wire l.tab (f.tab ∷ []) in
    let announced = on_wire l.announced f.announced in
    let one = below_cons 256 some f.tab [] long.tab_octet (below_nil 256 some) in
    joined za1 (za2 ++ (tab ++ announced)) (wire_octets l.za1 f.za1 long.za1_octets)
    (joined za2 (tab ++ announced) (wire_octets l.za2 f.za2 long.za2_octets)
    (joined tab announced (wire_octets l.tab (f.tab ∷ []) one) (wire_octets l.announced f.announced long.announced_octets)))

pub frame_octets_lem : (c : Command) (f : Fields) (d : List ℕ) → Shaped f → within (layout_of c) (length d) ≡ true → Below 256 d → Below 256 (frame_octets c f d)
unfolding frame_octets body_of
frame_octets_lem c f d long w data_octets =
    let l = layout_of c in
    let head = head_of (whole_length l (length d)) f.ads f.adp (code_of c) in
    let n : whole_length l (length d) < 256 = omega (arith, limits c, within_bounds l (length d) w) in
    joined (head ++ (fixed_of l f ++ d)) (check_key_octets (head ++ (fixed_of l f ++ d)))
    (joined head (fixed_of l f ++ d) (head_octets (whole_length l (length d)) f.ads f.adp (code_of c) n long.ads_octets long.adp_octet (code_octet c))
    (joined (fixed_of l f) d (fixed_octets l f long) data_octets))
    (key_octets (head ++ (fixed_of l f ++ d)))
