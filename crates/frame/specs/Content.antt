-- One field, on the wire and in memory.
use Rattle.std.specs.Prelude.{ℕ, ◌+◌, ◌-◌, ◌<◌, ◌≡◌, Bool, false, ◌&&◌, ◌||◌, List, [], reverse, leb, ltb, length, get_or, replicate}
use Rattle.octets.specs.Splice.{spliced}
use Rattle.octets.specs.Part.{part_of}
use Rattle.frame.specs.declared.codes.Command.{Command}
use Rattle.frame.specs.declared.layout.Presence.{Presence}
use Rattle.frame.specs.declared.layout.Presence.TheVariants.{Absent, Zero, Carried}
use Rattle.frame.specs.declared.layout.Layout.{Layout}
use Rattle.frame.specs.declared.content.Fields.{Fields}
use Rattle.frame.specs.Sizes.{ads_at, adp_at, fields_at, crc_width, address_width, number_width, tab_width}
use Rattle.frame.specs.Layout.{layout_of, places_of}

-- what the type of a value of `Fields` says: how long its arrays are, and that their elements are octets
pub record Shaped (f : Fields) : Type 0 where
  pub ads_long : length f.ads ≡ address_width
  pub za1_long : length f.za1 ≡ number_width
  pub za2_long : length f.za2 ≡ number_width
  pub announced_long : length f.announced ≡ address_width
  pub ads_octets : (i : ℕ) → get_or f.ads i 0 < 256
  pub za1_octets : (i : ℕ) → get_or f.za1 i 0 < 256
  pub za2_octets : (i : ℕ) → get_or f.za2 i 0 < 256
  pub announced_octets : (i : ℕ) → get_or f.announced i 0 < 256
  pub adp_octet : f.adp < 256
  pub tab_octet : f.tab < 256

-- 004 4.4.8: "the transmission begins with the least significant byte and ends with the most significant one". A value in memory has the
-- most significant octet first, as it is written, so either order is the other one turned.
abbrev pub turned : List ℕ → List ℕ
turned v = reverse v

-- the octets of a field with the value v
unfoldable pub on_wire : Presence → List ℕ → List ℕ
on_wire Absent v = []
on_wire Zero v = replicate (length v) 0
on_wire Carried v = turned v

-- the value of a field of n octets at offset at of the frame s; a field that carries none reads as zero
unfoldable pub value_at : Presence → ℕ → List ℕ → ℕ → List ℕ
value_at Absent n s at = replicate n 0
value_at Zero n s at = replicate n 0
value_at Carried n s at = spliced (replicate n 0) 0 (turned (part_of s at (at + n)))

-- the same for a field of one octet
unfoldable pub octet_at : Presence → List ℕ → ℕ → ℕ
octet_at Absent s at = 0
octet_at Zero s at = 0
octet_at Carried s at = get_or s at 0

-- the fields of a frame s with this command; a field that the command does not carry is zero
unfoldable pub fields_of : Command → List ℕ → Fields
fields_of c s =
    let l = layout_of c in
    let p = places_of l in
    record {
      ads = value_at Carried address_width s ads_at;
      adp = get_or s adp_at 0;
      za1 = value_at l.za1 number_width s fields_at;
      za2 = value_at l.za2 number_width s p.za2.0;
      tab = octet_at l.tab s p.tab.0;
      announced = value_at l.announced address_width s p.announced.0;
    }

-- its DATA: what stands between the other fields and the CRC
unfoldable pub data_of : Command → List ℕ → List ℕ
data_of c s = part_of s (places_of (layout_of c)).content.0 (length s - crc_width)

-- what a field with the value v carries
unfoldable pub carried_by : Presence → List ℕ → List ℕ
carried_by Absent v = replicate (length v) 0
carried_by Zero v = replicate (length v) 0
carried_by Carried v = v

unfoldable pub carried_octet : Presence → ℕ → ℕ
carried_octet Absent x = 0
carried_octet Zero x = 0
carried_octet Carried x = x

-- of these fields those that the command carries; the others are zero
unfoldable pub carried : Command → Fields → Fields
carried c f =
    let l = layout_of c in
    record {
      ads = f.ads;
      adp = f.adp;
      za1 = carried_by l.za1 f.za1;
      za2 = carried_by l.za2 f.za2;
      tab = carried_octet l.tab f.tab;
      announced = carried_by l.announced f.announced;
    }

-- whether offset i lies in a zero field of n octets at offset at
unfoldable pub in_zero : Presence → ℕ → ℕ → ℕ → Bool
in_zero Absent n at i = false
in_zero Zero n at i = leb at i && ltb i (at + n)
in_zero Carried n at i = false

-- whether offset i lies in a zero field of the layout
unfoldable pub in_zero_field : Layout → ℕ → Bool
in_zero_field l i =
    let p = places_of l in
    in_zero l.za1 number_width fields_at i || (in_zero l.za2 number_width p.za2.0 i || (in_zero l.tab tab_width p.tab.0 i || in_zero l.announced address_width p.announced.0 i))
