-- A record of the swap file and the rules that it keeps (01, Swap file; 02, E10).
use Rattle.std.specs.Prelude.{ℕ, suc, ◌+◌, ◌*◌, ◌≤◌, ◌<◌, ◌≡◌, Bool, true, cond, List, [], ◌∷◌, ◌++◌, leb, eqb, length, get_or}
use Rattle.label.specs.Utf8.{well_formed}
use Rattle.swap.specs.declared.kind.Kind.{Kind}
use Rattle.swap.specs.declared.kind.Kind.TheVariants.{Raw, Label, Long}

-- content stands for 01's data
pub record Record : Type 0 where
  pub ads : List ℕ
  pub tab : ℕ
  pub kind : ℕ
  pub content : List ℕ

-- 01, Swap file: "kind 1 (0 raw, 1 label)"; 02, E10: "a raw kind, 2, long record"
abbrev pub kind_octet : Kind → ℕ
kind_octet Raw = 0
kind_octet Label = 1
kind_octet Long = 2

-- an octet stands for a kind
unfoldable pub known_kind : ℕ → Bool
known_kind octet = leb octet 2

-- the kind of a known octet
unfoldable pub kind_of : ℕ → Kind
kind_of octet = cond (eqb octet 1) Label (cond (eqb octet 2) Long Raw)

-- 02, E10: "length 0 to 4,096; kinds 0 and 1 are held to 116"
unfoldable pub length_limit : Kind → ℕ
length_limit Raw = 116
length_limit Label = 116
length_limit Long = 4096

-- 01, Swap file: "label data is well-formed"; 02, E10: a long record is raw
unfoldable pub fits_kind : Kind → List ℕ → Bool
fits_kind Raw content = true
fits_kind Label content = well_formed content
fits_kind Long content = true

-- 01, Swap file: "Count 0 to 4,096"
abbrev pub count_limit : ℕ
count_limit = 4096

-- 01, Swap file: "file at most 65,536 octets"
abbrev pub file_limit : ℕ
file_limit = 65536

-- octets as one number, the first highest, after a number that stands before them
unfoldable pub number_from : ℕ → List ℕ → ℕ
number_from n [] = n
number_from n (o ∷ s) = number_from (n * 256 + o) s

-- ADS then TAB as one number, by which records rise
unfoldable pub rank_of : List ℕ → ℕ
rank_of s = number_from 0 s

unfoldable pub rank : Record → ℕ
rank r = rank_of (r.ads ++ r.tab ∷ [])

-- a record within the rules
pub record Sound (r : Record) : Type 0 where
  pub address : length r.ads ≡ 6
  pub address_octets : (i : ℕ) → get_or r.ads i 0 < 256
  pub tab_octet : r.tab < 256
  pub known : known_kind r.kind ≡ true
  pub short : length r.content ≤ length_limit (kind_of r.kind)
  pub content_octets : (i : ℕ) → get_or r.content i 0 < 256
  pub text : fits_kind (kind_of r.kind) r.content ≡ true

-- a record of octets, with any octet for its kind and data of any length: what a call can be given
pub record OfOctets (r : Record) : Type 0 where
  pub address : length r.ads ≡ 6
  pub address_octets : (i : ℕ) → get_or r.ads i 0 < 256
  pub tab_octet : r.tab < 256
  pub content_octets : (i : ℕ) → get_or r.content i 0 < 256

pub data Each (P : Record → Type 0) : List Record → Type 0 where
  none : Each P []
  more : {r : Record} {rs : List Record} → P r → Each P rs → Each P (r ∷ rs)

-- 01, Swap file: "Records rise strictly by ADS then TAB"; the first has no lower rank than the least
pub data Rising : ℕ → List Record → Type 0 where
  none : {least : ℕ} → Rising least []
  more : {least : ℕ} {r : Record} {rs : List Record} → least ≤ rank r → Rising (suc (rank r)) rs → Rising least (r ∷ rs)
