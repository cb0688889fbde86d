-- The octets of a list of records (01, Swap file).
use Rattle.std.specs.Prelude.{ℕ, ◌≤◌, List, [], ◌∷◌, ◌++◌, length}
use Rattle.number.specs.Groups.{encoded}
use Rattle.swap.specs.Record.{Record, Sound, Each, Rising, count_limit, file_limit}

-- 01, Swap file: "ADS 6, TAB 1, kind 1 (0 raw, 1 label), length, data"
unfoldable pub record_octets : Record → List ℕ
record_octets r = r.ads ++ r.tab ∷ r.kind ∷ encoded (length r.content) ++ r.content

unfoldable pub records_octets : List Record → List ℕ
records_octets [] = []
records_octets (r ∷ rs) = record_octets r ++ records_octets rs

-- 01, Swap file: "Count of records, then each"
unfoldable pub encode : List Record → List ℕ
encode rs = encoded (length rs) ++ records_octets rs

-- records within all rules
pub record Within (rs : List Record) : Type 0 where
  pub sound : Each Sound rs
  pub rising : Rising 0 rs
  pub few : length rs ≤ count_limit
  pub small : length (encode rs) ≤ file_limit
