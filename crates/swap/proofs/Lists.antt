-- Lists of records in parts.
use Prim.Native.Nat.{ℕ, suc}
use mathlib.Core.Path.{◌≡◌, refl}
use mathlib.Core.List.{List, [], ◌∷◌, ◌++◌, append_assoc}
use Rattle.swap.specs.Record.{Record, Each, Rising, rank}
use Rattle.swap.specs.Encoding.{records_octets}

pub octets_append : (ps qs : List Record) → records_octets (ps ++ qs) ≡ records_octets ps ++ records_octets qs
unfolding records_octets
octets_append [] qs = refl
octets_append (p ∷ ps) qs = rw (octets_append ps qs, append_assoc)

pub each_at : {P : Record → Type 0} (ps : List Record) (r : Record) (qs : List Record) → Each P (ps ++ r ∷ qs) → P r
each_at [] r qs (Each.more p s) = p
each_at (q ∷ ps) r qs (Each.more p s) = each_at ps r qs s

pub each_front : {P : Record → Type 0} (ps qs : List Record) → Each P (ps ++ qs) → Each P ps
each_front [] qs h = Each.none
each_front (p ∷ ps) qs (Each.more h m) = Each.more h (each_front ps qs m)

pub rising_front : (least : ℕ) (ps : List Record) (r : Record) (qs : List Record) → Rising least (ps ++ r ∷ qs) → Rising least (ps ++ r ∷ [])
rising_front least [] r qs (Rising.more h m) = Rising.more h Rising.none
rising_front least (p ∷ ps) r qs (Rising.more h m) = Rising.more h (rising_front (suc (rank p)) ps r qs m)
