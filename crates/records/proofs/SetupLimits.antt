-- The ends of setup's ranges, computed (01, The card: "up to 32 records", "an octet limit 0 to 116, for labels a character limit 0 to 116").
use Prim.Native.Nat.{ℕ, zero, suc}
use mathlib.Core.Bool.{true, false}
use mathlib.Core.List.{List, [], ◌∷◌, map}
use mathlib.Core.Path.{◌≡◌, refl}
use Rattle.numbers.specs.Counts.{in_octets, in_characters}
use Rattle.records.specs.declared.Kind.TheVariants.{Label}
use Rattle.records.specs.declared.Record.{Record}
use Rattle.records.specs.declared.Records.{Records}
use Rattle.records.specs.Finding.{attributes_of}
use Rattle.records.specs.Setup.{all_keep_limits, present, tabs_apart, keeps_rules}

-- so many labels with these limits, no TAB twice
labels : ℕ → ℕ → ℕ → List Record
labels zero octets characters = []
labels (suc n) octets characters =
    record {
      attributes = record { tab = n; kind = Label (in_characters characters); limit = in_octets octets; readable = true; programming = true; transfer = true };
      length = in_octets 0;
      storage = [];
    }
    ∷ labels n octets characters

given : ℕ → ℕ → ℕ → Records
given n octets characters = record { count = n; each = labels n octets characters }

-- none, as many as may be, one more; the least limits, the greatest, one more of each
setup_limits : map keeps_rules (given 0 0 0 ∷ given 32 0 0 ∷ given 32 116 116 ∷ given 33 116 116 ∷ given 32 117 116 ∷ given 32 116 117 ∷ []) ≡ true ∷ true ∷ true ∷ false ∷ false ∷ false ∷ []
unfolding given labels keeps_rules attributes_of tabs_apart present all_keep_limits
setup_limits = refl
