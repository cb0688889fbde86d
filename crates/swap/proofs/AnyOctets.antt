-- A record of octets is within the rules by its kind and length alone, but for a label's text (01, Swap file; 02, E10).
use Prim.Native.Nat.{◌≤◌}
use mathlib.Core.Path.{◌≡◌}
use mathlib.Core.Bool.{true}
use lib.ListN.{length}
use Rattle.label.specs.Utf8.{well_formed}
use Rattle.swap.specs.Record.{Record, Sound, OfOctets, known_kind, kind_of, length_limit, fits_kind}

module _ (r : Record) (o : OfOctets r) where
  of_kind : known_kind r.kind ≡ true → length r.content ≤ length_limit (kind_of r.kind) → fits_kind (kind_of r.kind) r.content ≡ true → Sound r
  of_kind known short text =
      record {
        address = o.address;
        address_octets = o.address_octets;
        tab_octet = o.tab_octet;
        known = known;
        short = short;
        content_octets = o.content_octets;
        text = text;
      }

  pub raw_sound : r.kind ≡ 0 → length r.content ≤ 116 → Sound r
  unfolding known_kind kind_of length_limit fits_kind
  raw_sound k h = of_kind (rw k) (rw k h) (rw k)

  pub label_sound : r.kind ≡ 1 → length r.content ≤ 116 → well_formed r.content ≡ true → Sound r
  unfolding known_kind kind_of length_limit fits_kind
  label_sound k h t = of_kind (rw k) (rw k h) (rw k t)

  -- 02, E10: "a raw kind, 2, long record, length 0 to 4,096"
  pub long_sound : r.kind ≡ 2 → length r.content ≤ 4096 → Sound r
  unfolding known_kind kind_of length_limit fits_kind
  long_sound k h = of_kind (rw k) (rw k h) (rw k)
