-- The records in use, one after the other: what a walk over them meets at each index.
use Prim.Native.Nat.{ℕ, suc, ◌<◌, min}
use mathlib.Core.List.{◌∷◌}
use mathlib.Core.Path.{◌≡◌, ap, ◌∙◌}
use native.Mathlib.Omega.{arith}
use lib.ListN.{length, drop, get_or, length-take, length-map, get_or-map}
use lib.Seq.{drop-cons, get_or-take}
use Rattle.records.specs.declared.Attributes.{Attributes}
use Rattle.records.specs.declared.Record.{Record}
use Rattle.records.specs.declared.Records.{Records}
use Rattle.records.specs.Sizes.{most_records}
use Rattle.records.specs.Finding.{used, attributes_of, blank_attributes, blank, record_at}
use Rattle.records.specs.Setup.{Rules}

-- of an array of as many records as a card has, as many as the count says are in use
pub used-length : (s : Records) → length s.each ≡ most_records → length (used s) ≡ min s.count most_records
used-length s h = rw (length-take, h)

pub used_count : (s : Records) → length s.each ≡ most_records → Rules s → length (used s) ≡ s.count
used_count s h rules = omega (arith, used-length s h, rules.few)

pub attributes_length : (s : Records) → length (attributes_of s) ≡ length (used s)
unfolding attributes_of
attributes_length s = length-map (used s) _

module _ (s : Records) (i : ℕ) (h : i < length (used s)) where
  pub used_at : get_or (used s) i blank ≡ record_at s i
  used_at = get_or-take s.count s.each i blank (omega (arith, length-take s.count s.each))

  pub attributes_at : get_or (attributes_of s) i blank_attributes ≡ (record_at s i).attributes
  unfolding attributes_of
  attributes_at = get_or-map (λ (r : Record). r.attributes) (used s) i blank ∙ ap (λ (r : Record). r.attributes) used_at

  pub attributes_next : drop i (attributes_of s) ≡ (record_at s i).attributes ∷ drop (suc i) (attributes_of s)
  attributes_next = drop-cons (attributes_of s) i blank_attributes (rw attributes_length h) ∙ ap (λ (a : Attributes). a ∷ drop (suc i) (attributes_of s)) attributes_at
