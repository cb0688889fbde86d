-- What owning a record, or records, by value tells of their lists: the arrays' lengths.
use Prim.Native.Nat.{ℕ, zero, suc, ◌<◌, min}
use mathlib.Core.List.{List, [], ◌∷◌}
use mathlib.Core.Path.{◌≡◌, sym, ◌∙◌}
use native.Mathlib.Omega.{arith}
use lib.ListN.{length, get_or}
use mir.Val.{Val}
use denote.Array.{each}
use denote.Shadow.{shadow}
use Rattle.numbers.specs.Answer.{given}
use Rattle.records.specs.declared.Record.{Record}
use Rattle.records.specs.declared.Records.{Records}
use Rattle.records.specs.Sizes.{most_records, most_octets}
use Rattle.records.specs.Finding.{used, attributes_of, blank, record_at, find}
use Rattle.records.proofs.InUse.{used-length}
use Rattle.records.proofs.Places.{found_used}
use Rattle.records.specs.contracts.Record as R
use Rattle.records.specs.contracts.Records as S

pub storage_length : (r : Record) (vs : List Val) → shadow ((R.the_row).own_val r vs) → length r.storage ≡ most_octets
storage_length r vs g = g.1.1.1.1.0.1.0.1

element_length : (l : List Record) (us : List Val) (i : ℕ) → shadow (each (R.the_row).Denot (R.the_row).own_val l us) → i < length l → length (get_or l i blank).storage ≡ most_octets
element_length [] us i p h = let f : ⊥ = omega arith in absurd f
element_length (r ∷ l) [] i p h = absurd p
element_length (r ∷ l) (u ∷ us) zero p h = storage_length r (u ∷ []) p.0
element_length (r ∷ l) (u ∷ us) (suc i) p h = element_length l us i p.1 (omega arith)

module _ (s : Records) (vs : List Val) (own : shadow ((S.the_row).own_val s vs)) where
  pub each-length : length s.each ≡ most_records
  each-length = own.1.1.1.0.1.0.1

  -- a walk of as many records as the count allows goes over those in use
  pub in_use_length : (n : ℕ) → n ≡ min s.count most_records → n ≡ length (used s)
  in_use_length n e = e ∙ sym (used-length s each-length)

  pub record_storage : (i : ℕ) → i < most_records → length (record_at s i).storage ≡ most_octets
  record_storage i h = element_length s.each own.1.1.1.0.0 i own.1.1.1.0.1.1 (omega (arith, each-length))

  -- what is found is one of the array
  pub found_element : (t i : ℕ) → find (attributes_of s) t ≡ given i → i < most_records
  found_element t i e = omega (arith, found_used s t i e, used-length s each-length)
