-- The records of a memory: how many, and where each is read.
use Prim.Native.Nat.{ℕ, zero, suc, ◌+◌, ◌*◌, ◌<◌}
use mathlib.Core.Path.{◌≡◌, refl, ap, ◌∙◌}
use mathlib.Core.List.{List, ◌++◌}
use native.Mathlib.Nat.{zero-add}
use native.Mathlib.Numerals.{add-one}
use native.Mathlib.Omega.{arith}
use lib.ListN.{length, take, drop, get_or, set}
use lib.Seq.{paste-suc}
use Rattle.octets.specs.Part.{part_of}
use Rattle.records.specs.Finding.{blank}
use Rattle.card_memory.specs.Layout.{record_size}
use Rattle.card_memory.specs.Decoding.{record_in, records_in}

-- an array filled up to i with the elements of d, with one more
pub fill_next : {A : Type 0} (d a : List A) (z : A) (i : ℕ) → i < length d → i < length a → set (take i d ++ drop i a) i (get_or d i z) ≡ take (i + 1) d ++ drop (i + 1) a
fill_next d a z i h k = rw add-one (simp zero-add at (paste-suc a 0 d i z (rw zero-add k) h))

pub length_records : (n at : ℕ) (m : List ℕ) → length (records_in n at m) ≡ n
unfolding records_in
length_records zero at m = refl
length_records (suc n) at m = ap suc (length_records n (at + record_size) m)

pub record_at_lem : (n i at : ℕ) (m : List ℕ) → i < n → get_or (records_in n at m) i blank ≡ record_in (part_of m (at + record_size * i) (at + record_size * i + record_size))
unfolding records_in
record_at_lem zero i at m h = let z : ⊥ = omega arith in absurd z
record_at_lem (suc n) zero at m h =
    let e : at + record_size * 0 ≡ at = omega arith in
    rw e
record_at_lem (suc n) (suc i) at m h =
    let e : at + record_size + record_size * i ≡ at + record_size * suc i = omega arith in
    record_at_lem n i (at + record_size) m (omega arith) ∙ rw e
