-- What is read at an offset, and numbers as octets.
use Prim.Native.Nat.{ℕ, zero, suc, ◌+◌, ◌≤◌, ◌<◌}
use mathlib.Core.Path.{◌≡◌, refl, ◌∙◌}
use mathlib.Core.Bool.{Bool, true, false}
use mathlib.Core.List.{List}
use native.Mathlib.Nat.{min-eq_left}
use native.Mathlib.Omega.{arith}
use lib.Dec.{eqb}
use lib.ListN.{length, get_or, replicate, length-replicate}
use Rattle.octets.specs.Part.{part_of}
use Rattle.octets.proofs.Splice.{spliced_whole}
use Rattle.octets.proofs.Parts.{length_part, get_or_part}
use Rattle.octets.proofs.Impossible.{impossible}
use Rattle.receiver_memory.specs.Fields.{mark_of, narrowed, field_at}

-- where the memory holds the field, it is the part of the memory
pub field_part : (n : ℕ) (m : List ℕ) (at : ℕ) → at + n ≤ length m → field_at n m at ≡ part_of m at (at + n)
unfolding field_at
field_part n m at h =
    spliced_whole (replicate n 0) (part_of m at (at + n)) (length_part m at (at + n) (omega arith) h ∙ rw (length-replicate) (omega arith))

pub length_field : (n : ℕ) (m : List ℕ) (at : ℕ) → at + n ≤ length m → length (field_at n m at) ≡ n
length_field n m at h = rw (field_part n m at h) (length_part m at (at + n) (omega arith) h ∙ omega arith)

pub get_or_field : (n : ℕ) (m : List ℕ) (at : ℕ) → at + n ≤ length m → (k : ℕ) → k < n → get_or (field_at n m at) k 0 ≡ get_or m (at + k) 0
get_or_field n m at h k lt = rw (field_part n m at h) (get_or_part m at (at + n) k h (omega arith))

pub mark_back : (b : Bool) → eqb (mark_of b) 1 ≡ b
mark_back true = refl
mark_back false = refl

-- a mark in use is that of the truth value that it stands for
pub mark_again : (n : ℕ) → n ≤ 1 → mark_of (eqb n 1) ≡ n
mark_again zero h = refl
mark_again (suc zero) h = refl
mark_again (suc (suc j)) h = impossible (omega arith)

pub mark_in_use : (b : Bool) → mark_of b ≤ 1
mark_in_use true = omega arith
mark_in_use false = omega arith

pub narrowed_fits : (n : ℕ) → n < 256 → narrowed n ≡ n
narrowed_fits n h = min-eq_left (omega arith)

pub narrowed_octet : (n : ℕ) → narrowed n < 256
narrowed_octet n = omega arith
