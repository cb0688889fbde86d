-- Numbers in groups of seven bits, low group first, the top bit set on all octets but the last, shortest form only (01, Swap file).
use Rattle.std.specs.Prelude.{ℕ, zero, suc, ◌+◌, ◌*◌, ◌/◌, ◌%◌, ◌^◌, List, [], ◌∷◌, cond, length, drop, ltb, leb, eqb}
use Rattle.std.proofs.Math.Seq.{paste}
use Rattle.numbers.specs.declared.Octets.{Octets}
use Rattle.numbers.specs.Counts.{in_octets}
use Rattle.numbers.specs.Answer.{Answer, given, refused, refused_at}
use Rattle.numbers.specs.Table.{faulty_file, wrong_length}

-- the octets of n, of which at most so many are followed by another
unfoldable pub groups : ℕ → ℕ → List ℕ
groups zero n = n ∷ []
groups (suc k) n = cond (ltb n 128) (n ∷ []) ((128 + n % 128) ∷ groups k (n / 128))

-- the octets of n, five at most, which hold every number below 2^32
unfoldable pub encoded : ℕ → List ℕ
encoded n = groups 4 n

-- what stands at the front of a list of octets: a number and how many octets it takes, or none
pub data Front : Type 0 where
  found : ℕ → ℕ → Front
  none : Front

-- a low group before a number: a zero after it is a longer form than needed
unfoldable pub joined : ℕ → Front → Front
joined low (found n w) = cond (eqb n 0) none (found (low + 128 * n) (suc w))
joined low none = none

-- the number at the front in so many groups at most
unfoldable pub decoded : ℕ → List ℕ → Front
decoded zero s = none
decoded (suc k) [] = none
decoded (suc k) (o ∷ s) = cond (ltb o 128) (found o 1) (joined (o % 128) (decoded k s))

-- numbers below 2^32 alone
unfoldable pub bounded : Front → Front
bounded (found n w) = cond (ltb n (2 ^ 32)) (found n w) none
bounded none = none

-- the number at the front: five groups hold every number below 2^32
unfoldable pub front_number : List ℕ → Front
front_number s = bounded (decoded 5 s)

-- a number found at an offset, with the offset after it; 18 at the offset where there is none
unfoldable pub placed : Octets → Front → Answer (ℕ × Octets)
placed at (found n w) = given (n, in_octets (at.0 + w))
placed at none = refused_at faulty_file at

-- what stands at an offset
unfoldable pub read_at : List ℕ → Octets → Answer (ℕ × Octets)
read_at s at = placed at (front_number (drop at.0 s))

-- what writing n at an offset answers: the offset after it, or 17 where it does not fit
unfoldable pub written_at : List ℕ → Octets → ℕ → Answer Octets
written_at s at n = cond (leb (at.0 + length (encoded n)) (length s)) (given (in_octets (at.0 + length (encoded n)))) (refused wrong_length)

-- the octets after that: those of n from the offset on, where it fits
unfoldable pub with_number_at : List ℕ → Octets → ℕ → List ℕ
with_number_at s at n = cond (leb (at.0 + length (encoded n)) (length s)) (paste s at.0 (encoded n) (length (encoded n))) s
