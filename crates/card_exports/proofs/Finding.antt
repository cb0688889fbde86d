-- What is found in whole memory is one of its records.
use Prim.Native.Nat.{ℕ, ◌≤◌, ◌<◌}
use mathlib.Core.Path.{◌≡◌}
use mathlib.Core.List.{List}
use native.Mathlib.Omega.{arith}
use lib.ListN.{length}
use Rattle.numbers.specs.Answer.{given}
use Rattle.records.specs.Finding.{attributes_of, find}
use Rattle.records.proofs.InUse.{used-length}
use Rattle.records.proofs.Places.{found_used}
use Rattle.card_memory.specs.Layout.{record_places, size}
use Rattle.card_memory.specs.Decoding.{decoded}
use Rattle.card_memory.proofs.Shape.{each_length}

pub found_inside : (m : List ℕ) → size ≤ length m → (t i : ℕ) → find (attributes_of (decoded m).records) t ≡ given i → i < record_places
found_inside m h t i e = omega (arith, found_used (decoded m).records t i e, used-length (decoded m).records (each_length m h))
