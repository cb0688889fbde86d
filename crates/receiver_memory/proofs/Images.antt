-- What filling an array behind its front leaves.
use Prim.Native.Nat.{ℕ, ◌+◌}
use mathlib.Core.Path.{◌≡◌, refl}
use mathlib.Core.List.{List, ◌++◌, append-nil}
use native.Mathlib.Omega.{arith}
use lib.ListN.{length, length-append, drop_of_length-le}
use lib.Seq.{take_at}
use Rattle.octets.specs.Splice.{spliced}
use Rattle.octets.proofs.Splice.{spliced_fits}

pub after_front : (p rest s : List ℕ) → length rest ≡ length s → spliced (p ++ rest) (length p) s ≡ p ++ s
after_front p rest s e =
    let n = length-append p rest in
    rw (
      spliced_fits (p ++ rest) (length p) s (omega (arith, n)),
      take_at p rest (length p) refl,
      drop_of_length-le (p ++ rest) {i = length p + length s} (omega (arith, n)),
      append-nil (p ++ s),
    )
