-- The kinds of records, one record after the other.
use Prim.Native.Nat.{ℕ, zero, suc, ◌+◌, ◌*◌}
use mathlib.Core.Path.{◌≡◌, refl}
use mathlib.Core.List.{List}
use native.Mathlib.Omega.{arith}
use Rattle.std.specs.List.{range_with_len, list_all}
use Rattle.card_memory.specs.Layout.{record_size}
use Rattle.card_memory.specs.Legibility.{kind_known, kinds_known}

pub kinds_all : (n i start : ℕ) (m : List ℕ) → list_all (λ (k : ℕ). kind_known m (start + record_size * k)) (range_with_len i n) ≡ kinds_known n (start + record_size * i) m
unfolding kinds_known
kinds_all zero i start m = refl
kinds_all (suc n) i start m =
    let next : start + record_size * (i + 1) ≡ start + record_size * i + record_size = omega arith in
    rw (kinds_all n (i + 1) start m, next)
