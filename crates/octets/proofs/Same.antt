-- `same` is true of equal lists alone.
use Prim.Native.Nat.{ℕ}
use mathlib.Core.Path.{◌≡◌, refl}
use mathlib.Core.List.{List}
use mathlib.Core.Bool.{true}
use Rattle.std.proofs.lemmas.Slice.Eq.{bytes_eq-Decides}
use Rattle.octets.specs.Part.{same}

pub same_self : (s : List ℕ) → same s s ≡ true
same_self s = (bytes_eq-Decides s s).1 refl

pub same_equal : (s t : List ℕ) → same s t ≡ true → s ≡ t
same_equal s t = (bytes_eq-Decides s t).0
