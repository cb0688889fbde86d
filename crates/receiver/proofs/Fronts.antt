-- One element more after the front of a list, and what a list's own front leaves.
use Prim.Native.Nat.{ℕ, suc, ◌≤◌, ◌<◌}
use mathlib.Core.Path.{◌≡◌}
use mathlib.Core.List.{List, [], ◌∷◌, ◌++◌}
use native.Mathlib.Numerals.{add-one}
use native.Mathlib.Omega.{arith}
use lib.ListN.{length, take, drop, get_or, set, take-append-drop, get_or-append}
use lib.Seq.{append_snoc, drop-cons, length-take-le, set-append_seam}
use Rattle.std.proofs.lemmas.List.{length_push}
use Rattle.octets.specs.Splice.{fronted}

pub front_next : (s m : List ℕ) (o : ℕ) → length s < length m → set (fronted s m) (length s) o ≡ fronted (s ++ (o ∷ [])) m
unfolding fronted
front_next s m o h =
    rw (length_push, add-one, append_snoc, drop-cons m (length s) 0 h)
    (set-append_seam s (get_or m (length s) 0) (drop (suc (length s)) m) o)

pub own_front : (n : ℕ) (l : List ℕ) → n ≤ length l → fronted (take n l) l ≡ l
unfolding fronted
own_front n l h = rw (length-take-le n l h) (take-append-drop n l)

-- a store at n is one element more after the first n
pub store_next : (n : ℕ) (l : List ℕ) (o : ℕ) → n < length l → set l n o ≡ fronted (take n l ++ (o ∷ [])) l
store_next n l o h =
    let w : n ≤ length l = omega arith in
    rw (← front_next (take n l) l o (rw (length-take-le n l w) h), own_front n l w, length-take-le n l w)

pub front_first : (s m : List ℕ) → 0 < length s → get_or (fronted s m) 0 0 ≡ get_or s 0 0
unfolding fronted
front_first s m p = get_or-append s (drop (length s) m) 0 0 p
