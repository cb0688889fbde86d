-- A part of a list, and the equality of two lists as a test.
use Rattle.std.specs.Prelude.{ℕ, ◌-◌, List, [], Bool, cond, length, take, drop, leb, bytes_eq}

-- the elements from offset a up to, not including, offset e; none where s has no such part
unfoldable pub part_of : List ℕ → ℕ → ℕ → List ℕ
part_of s a e = cond (leb e (length s)) (take (e - a) (drop a s)) []

-- whether two lists are the same
abbrev pub same : List ℕ → List ℕ → Bool
same = bytes_eq
