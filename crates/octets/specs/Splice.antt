-- One list written over a part of another.
use Rattle.std.specs.Prelude.{ℕ, ◌+◌, List, ◌++◌, cond, length, take, drop, leb}

-- m with s over its elements from offset at on; m itself where s does not fit there
unfoldable pub spliced : List ℕ → ℕ → List ℕ → List ℕ
spliced m at s = cond (leb (at + length s) (length m)) (take at m ++ s ++ drop (at + length s) m) m

-- m with s over its front
unfoldable pub fronted : List ℕ → List ℕ → List ℕ
fronted s m = s ++ drop (length s) m
