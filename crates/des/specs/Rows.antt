-- What "each row of sixteen holds 0 to 15 once" says (01, DES).
-- Assumes nothing.
use Rattle.std.specs.Prelude.{Bool, true, false, List, [], ◌∷◌, ℕ, suc, ◌*◌, eqb, take, drop}
use Rattle.des.specs.Tables.{boxes}

-- row i of the table of the boxes, of which each box has four
unfoldable pub row : ℕ → List ℕ
row i = take 16 (drop (16 * i) boxes)

-- one more where the test passes
abbrev pub one_more : Bool → ℕ → ℕ
one_more true n = suc n
one_more false n = n

-- how often v stands in a list
unfoldable pub count : ℕ → List ℕ → ℕ
count v [] = 0
count v (x ∷ xs) = one_more (eqb v x) (count v xs)
