-- The row of RFC 3629's table that a sequence's first octet tells, for the steps in which the code reads a sequence.
use Rattle.std.specs.Prelude.{cond, List, [], ◌∷◌, ℕ, take}
use Rattle.label.specs.Utf8.{Range, table, begins}

-- the row whose first range has this octet: an empty one where there is none
unfoldable pub row_among : List (List Range) → ℕ → List Range
row_among [] lead = []
row_among (row ∷ rows) lead = cond (begins (take 1 row) (lead ∷ [])) row (row_among rows lead)

unfoldable pub row_of : ℕ → List Range
row_of lead = row_among table lead
