-- A list of records with one more in its place (01, Swap file: "Records rise strictly by ADS then TAB").
use Rattle.std.specs.Prelude.{cond, List, [], ◌∷◌, leb}
use Rattle.swap.specs.Record.{Record, rank}

-- after the records at the front that have no higher rank
unfoldable pub placed : Record → List Record → List Record
placed r [] = r ∷ []
placed r (q ∷ qs) = cond (leb (rank q) (rank r)) (q ∷ placed r qs) (r ∷ q ∷ qs)
