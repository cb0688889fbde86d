-- Octets that are put into a lent memory, each run of them from an offset on.
use Rattle.std.specs.Prelude.{ℕ, List, [], ◌∷◌}
use Rattle.octets.specs.Splice.{spliced}

pub record Put : Type 0 where
  pub at : ℕ
  pub octets : List ℕ

abbrev pub put : ℕ → List ℕ → Put
put at octets = record { at = at; octets = octets }

-- one after the other; a run that does not fit is left out
unfoldable pub put_all : List Put → List ℕ → List ℕ
put_all [] m = m
put_all (p ∷ l) m = put_all l (spliced m p.at p.octets)
