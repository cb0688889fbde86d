-- A quoted text as octets.
use Rattle.std.specs.Prelude.{ℕ, List, [], ◌∷◌}
use Prim.Native.Char.{code}
use Prim.Native.String.{String}
use Prim.Native.String as string

-- the codes of a text of ASCII characters, one octet each
abbrev pub quoted : String → List ℕ
quoted string.[] = []
quoted (string.◌∷◌ c s) = code c ∷ quoted s
