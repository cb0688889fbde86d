-- Records as the writer takes them (docs/DECISIONS.md, Swap file): heads of ten octets, and their data one after the other. A head is ADS 6, TAB, kind, and the length in two octets, the low one first.
use Rattle.std.specs.Prelude.{ℕ, zero, suc, ◌+◌, ◌*◌, ◌/◌, ◌%◌, cond, List, [], ◌∷◌, ◌++◌, leb, length, get_or, take, drop}
use Rattle.number.specs.Groups.{encoded}
use Rattle.swap.specs.Record.{Record}

abbrev pub head_size : ℕ
head_size = 10

unfoldable pub head_of : Record → List ℕ
head_of r = r.ads ++ r.tab ∷ r.kind ∷ length r.content % 256 ∷ length r.content / 256 ∷ []

unfoldable pub heads_of : List Record → List ℕ
heads_of [] = []
heads_of (r ∷ rs) = head_of r ++ heads_of rs

unfoldable pub contents_of : List Record → List ℕ
contents_of [] = []
contents_of (r ∷ rs) = r.content ++ contents_of rs

-- the length that the head at the front states
unfoldable pub head_length : List ℕ → ℕ
head_length heads = get_or heads 8 0 + 256 * get_or heads 9 0

-- what the head at the front gives the file: ADS, TAB, kind, length
unfoldable pub front_octets : List ℕ → List ℕ
front_octets heads = take 8 heads ++ encoded (head_length heads)

-- the octets of so many heads with their data. Where the data runs out the file is cut there; what is left of heads and data follows the last record
unfoldable pub body_of : ℕ → List ℕ → List ℕ → List ℕ
body_of zero heads contents = heads ++ contents
body_of (suc k) heads contents =
    cond (leb (head_length heads) (length contents))
    (front_octets heads ++ (take (head_length heads) contents ++ body_of k (drop head_size heads) (drop (head_length heads) contents)))
    (front_octets heads ++ contents)

-- the would-be file: the count of whole heads, then their octets
unfoldable pub file_of : List ℕ → List ℕ → List ℕ
file_of heads contents = encoded (length heads / head_size) ++ body_of (length heads / head_size) heads contents
