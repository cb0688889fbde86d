-- A good frame in words: docs/PROGRAMS.md, A good frame.
use Rattle.std.specs.Prelude.{ℕ, ◌+◌, List, [], ◌∷◌, ◌++◌, cond, length, leb}
use Rattle.octets.specs.Splice.{spliced}
use Rattle.text.specs.Text.{hex_text}
use Rattle.frame.specs.declared.codes.Command.{Command}
use Rattle.frame.specs.declared.codes.Command.TheVariants.{Enq, Dat, Rec, Ech, Aut, Eos, Aso, Rso, Ib, Drj, Arj, Trf, Trb, Tra, Pre, Sel}
use Rattle.numbers.specs.Answer.{Answer, given, refused, refused_at}
use Rattle.frame.specs.declared.content.Fields.{Fields}
use Rattle.frame.specs.Content.{fields_of, data_of}
use Rattle.frame.specs.Checks.{inspected}
use Rattle.frame_text.specs.declared.items.Item.{Item}
use Rattle.frame_text.specs.declared.items.Item.TheVariants.{Na1, Na1k, Na2, Na2k, Tab, Station, Data, Tabi}
use Rattle.frame_text.specs.Letters.{space, one, two, A, B, D, K, N, P, S, T, i}
use Rattle.frame_text.specs.Names.{name_of}

-- docs/PROGRAMS.md: "DATA of no octets is the word `DATA` alone"; else, as every value, two digits to an octet after its name and a space
unfoldable pub data_words : List ℕ → List ℕ
data_words [] = space ∷ D ∷ A ∷ T ∷ A ∷ []
data_words (o ∷ d) = (space ∷ D ∷ A ∷ T ∷ A ∷ space ∷ []) ++ hex_text (o ∷ d)

-- the fields are those of 01, Frames; NA1K and NA2K are the numbers enciphered, TABi is ASO's DATA
unfoldable pub item_words : Item → Fields → List ℕ → List ℕ
item_words Na1 f d = (space ∷ N ∷ A ∷ one ∷ space ∷ []) ++ hex_text f.za1
item_words Na1k f d = (space ∷ N ∷ A ∷ one ∷ K ∷ space ∷ []) ++ hex_text f.za1
item_words Na2 f d = (space ∷ N ∷ A ∷ two ∷ space ∷ []) ++ hex_text f.za2
item_words Na2k f d = (space ∷ N ∷ A ∷ two ∷ K ∷ space ∷ []) ++ hex_text f.za2
item_words Tab f d = (space ∷ T ∷ A ∷ B ∷ space ∷ []) ++ hex_text (f.tab ∷ [])
item_words Station f d = (space ∷ A ∷ D ∷ S ∷ space ∷ []) ++ hex_text f.announced
item_words Data f d = data_words d
item_words Tabi f d = (space ∷ T ∷ A ∷ B ∷ i ∷ space ∷ []) ++ hex_text d

-- docs/PROGRAMS.md: which fields a command's words have, in their order
unfoldable pub items_of : Command → List Item
items_of Enq = Tab ∷ []
items_of Dat = Tab ∷ Data ∷ []
items_of Rec = Na1 ∷ Tab ∷ Data ∷ []
items_of Ech = Na1k ∷ Na2 ∷ Tab ∷ Data ∷ []
items_of Aut = Na2k ∷ []
items_of Eos = []
items_of Aso = Tabi ∷ []
items_of Rso = Tab ∷ Station ∷ []
items_of Ib = []
items_of Drj = []
items_of Arj = []
items_of Trf = Tab ∷ Data ∷ []
items_of Trb = Tab ∷ Data ∷ []
items_of Tra = []
items_of Pre = []
items_of Sel = []

unfoldable pub items_words : List Item → Fields → List ℕ → List ℕ
items_words [] f d = []
items_words (i ∷ l) f d = item_words i f d ++ items_words l f d

-- the command, ADS and ADP
unfoldable pub head_words : Command → Fields → List ℕ
head_words c f = name_of c ++ ((space ∷ A ∷ D ∷ S ∷ space ∷ []) ++ hex_text f.ads) ++ ((space ∷ A ∷ D ∷ P ∷ space ∷ []) ++ hex_text (f.adp ∷ []))

unfoldable pub words_of : Command → Fields → List ℕ → List ℕ
words_of c f d = head_words c f ++ items_words (items_of c) f d

-- the words of a slice that is a good frame; none of any other
unfoldable pub words_as : Answer Command → List ℕ → List ℕ
words_as (given c) s = words_of c (fields_of c s) (data_of c s)
words_as (refused number) s = []
words_as (refused_at number offset) s = []

unfoldable pub frame_words : List ℕ → List ℕ
frame_words s = words_as (inspected s) s

-- DATA and TABi have at most so many octets in the longest frame
abbrev pub most_data : ℕ
most_data = 117

-- the most octets that the words of a frame have, and those of its head
abbrev pub most_words : ℕ
most_words = 320

abbrev pub most_head_words : ℕ
most_head_words = 27

-- the most octets that a field's words have
abbrev pub width_of : Item → ℕ
width_of Na1 = 21
width_of Na1k = 22
width_of Na2 = 21
width_of Na2k = 22
width_of Tab = 7
width_of Station = 17
width_of Data = 240
width_of Tabi = 240

unfoldable pub widths : List Item → ℕ
widths [] = 0
widths (i ∷ l) = width_of i + widths l

-- with fewer than the most octets left from offset at on, nothing is written and the offset stays
unfoldable pub frame_end : List ℕ → ℕ → List ℕ → ℕ
frame_end m at s = cond (leb (at + most_words) (length m)) (at + length (frame_words s)) at

unfoldable pub frame_over : List ℕ → ℕ → List ℕ → List ℕ
frame_over m at s = cond (leb (at + most_words) (length m)) (spliced m at (frame_words s)) m
