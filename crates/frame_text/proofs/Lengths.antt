-- How many octets the words have, at most.
use Prim.Native.Nat.{ℕ, zero, suc, ◌-◌, ◌≤◌, ◌<◌}
use mathlib.Core.Path.{◌≡◌, refl, sym, ap, ◌∙◌}
use mathlib.Core.List.{List, [], ◌∷◌, ◌++◌, append-nil, append_assoc}
use mathlib.Core.Bool.{Bool, true, false, cond}
use native.Mathlib.Decide.{dec_le}
use native.Mathlib.Nat.{add-zero}
use native.Mathlib.Omega.{arith}
use lib.ListN.{length, take, get_or, length-append}
use lib.Dec.{leb, lit≤}
use Rattle.octets.specs.Part.{part_of}
use Rattle.octets.proofs.Parts.{length_part, part_none}
use Rattle.octets.proofs.Splice.{spliced_nothing}
use Rattle.text.specs.Text.{hex_text, offset_after}
use Rattle.text.proofs.Writing.{Written}
use Rattle.text.proofs.Hexadecimal.{length_hex}
use Rattle.frame.specs.declared.codes.Command.{Command}
use Rattle.frame.specs.declared.codes.Command.TheVariants.{Enq, Dat, Rec, Ech, Aut, Eos, Aso, Rso, Ib, Drj, Arj, Trf, Trb, Tra, Pre, Sel}
use Rattle.frame.specs.declared.content.Fields.{Fields}
use Rattle.frame.specs.Sizes.{longest_frame, crc_width}
use Rattle.frame.specs.Layout.{layout_of, places_of}
use Rattle.frame.specs.Content.{Shaped, data_of}
use Rattle.frame_text.specs.declared.items.Item.{Item}
use Rattle.frame_text.specs.declared.items.Item.TheVariants.{Na1, Na1k, Na2, Na2k, Tab, Station, Data, Tabi}
use Rattle.frame_text.specs.Names.{name_of}
use Rattle.frame_text.specs.Words.{most_data, most_head_words, data_words, item_words, items_of, items_words, head_words, width_of, widths}

-- a text of no octets is written anywhere
pub nothing_written : (m : List ℕ) (at : ℕ) → Written m at [] at m
unfolding offset_after
nothing_written m at = (rw add-zero (either (leb at (length m))), sym (spliced_nothing m at))
  where
    either : (t : Bool) → at ≡ cond t at at
    either true = refl
    either false = refl

pub some_octets : (d : List ℕ) → (length d ≡ 0 → ⊥) → data_words d ≡ (32 ∷ 68 ∷ 65 ∷ 84 ∷ 65 ∷ 32 ∷ []) ++ hex_text d
unfolding data_words
some_octets [] n = absurd (n refl)
some_octets (o ∷ d) n = refl

data_most : (d : List ℕ) → length d ≤ most_data → length (data_words d) ≤ 240
unfolding data_words
data_most [] h = lit≤ tt
data_most (o ∷ d) h = omega (arith, length_hex (o ∷ d))

pub item_most : (i : Item) (f : Fields) (d : List ℕ) → Shaped f → length d ≤ most_data → length (item_words i f d) ≤ width_of i
unfolding item_words
item_most Na1 f d s h = omega (arith, length_hex f.za1, s.za1_long)
item_most Na1k f d s h = omega (arith, length_hex f.za1, s.za1_long)
item_most Na2 f d s h = omega (arith, length_hex f.za2, s.za2_long)
item_most Na2k f d s h = omega (arith, length_hex f.za2, s.za2_long)
item_most Tab f d s h = omega (arith, length_hex (f.tab ∷ []))
item_most Station f d s h = omega (arith, length_hex f.announced, s.announced_long)
item_most Data f d s h = data_most d h
item_most Tabi f d s h = omega (arith, length_hex d)

pub name_most : (c : Command) → length (name_of c) ≤ 3
unfolding name_of
name_most Enq = lit≤ tt
name_most Dat = lit≤ tt
name_most Rec = lit≤ tt
name_most Ech = lit≤ tt
name_most Aut = lit≤ tt
name_most Eos = lit≤ tt
name_most Aso = lit≤ tt
name_most Rso = lit≤ tt
name_most Ib = lit≤ tt
name_most Drj = lit≤ tt
name_most Arj = lit≤ tt
name_most Trf = lit≤ tt
name_most Trb = lit≤ tt
name_most Tra = lit≤ tt
name_most Pre = lit≤ tt
name_most Sel = lit≤ tt

pub items_most : (c : Command) → widths (items_of c) ≤ 290
unfolding items_of widths
items_most Enq = lit≤ tt
items_most Dat = lit≤ tt
items_most Rec = lit≤ tt
items_most Ech = lit≤ tt
items_most Aut = lit≤ tt
items_most Eos = lit≤ tt
items_most Aso = lit≤ tt
items_most Rso = lit≤ tt
items_most Ib = lit≤ tt
items_most Drj = lit≤ tt
items_most Arj = lit≤ tt
items_most Trf = lit≤ tt
items_most Trb = lit≤ tt
items_most Tra = lit≤ tt
items_most Pre = lit≤ tt
items_most Sel = lit≤ tt

pub head_most : (c : Command) (f : Fields) → Shaped f → length (head_words c f) ≤ most_head_words
unfolding head_words
head_most c f s =
    rw (length-append, length-append)
    (omega (arith, name_most c, length_hex f.ads, s.ads_long, length_hex (f.adp ∷ [])))

module _ (f : Fields) (d : List ℕ) where
  -- the words of one field more
  pub words_next : (l : List Item) (k : ℕ) (i : Item) → k < length l → items_words (take (suc k) l) f d ≡ items_words (take k l) f d ++ item_words (get_or l k i) f d
  unfolding items_words
  words_next [] k i h = absurd (let z : ⊥ = omega arith in z)
  words_next (j ∷ l) zero i h = append-nil (item_words j f d)
  words_next (j ∷ l) (suc k) i h = ap (λ (w : List ℕ). item_words j f d ++ w) (words_next l k i (omega arith)) ∙ sym (append_assoc (item_words j f d) (items_words (take k l) f d) (item_words (get_or l k i) f d))

  pub words_most : (l : List Item) (k : ℕ) → Shaped f → length d ≤ most_data → length (items_words (take k l) f d) ≤ widths l
  unfolding items_words widths
  words_most l zero s h = omega arith
  words_most [] (suc k) s h = lit≤ tt
  words_most (i ∷ l) (suc k) s h = rw length-append (omega (arith, item_most i f d s h, words_most l k s h))

pub items_long : (l : List Item) (f : Fields) (d : List ℕ) → Shaped f → length d ≤ most_data → length (items_words l f d) ≤ widths l
unfolding items_words widths
items_long [] f d s h = lit≤ tt
items_long (i ∷ l) f d s h = rw length-append (omega (arith, item_most i f d s h, items_long l f d s h))

-- DATA of a frame of 128 octets
pub data_of_most : (c : Command) (s : List ℕ) → length s ≤ longest_frame → length (data_of c s) ≤ most_data
unfolding data_of
data_of_most c s h = go (dec_le (places_of (layout_of c)).content.0 (length s - crc_width))
  where
    go : Dec ((places_of (layout_of c)).content.0 ≤ length s - crc_width) → length (part_of s (places_of (layout_of c)).content.0 (length s - crc_width)) ≤ most_data
    go (yes k) = rw (length_part s (places_of (layout_of c)).content.0 (length s - crc_width) k (omega arith)) (omega arith)
    go (no k) = rw (part_none s (places_of (layout_of c)).content.0 (length s - crc_width) (omega arith)) (lit≤ tt)
