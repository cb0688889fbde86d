-- The first octet tells the row: the first ranges of the table's rows ascend, so no two have an octet in common.
use mathlib.Core.Path.{◌≡◌, refl, ap, ◌∙◌}
use mathlib.Core.Bool.{Bool, true, false, cond, ◌&&◌, false≢true}
use mathlib.Core.List.{List, [], ◌∷◌}
use Prim.Native.Nat.{ℕ, suc, ◌≤◌, ◌<◌}
use native.Mathlib.Omega.{arith}
use borrow.Author.Tests.{leb-true, lt-leb}
use lib.Dec.{leb}
use lib.ListN.{length}
use Rattle.label.specs.Utf8.{Range, in_range, table, begins, row_at, sequence_length}
use Rattle.label.specs.Lead.{row_among, row_of}
use Rattle.label.proofs.Table.{and_true}

-- each first range starts at this octet or later, and past the one before it
ascends : ℕ → List (List Range) → Bool
ascends from [] = true
ascends from ([] ∷ rows) = false
ascends from ((range ∷ row) ∷ rows) = (leb from range.least && leb range.least range.greatest) && ascends (suc range.greatest) rows

record Ascends (from : ℕ) (range : Range) (rows : List (List Range)) : Type 0 where
  first : from ≤ range.least
  proper : range.least ≤ range.greatest
  rest : ascends (suc range.greatest) rows ≡ true

ascending : (from : ℕ) (range : Range) (row : List Range) (rows : List (List Range)) → ascends from ((range ∷ row) ∷ rows) ≡ true → Ascends from range rows
unfolding ascends
ascending from range row rows e =
    let both = and_true (leb from range.least && leb range.least range.greatest) (ascends (suc range.greatest) rows) e in
    let ends = and_true (leb from range.least) (leb range.least range.greatest) both.0 in
    record { first = leb-true _ _ ends.0; proper = leb-true _ _ ends.1; rest = both.1 }

-- no row begins with an octet below all first ranges
none_below : (from : ℕ) (rows : List (List Range)) (lead : ℕ) (text : List ℕ) → ascends from rows ≡ true → lead < from → row_at rows (lead ∷ text) ≡ []
unfolding begins row_at ascends
none_below from [] lead text e h = refl
none_below from ([] ∷ rows) lead text e h = absurd (false≢true e)
none_below from ((range ∷ row) ∷ rows) lead text e h =
    let a : Ascends from range rows = ascending from range row rows e in
    rw (lt-leb range.least lead (omega arith)) (none_below (suc range.greatest) rows lead text a.rest (omega arith))

-- the row that a text begins with is the one that its first octet tells
row_of_lead_among : (from : ℕ) (rows : List (List Range)) (lead : ℕ) (text : List ℕ) → ascends from rows ≡ true
    → row_at rows (lead ∷ text) ≡ cond (begins (row_among rows lead) (lead ∷ text)) (row_among rows lead) []
unfolding begins row_at row_among ascends
row_of_lead_among from [] lead text e = refl
row_of_lead_among from ([] ∷ rows) lead text e = refl
row_of_lead_among from ((range ∷ row) ∷ rows) lead text e = told (in_range range lead) refl (row_of_lead_among (suc range.greatest) rows lead text a.rest)
  where
    a : Ascends from range rows
    a = ascending from range row rows e

    told : (held : Bool) → in_range range lead ≡ held → row_at rows (lead ∷ text) ≡ cond (begins (row_among rows lead) (lead ∷ text)) (row_among rows lead) []
        → cond (held && begins row text) (range ∷ row) (row_at rows (lead ∷ text)) ≡ cond (begins (cond (held && true) (range ∷ row) (row_among rows lead)) (lead ∷ text)) (cond (held && true) (range ∷ row) (row_among rows lead)) []
    told true held others =
        let high : lead ≤ range.greatest = leb-true _ _ (and_true (leb range.least lead) (leb lead range.greatest) held).1 in
        rw (held, none_below (suc range.greatest) rows lead text a.rest (omega arith))
    told false held others = others

pub sequence_of_lead : (lead : ℕ) (text : List ℕ) → sequence_length (lead ∷ text) ≡ cond (begins (row_of lead) (lead ∷ text)) (length (row_of lead)) 0
unfolding table ascends sequence_length row_of
sequence_of_lead lead text = ap length (row_of_lead_among 0 table lead text refl) ∙ length-cond (begins (row_of lead) (lead ∷ text)) (row_of lead)
  where
    length-cond : (b : Bool) (row : List Range) → length (cond b row []) ≡ cond b (length row) 0
    length-cond true row = refl
    length-cond false row = refl

pub sequence_of_none : sequence_length [] ≡ 0
unfolding table begins row_at sequence_length
sequence_of_none = refl
