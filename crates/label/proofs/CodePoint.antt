-- The code point of a well-formed sequence is in RFC 3629 section 3's range for its length.
use mathlib.Core.Path.{◌≡◌, refl}
use mathlib.Core.Bool.{Bool, true, false, cond, ◌&&◌, false≢true}
use mathlib.Core.List.{List, [], ◌∷◌, map}
use Prim.Native.Nat.{ℕ, suc, ◌≤◌}
use native.Mathlib.Omega.{arith}
use borrow.Author.Tests.{leb-true, le-leb}
use lib.Dec.{leb}
use lib.ListN.{length, get_or, take}
use Rattle.label.specs.Utf8.{Range, ◌to◌, in_range, table, begins, row_at, sequence_length}
use Rattle.label.specs.CodePoint.{tailed, code_point}
use Rattle.label.proofs.Table.{and_true}

-- RFC 3629 section 3: the ranges of code points that are written with one, two, three and four octets
abbrev pub code_points : List Range
code_points = 0x0000 to 0x007F ∷ 0x0080 to 0x07FF ∷ 0x0800 to 0xFFFF ∷ 0x10000 to 0x10FFFF ∷ []

pub in_range_lem : (range : Range) (n : ℕ) → in_range range n ≡ true → (range.least ≤ n) × (n ≤ range.greatest)
in_range_lem range n e = let both = and_true (leb range.least n) _ e in (leb-true _ _ both.0, leb-true _ _ both.1)

pub range_in : (range : Range) (n : ℕ) → range.least ≤ n → n ≤ range.greatest → in_range range n ≡ true
range_in range n low high = rw (le-leb _ _ low, le-leb _ _ high)

-- ---- the row of the table that a text begins with

unfoldable pub every_row : (List Range → Bool) → List (List Range) → Bool
every_row test [] = true
every_row test (row ∷ rows) = test row && every_row test rows

-- it passes what every row passes
pub row_passes : (test : List Range → Bool) (rows : List (List Range)) (text : List ℕ) (m : ℕ) → every_row test rows ≡ true → length (row_at rows text) ≡ suc m
    → (test (row_at rows text) ≡ true) × (begins (row_at rows text) text ≡ true)
unfolding row_at every_row
row_passes test [] text m e l = absurd (omega arith)
row_passes test (row ∷ rows) text m e l = told (begins row text) refl l (row_passes test rows text m both.1)
  where
    both : (test row ≡ true) × (every_row test rows ≡ true)
    both = and_true (test row) (every_row test rows) e

    told : (b : Bool) → begins row text ≡ b → length (cond b row (row_at rows text)) ≡ suc m → (length (row_at rows text) ≡ suc m → (test (row_at rows text) ≡ true) × (begins (row_at rows text) text ≡ true))
        → (test (cond b row (row_at rows text)) ≡ true) × (begins (cond b row (row_at rows text)) text ≡ true)
    told true p l others = (both.0, p)
    told false p l others = others l

-- ---- code points rise with the octets

leasts : List Range → List ℕ
leasts row = map (λ r. r.least) row

greatests : List Range → List ℕ
greatests row = map (λ r. r.greatest) row

tailed_rises : (a b c d : ℕ) → a ≤ b → c ≤ d → tailed a c ≤ tailed b d
tailed_rises a b c d h k = omega arith

abbrev Between : List Range → List ℕ → Type 0
Between row text = (code_point (leasts row) ≤ code_point (take (length row) text)) × (code_point (take (length row) text) ≤ code_point (greatests row))

-- a sequence's code point lies between those of its row's least and greatest octets
between : (row : List Range) (text : List ℕ) → begins row text ≡ true → Between row text
unfolding begins leasts greatests code_point
between [] text e = (omega arith, omega arith)
between (r ∷ row) [] e = absurd (false≢true e)
between (r ∷ []) (a ∷ text) e = in_range_lem r a (and_true (in_range r a) _ e).0
between (r ∷ s ∷ row) (a ∷ []) e = absurd (false≢true (and_true (in_range r a) _ e).1)
between (r ∷ s ∷ []) (a ∷ b ∷ text) e =
    let first = and_true (in_range r a) _ e in
    let x = in_range_lem r a first.0 in
    let y = in_range_lem s b (and_true (in_range s b) _ first.1).0 in
    (tailed_rises _ _ _ _ (omega arith) y.0, tailed_rises _ _ _ _ (omega arith) y.1)
between (r ∷ s ∷ t ∷ row) (a ∷ b ∷ []) e = absurd (false≢true (and_true (in_range s b) _ (and_true (in_range r a) _ e).1).1)
between (r ∷ s ∷ t ∷ []) (a ∷ b ∷ c ∷ text) e =
    let first = and_true (in_range r a) _ e in
    let second = and_true (in_range s b) _ first.1 in
    let x = in_range_lem r a first.0 in
    let y = in_range_lem s b second.0 in
    let z = in_range_lem t c (and_true (in_range t c) _ second.1).0 in
    (tailed_rises _ _ _ _ (tailed_rises _ _ _ _ (omega arith) y.0) z.0, tailed_rises _ _ _ _ (tailed_rises _ _ _ _ (omega arith) y.1) z.1)
between (r ∷ s ∷ t ∷ u ∷ row) (a ∷ b ∷ c ∷ []) e = absurd (false≢true (and_true (in_range t c) _ (and_true (in_range s b) _ (and_true (in_range r a) _ e).1).1).1)
between (r ∷ s ∷ t ∷ u ∷ row) (a ∷ b ∷ c ∷ d ∷ text) e =
    let first = and_true (in_range r a) _ e in
    let second = and_true (in_range s b) _ first.1 in
    let third = and_true (in_range t c) _ second.1 in
    let x = in_range_lem r a first.0 in
    let y = in_range_lem s b second.0 in
    let z = in_range_lem t c third.0 in
    let w = in_range_lem u d (and_true (in_range u d) _ third.1).0 in
    (tailed_rises _ _ _ _ (tailed_rises _ _ _ _ (tailed_rises _ _ _ _ (omega arith) y.0) z.0) w.0, tailed_rises _ _ _ _ (tailed_rises _ _ _ _ (tailed_rises _ _ _ _ (omega arith) y.1) z.1) w.1)

-- ---- code points by length

-- the code points of so many octets: none but 0 where no sequence has so many
abbrev pub code_points_of : ℕ → Range
code_points_of n = get_or (0 to 0 ∷ code_points) n (0 to 0)

-- a row's sequences have the code points of its length
spans : List Range → Bool
spans row = leb (code_points_of (length row)).least (code_point (leasts row)) && leb (code_point (greatests row)) (code_points_of (length row)).greatest

-- RFC 3629 section 3: a sequence of so many octets stands for a code point in the range that is written with so many
pub code_point_range : (text : List ℕ) (m : ℕ) → sequence_length text ≡ suc m → in_range (code_points_of (suc m)) (code_point (take (suc m) text)) ≡ true
unfolding sequence_length table every_row spans leasts greatests code_point
code_point_range text m e =
    let row = row_at table text in
    let passed = row_passes spans table text m refl e in
    let ends = and_true (leb (code_points_of (length row)).least (code_point (leasts row))) _ passed.0 in
    let low : (code_points_of (length row)).least ≤ code_point (leasts row) = leb-true _ _ ends.0 in
    let high : code_point (greatests row) ≤ (code_points_of (length row)).greatest = leb-true _ _ ends.1 in
    let inside = between row text passed.1 in
    rw e at (range_in (code_points_of (length row)) (code_point (take (length row) text)) (omega arith) (omega arith))
