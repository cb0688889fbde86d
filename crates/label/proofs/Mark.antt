-- The combining marks are sequences of two octets, CC 80 to CC BF and CD 80 to CD AF, told by their code points.
use mathlib.Core.Path.{◌≡◌, refl, sym, ap, ◌∙◌}
use mathlib.Core.Bool.{Bool, true, false, not, ◌&&◌, false≢true}
use mathlib.Core.List.{List, [], ◌∷◌}
use Prim.Native.Nat.{ℕ, zero, suc, ◌+◌, ◌-◌, ◌*◌, ◌≤◌, ◌<◌}
use native.Mathlib.Numerals.{add-one}
use native.Mathlib.Omega.{arith}
use borrow.Author.Tests.{leb-true, leb-false, le-leb, lt-leb}
use lib.Dec.{leb}
use lib.ListN.{length, get_or, take, drop, length-drop}
use lib.Seq.{drop-cons}
use Rattle.label.specs.Utf8.{Range, ◌to◌, in_range, table, begins, row_at, sequence_length}
use Rattle.label.specs.CodePoint.{code_point}
use Rattle.label.specs.Character.{combining_marks, is_combining_mark, combining_mark_at, starts_character}
use Rattle.label.proofs.Table.{and_true}
use Rattle.label.proofs.Sequence.{sequence_fits}
use Rattle.label.proofs.CodePoint.{in_range_lem, range_in, code_points_of, every_row, row_passes, code_point_range}

-- ---- a combining mark has two octets

-- a code point of U+0300 to U+036F is written with two octets
two_octets : (m code : ℕ) → in_range (code_points_of (suc m)) code ≡ true → in_range combining_marks code ≡ true → m ≡ 1
two_octets m code e mark = by_length m (in_range_lem combining_marks code mark) e
  where
    by_length : (m : ℕ) → (0x0300 ≤ code) × (code ≤ 0x036F) → in_range (code_points_of (suc m)) code ≡ true → m ≡ 1
    by_length zero h e = let r = in_range_lem (0x0000 to 0x007F) code e in absurd (omega arith)
    by_length (suc zero) h e = refl
    by_length (suc (suc zero)) h e = let r = in_range_lem (0x0800 to 0xFFFF) code e in absurd (omega arith)
    by_length (suc (suc (suc zero))) h e = let r = in_range_lem (0x10000 to 0x10FFFF) code e in absurd (omega arith)
    by_length (suc (suc (suc (suc m)))) h e = let r = in_range_lem (0 to 0) code e in absurd (omega arith)

pub mark_length : (text : List ℕ) → combining_mark_at text ≡ true → sequence_length text ≡ 2
unfolding combining_mark_at is_combining_mark code_point
mark_length text mark = by_length (sequence_length text) refl mark
  where
    by_length : (n : ℕ) → sequence_length text ≡ n → in_range combining_marks (code_point (take n text)) ≡ true → sequence_length text ≡ 2
    by_length zero e mark = absurd (false≢true mark)
    by_length (suc m) e mark = e ∙ rw (two_octets m (code_point (take (suc m) text)) (code_point_range text m e) mark)

-- ---- a sequence of two octets

record Pair (lead octet : ℕ) : Type 0 where
  high : 0xC0 ≤ lead
  from : 0x80 ≤ octet
  to_last : octet ≤ 0xBF

-- a row of two has a first octet from C0 on and a tail octet
pairs : List Range → Bool
pairs [] = true
pairs (r ∷ []) = true
pairs (r ∷ s ∷ []) = leb 0xC0 r.least && (leb 0x80 s.least && leb s.greatest 0xBF)
pairs (r ∷ s ∷ t ∷ row) = true

pair_of_row : (row : List Range) (lead octet : ℕ) (rest : List ℕ) → length row ≡ 2 → pairs row ≡ true → begins row (lead ∷ octet ∷ rest) ≡ true → Pair lead octet
unfolding pairs begins
pair_of_row [] lead octet rest l p b = absurd (omega arith)
pair_of_row (r ∷ []) lead octet rest l p b = absurd (omega arith)
pair_of_row (r ∷ s ∷ []) lead octet rest l p b =
    let limits = and_true (leb 0xC0 r.least) _ p in
    let tails = and_true (leb 0x80 s.least) _ limits.1 in
    let first = and_true (in_range r lead) _ b in
    let low : 0xC0 ≤ r.least = leb-true _ _ limits.0 in
    let least : 0x80 ≤ s.least = leb-true _ _ tails.0 in
    let greatest : s.greatest ≤ 0xBF = leb-true _ _ tails.1 in
    let x = in_range_lem r lead first.0 in
    let y = in_range_lem s octet (and_true (in_range s octet) _ first.1).0 in
    record { high = omega arith; from = omega arith; to_last = omega arith }
pair_of_row (r ∷ s ∷ t ∷ row) lead octet rest l p b = absurd (omega arith)

pair_of : (lead octet : ℕ) (rest : List ℕ) → sequence_length (lead ∷ octet ∷ rest) ≡ 2 → Pair lead octet
unfolding sequence_length table every_row pairs
pair_of lead octet rest e =
    let passed = row_passes pairs table (lead ∷ octet ∷ rest) 1 refl e in
    pair_of_row (row_at table (lead ∷ octet ∷ rest)) lead octet rest e passed.0 passed.1

Pair-length : (lead octet : ℕ) (rest : List ℕ) → 0xC2 ≤ lead → lead ≤ 0xDF → 0x80 ≤ octet → octet ≤ 0xBF → sequence_length (lead ∷ octet ∷ rest) ≡ 2
unfolding sequence_length table row_at begins
Pair-length lead octet rest low high from last = rw (le-leb 0 lead (omega arith), lt-leb lead 0x7F (omega arith), le-leb 0xC2 lead low, le-leb lead 0xDF high, le-leb 0x80 octet from, le-leb octet 0xBF last)

-- ---- a combining mark of two octets by its code point

-- two octets stand for this code point
Pair-code : (lead octet : ℕ) (rest : List ℕ) → sequence_length (lead ∷ octet ∷ rest) ≡ 2 → combining_mark_at (lead ∷ octet ∷ rest) ≡ in_range combining_marks ((lead - 0xC0) * 64 + (octet - 0x80))
unfolding combining_mark_at is_combining_mark code_point
Pair-code lead octet rest e = rw e

-- written by RFC 3629 section 3, a code point of two octets is a combining mark exactly if it is one of U+0300 to U+036F
pub mark_written : (high low : ℕ) (rest : List ℕ) → 2 ≤ high → high < 32 → low < 64 → combining_mark_at ((0xC0 + high) ∷ (0x80 + low) ∷ rest) ≡ in_range combining_marks (high * 64 + low)
mark_written high low rest least greatest six =
    let first : 0xC0 + high - 0xC0 ≡ high = omega arith in
    let second : 0x80 + low - 0x80 ≡ low = omega arith in
    Pair-code (0xC0 + high) (0x80 + low) rest (Pair-length (0xC0 + high) (0x80 + low) rest (omega arith) (omega arith) (omega arith) (omega arith)) ∙ rw (first, second)

-- ---- at an offset, as the code reads it

-- a sequence that has not two octets is none
pub mark_not : (text : List ℕ) → (sequence_length text ≡ 2 → ⊥) → combining_mark_at text ≡ false
mark_not text other = told (combining_mark_at text) refl
  where
    told : (b : Bool) → combining_mark_at text ≡ b → b ≡ false
    told true e = absurd (other (mark_length text e))
    told false e = refl

module _ (text : List ℕ) (at : ℕ) (two : sequence_length (drop at text) ≡ 2) where
  abbrev lead : ℕ
  lead = get_or text at 0

  abbrev octet : ℕ
  octet = get_or text (at + 1) 0

  pub two_in_text : at + 1 < length text
  two_in_text = omega (arith, sequence_fits (drop at text), length-drop at text)

  here : drop at text ≡ lead ∷ octet ∷ drop (suc (at + 1)) text
  here = drop-cons text at 0 (omega (arith, two_in_text)) ∙ rw (← add-one at) (ap (λ (l : List ℕ). lead ∷ l) (drop-cons text (at + 1) 0 two_in_text))

  pair : Pair lead octet
  pair = pair_of lead octet (drop (suc (at + 1)) text) (sym (ap sequence_length here) ∙ two)

  -- its code point tells
  abbrev code : ℕ
  code = (lead - 0xC0) * 64 + (octet - 0x80)

  by_code : combining_mark_at (drop at text) ≡ in_range combining_marks code
  by_code = ap combining_mark_at here ∙ Pair-code lead octet (drop (suc (at + 1)) text) (sym (ap sequence_length here) ∙ two)

  -- with the first octet CC it is one
  pub mark_first : lead ≡ 0xCC → combining_mark_at (drop at text) ≡ true
  mark_first e = by_code ∙ range_in combining_marks code (omega arith) (omega (arith, pair.from, pair.to_last))

  -- with CD the second octet tells
  pub mark_second : lead ≡ 0xCD → combining_mark_at (drop at text) ≡ leb octet 0xAF
  mark_second e = by_code ∙ told (leb octet 0xAF) refl
    where
      told : (b : Bool) → leb octet 0xAF ≡ b → in_range combining_marks code ≡ leb octet 0xAF
      told true p = range_in combining_marks code (omega arith) (omega (arith, leb-true octet 0xAF p, pair.from)) ∙ sym p
      told false p = rw (lt-leb code 0x036F (omega (arith, leb-false octet 0xAF p)), le-leb 0x0300 code (omega arith)) (sym p)

  -- and with any other it is none
  pub mark_other : (lead ≡ 0xCC → ⊥) → (lead ≡ 0xCD → ⊥) → combining_mark_at (drop at text) ≡ false
  mark_other no_first no_second = by_code ∙ told (leb 0xCC lead) refl
    where
      told : (b : Bool) → leb 0xCC lead ≡ b → in_range combining_marks code ≡ false
      told true p = let low : 0xCC ≤ lead = leb-true 0xCC lead p in rw (lt-leb code 0x036F (omega arith), le-leb 0x0300 code (omega arith))
      told false p = rw (lt-leb 0x0300 code (omega (arith, leb-false 0xCC lead p, pair.to_last)))

-- ---- where characters start

pub starts_first : (text : List ℕ) (at : ℕ) → at ≡ 0 → starts_character text at ≡ true
unfolding starts_character
starts_first text zero e = refl
starts_first text (suc at) e = absurd (omega arith)

pub starts_unmarked : (text : List ℕ) (at : ℕ) → combining_mark_at (drop at text) ≡ false → starts_character text at ≡ true
unfolding starts_character
starts_unmarked text zero e = refl
starts_unmarked text (suc at) e = rw e

pub starts_later : (text : List ℕ) (at : ℕ) → (at ≡ 0 → ⊥) → starts_character text at ≡ not (combining_mark_at (drop at text))
unfolding starts_character
starts_later text zero other = absurd (other refl)
starts_later text (suc at) other = refl
