-- The sequence at a text's start: its row of the table is told by its first octet, and no octet after it matters.
use mathlib.Core.Path.{◌≡◌, refl, ◌∙◌}
use mathlib.Core.Bool.{Bool, true, false, cond, ◌&&◌, false≢true}
use mathlib.Core.List.{List, [], ◌∷◌}
use Prim.Native.Nat.{ℕ, zero, suc, ◌+◌, ◌-◌, ◌≤◌, ◌<◌}
use native.Mathlib.Numerals.{add-one}
use native.Mathlib.Omega.{arith}
use borrow.Author.Tests.{le-leb, lt-leb}
use lib.ListN.{length, get_or, take, drop, length-drop, drop_of_length-le}
use lib.Seq.{drop-cons}
use Rattle.label.specs.Utf8.{Range, tail, in_range, begins, sequence_length}
use Rattle.label.specs.Lead.{row_among, row_of}
use Rattle.label.proofs.Table.{and_true}
use Rattle.label.proofs.Lead.{sequence_of_lead, sequence_of_none}

-- the first octet is in its row's first range
lead_begins_among : (rows : List (List Range)) (lead : ℕ) (text : List ℕ) → begins (row_among rows lead) (lead ∷ text) ≡ begins (drop 1 (row_among rows lead)) text
unfolding begins row_among
lead_begins_among [] lead text = refl
lead_begins_among ([] ∷ rows) lead text = refl
lead_begins_among ((range ∷ row) ∷ rows) lead text = found (in_range range lead) refl (lead_begins_among rows lead text)
  where
    found : (held : Bool) → in_range range lead ≡ held → begins (row_among rows lead) (lead ∷ text) ≡ begins (drop 1 (row_among rows lead)) text
        → begins (cond (held && true) (range ∷ row) (row_among rows lead)) (lead ∷ text) ≡ begins (drop 1 (cond (held && true) (range ∷ row) (row_among rows lead))) text
    found true e others = rw e
    found false e others = others

lead_begins : (lead : ℕ) (text : List ℕ) → begins (row_of lead) (lead ∷ text) ≡ begins (drop 1 (row_of lead)) text
unfolding row_of
lead_begins lead text = lead_begins_among _ lead text

-- a text that begins with a row is as long as the row
begins_fits : (row : List Range) (text : List ℕ) → begins row text ≡ true → length row ≤ length text
unfolding begins
begins_fits [] text e = omega arith
begins_fits (range ∷ row) [] e = absurd (false≢true e)
begins_fits (range ∷ row) (octet ∷ text) e =
    let rest : length row ≤ length text = begins_fits row text (and_true (in_range range octet) _ e).1 in
    omega arith

begins_short : (row : List Range) (text : List ℕ) → length text < length row → begins row text ≡ false
begins_short row text h = told (begins row text) refl
  where
    told : (b : Bool) → begins row text ≡ b → b ≡ false
    told true e = let fits : length row ≤ length text = begins_fits row text e in absurd (omega arith)
    told false e = refl

-- what a text begins with shows in a front part that is long enough
begins-take : (row : List Range) (n : ℕ) (text : List ℕ) → length row ≤ n → begins row (take n text) ≡ begins row text
unfolding begins
begins-take [] n text h = refl
begins-take (range ∷ row) zero text h = absurd (omega arith)
begins-take (range ∷ row) (suc n) [] h = refl
begins-take (range ∷ row) (suc n) (octet ∷ text) h = rw (begins-take row n text (omega arith))

-- and what a front part begins with, the text does
begins_front : (row : List Range) (n : ℕ) (text : List ℕ) → begins row (take n text) ≡ true → begins row text ≡ true
unfolding begins
begins_front [] n text e = refl
begins_front (range ∷ row) zero text e = absurd (false≢true e)
begins_front (range ∷ row) (suc n) [] e = e
begins_front (range ∷ row) (suc n) (octet ∷ text) e =
    let both : (in_range range octet ≡ true) × (begins row (take n text) ≡ true) = and_true (in_range range octet) _ e in
    rw (both.0, begins_front row n text both.1)

-- read octet by octet, as the code reads it: the first octet gives the row, and each further octet is judged by its range
pub sequence_from_lead : (text : List ℕ) (at : ℕ) → at < length text
    → sequence_length (drop at text) ≡ cond (begins (drop 1 (row_of (get_or text at 0))) (drop (at + 1) text)) (length (row_of (get_or text at 0))) 0
sequence_from_lead text at h = rw (drop-cons text at 0 h, sequence_of_lead, lead_begins, add-one)

pub sequence_cut : (text : List ℕ) (at : ℕ) → at < length text → length text - at < length (row_of (get_or text at 0)) → sequence_length (drop at text) ≡ 0
sequence_cut text at h cut =
    let short : begins (row_of (get_or text at 0)) (drop at text) ≡ false = begins_short _ (drop at text) (simp length-drop (omega arith)) in
    rw (drop-cons text at 0 h, sequence_of_lead) (rw (rw (drop-cons text at 0 h) at short))

-- and no row, no sequence
pub none_led : (text : List ℕ) (at : ℕ) → at < length text → length (row_of (get_or text at 0)) ≡ 0 → sequence_length (drop at text) ≡ 0
none_led text at h e = sequence_from_lead text at h ∙ rw e (either _)
  where
    either : (b : Bool) → ◌≡◌ {A = ℕ} (cond b 0 0) 0
    either true = refl
    either false = refl

module _ (row : List Range) (text : List ℕ) (i j : ℕ) (in_row : i < length row) (in_text : j < length text) where
  begins_next : begins (drop i row) (drop j text) ≡ in_range (get_or row i tail) (get_or text j 0) && begins (drop (i + 1) row) (drop (j + 1) text)
  unfolding begins
  begins_next = rw (drop-cons row i tail in_row, drop-cons text j 0 in_text, add-one i, add-one j)

  pub octet_within : (get_or row i tail).least ≤ get_or text j 0 → get_or text j 0 ≤ (get_or row i tail).greatest → begins (drop i row) (drop j text) ≡ begins (drop (i + 1) row) (drop (j + 1) text)
  octet_within low high = rw (begins_next, le-leb _ _ low, le-leb _ _ high)

  pub octet_under : get_or text j 0 < (get_or row i tail).least → begins (drop i row) (drop j text) ≡ false
  octet_under under = rw (begins_next, lt-leb _ _ under)

  pub octet_over : (get_or row i tail).least ≤ get_or text j 0 → (get_or row i tail).greatest < get_or text j 0 → begins (drop i row) (drop j text) ≡ false
  octet_over low over = rw (begins_next, le-leb _ _ low, lt-leb _ _ over)

pub row_ended : (row : List Range) (text : List ℕ) (i : ℕ) → length row ≤ i → begins (drop i row) text ≡ true
unfolding begins
row_ended row text i h = rw (drop_of_length-le row h)

chosen : (b : Bool) (n m : ℕ) → cond b n 0 ≡ suc m → (b ≡ true) × (n ≡ suc m)
chosen true n m e = (refl, e)
chosen false n m e = absurd (omega arith)

-- a front part that starts with a sequence has it from the text
pub sequence_of_front : (n : ℕ) (text : List ℕ) (m : ℕ) → sequence_length (take n text) ≡ suc m → sequence_length text ≡ suc m
sequence_of_front zero text m e = absurd (omega (arith, sequence_of_none))
sequence_of_front (suc n) [] m e = e
sequence_of_front (suc n) (lead ∷ text) m e =
    let c : (begins (row_of lead) (lead ∷ take n text) ≡ true) × (length (row_of lead) ≡ suc m) = chosen _ _ m (rw sequence_of_lead at e) in
    rw (sequence_of_lead, begins_front (row_of lead) (suc n) (lead ∷ text) c.0) c.1

-- and a front part as long as the text's first sequence starts with it
pub sequence_in_front : (n : ℕ) (text : List ℕ) (m : ℕ) → sequence_length text ≡ suc m → m < n → sequence_length (take n text) ≡ suc m
sequence_in_front zero text m e h = absurd (omega arith)
sequence_in_front (suc n) [] m e h = e
sequence_in_front (suc n) (lead ∷ text) m e h =
    let c : (begins (row_of lead) (lead ∷ text) ≡ true) × (length (row_of lead) ≡ suc m) = chosen _ _ m (rw sequence_of_lead at e) in
    rw (sequence_of_lead, begins-take (row_of lead) (suc n) (lead ∷ text) (omega arith), c.0) c.1

-- the sequence at a text's start is within it
pub sequence_fits : (text : List ℕ) → sequence_length text ≤ length text
sequence_fits [] = omega (arith, sequence_of_none)
sequence_fits (lead ∷ text) = rw sequence_of_lead (within_it (begins (row_of lead) (lead ∷ text)) refl)
  where
    within_it : (b : Bool) → begins (row_of lead) (lead ∷ text) ≡ b → cond b (length (row_of lead)) 0 ≤ length (lead ∷ text)
    within_it true e = begins_fits (row_of lead) (lead ∷ text) e
    within_it false e = omega arith
