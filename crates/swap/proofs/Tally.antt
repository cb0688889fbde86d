-- The loop that judges a file's records: what it has counted and what is left to read make up the verdict.
use Prim.Native.Nat.{ℕ, zero, suc, ◌+◌, ◌-◌, ◌≤◌, ◌<◌}
use mathlib.Core.Path.{◌≡◌, refl, sym, ap, ◌∙◌}
use mathlib.Core.List.{List}
use native.Mathlib.Nat.{zero-add}
use native.Mathlib.Numerals.{add-one}
use native.Mathlib.Omega.{arith}
use lib.ListN.{length, get_or, take, drop, length-drop, drop_of_length-le}
use lib.Seq.{drop-drop, drop-cons}
use Rattle.numbers.specs.Counts.{in_octets}
use Rattle.numbers.specs.Answer.{Answer, given, refused_at}
use Rattle.numbers.specs.Table.{faulty_file}
use Rattle.swap.specs.declared.item.Entry.{Entry}
use Rattle.std.specs.Prelude.{Ok, Err}
use Rattle.swap.specs.declared.file.Fault.{Fault}
use Rattle.swap.specs.declared.file.RecordCount.{RecordCount}
use Rattle.swap.specs.Record.{Record, rank_of, kind_of}
use Rattle.swap.specs.Items.{Judged, bad, good, judged, front_record}
use Rattle.swap.specs.Reading.{FileListing, faulty, listed, preceded, read_records, in_record_count, answer_of_listing}
use Rattle.swap.specs.Cursor.{placed_item, item_at}
use Rattle.swap.proofs.Shown.{shown}

-- what the record at the front says of the reading of all
pub records_bad : (left least at : ℕ) (t : List ℕ) (p : ℕ) → judged least t ≡ bad p → read_records (suc left) least at t ≡ faulty (at + p)
unfolding read_records
records_bad left least at t p e = rw (e, read_records)

pub records_good : (left least at : ℕ) (t : List ℕ) (w n : ℕ) → judged least t ≡ good w n → read_records (suc left) least at t ≡ preceded (front_record w n t) (read_records left (suc (rank_of (take 7 t))) (at + (8 + w + n)) (drop (8 + w + n) t))
unfolding read_records
records_good left least at t w n e = rw (e, read_records)

-- the verdict where k records stand before what was read
unfoldable pub tallied : ℕ → FileListing → Answer RecordCount
tallied k (faulty o) = refused_at faulty_file (in_octets o)
tallied k (listed rs) = given (in_record_count (k + length rs))

pub tallied_none : (out : FileListing) → tallied 0 out ≡ answer_of_listing out
unfolding tallied
tallied_none (faulty o) = refl
tallied_none (listed rs) = rw zero-add

pub tallied_more : (k : ℕ) (r : Record) (out : FileListing) → tallied k (preceded r out) ≡ tallied (k + 1) out
unfolding tallied preceded
tallied_more k r (faulty o) = refl
tallied_more k r (listed rs) = let e : k + suc (length rs) ≡ k + 1 + length rs = omega arith in rw e

-- what an item placed in the file says of the octets there
pub item_bad : (least : ℕ) (s : List ℕ) (at : ℕ) (o : Fault) → item_at least s at ≡ Err o → (p : ℕ) × (judged least (drop at s) ≡ bad p) × (o ≡ record { 0 = in_octets (at + p) })
unfolding item_at placed_item
item_bad least s at o e = go (judged least (drop at s)) refl e
  where
    go : (j : Judged) → judged least (drop at s) ≡ j → placed_item at (kind_of (get_or (drop at s) 7 0)) (drop at s) j ≡ Err o → (p : ℕ) × (judged least (drop at s) ≡ bad p) × (o ≡ record { 0 = in_octets (at + p) })
    go (bad p) q r = let z : record { 0 = in_octets (at + p) } ≡ o = cc in (p, q, sym z)
    go (good w n) q r = let z : ◌≡◌ {A = ℕ} 0 1 = cc in let y : ⊥ = omega arith in absurd y

pub item_good : (least : ℕ) (s : List ℕ) (at : ℕ) (e : Entry) → item_at least s at ≡ Ok e → (w : ℕ) × (judged least (drop at s) ≡ good w e.length.0) × (e.from.0 ≡ at + 8 + w)
unfolding item_at placed_item
item_good least s at e q = go (judged least (drop at s)) refl q
  where
    go : (j : Judged) → judged least (drop at s) ≡ j → placed_item at (kind_of (get_or (drop at s) 7 0)) (drop at s) j ≡ Ok e → (w : ℕ) × (judged least (drop at s) ≡ good w e.length.0) × (e.from.0 ≡ at + 8 + w)
    go (bad p) q r = let z : ◌≡◌ {A = ℕ} 0 1 = cc in let y : ⊥ = omega arith in absurd y
    go (good w n) q r =
        let z : record { at = in_octets at; tab = get_or (drop at s) 6 0; kind = kind_of (get_or (drop at s) 7 0); from = in_octets (at + 8 + w); length = in_octets n } ≡ e = cc in
        let m : n ≡ e.length.0 = ap (λ (x : Entry). x.length.0) z in
        let f : at + 8 + w ≡ e.from.0 = ap (λ (x : Entry). x.from.0) z in
        (w, q ∙ rw m, sym f)

-- where the loop stands: the verdict that it is to give is v
pub record Tallied (s : List ℕ) (count : ℕ) (v : Answer RecordCount) (at left least : ℕ) : Type 0 where
  pub counted : left ≤ count
  pub within : at ≤ length s
  pub due : v ≡ tallied (count - left) (read_records left least at (drop at s))

pub tally_start : (s : List ℕ) (count start : ℕ) → start ≤ length s → Tallied s count (answer_of_listing (read_records count 0 start (drop start s))) start count 0
tally_start s count start h =
    let z : count - count ≡ 0 = omega arith in
    record { counted = omega arith; within = h; due = rw z (sym (tallied_none (read_records count 0 start (drop start s)))) }

-- a bad item ends it
pub tally_bad : (s : List ℕ) (count : ℕ) (v : Answer RecordCount) (at left least : ℕ) (o : Fault) → Tallied s count v at left least → 0 < left → item_at least s at ≡ Err o → refused_at faulty_file o.0 ≡ v
unfolding tallied
tally_bad s count v at zero least o t h e = let z : ⊥ = omega arith in absurd z
tally_bad s count v at (suc left) least o t h e =
    let b = item_bad least s at o e in
    let p : in_octets (at + b.0) ≡ o.0 = ap (λ (f : Fault). f.0) (sym b.2) in
    sym (t.due ∙ rw (records_bad left least at (drop at s) b.0 b.1, p))

-- a good one leads to the next record
pub tally_good : (s : List ℕ) (count : ℕ) (v : Answer RecordCount) (at left least : ℕ) (e : Entry) → Tallied s count v at left least → 0 < left → item_at least s at ≡ Ok e → Tallied s count v (e.from.0 + e.length.0) (left - 1) (rank_of (take 7 (drop at s)) + 1)
tally_good s count v at zero least e t h q = let z : ⊥ = omega arith in absurd z
tally_good s count v at (suc left) least e t h q =
    let g = item_good least s at e q in
    let w = g.0 in
    let n = e.length.0 in
    let f : 8 + w + n ≤ length (drop at s) = (shown least (drop at s) w n g.1).fits in
    let l : suc left - 1 ≡ left = omega arith in
    let k : count - suc left + 1 ≡ count - left = omega (arith, t.counted) in
    let p : at + (8 + w + n) ≡ e.from.0 + n = omega (arith, g.2) in
    record {
      counted = omega (arith, t.counted);
      within = omega (arith, g.2, f, length-drop at s, t.within);
      due =
          rw (l, add-one)
          (t.due
          ∙ ap (tallied (count - suc left)) (records_good left least at (drop at s) w n g.1)
          ∙ tallied_more (count - suc left) _ _
          ∙ rw (k, drop-drop, p));
    }

-- nothing may follow the last record
pub tally_rest : (s : List ℕ) (count : ℕ) (v : Answer RecordCount) (at least : ℕ) → Tallied s count v at 0 least → at < length s → refused_at faulty_file (in_octets at) ≡ v
unfolding tallied read_records
tally_rest s count v at least t h = sym (t.due ∙ rw (drop-cons s at 0 h))

pub tally_end : (s : List ℕ) (count : ℕ) (v : Answer RecordCount) (at least : ℕ) → Tallied s count v at 0 least → length s ≤ at → given (in_record_count count) ≡ v
unfolding tallied read_records
tally_end s count v at least t h =
    let c : count - 0 + 0 ≡ count = omega arith in
    sym (t.due ∙ rw (drop_of_length-le s {i = at} h, c))
