-- Each way out of the functions that read a file record by record, against the definition.
use Prim.Native.Nat.{ℕ, ◌+◌, ◌-◌, ◌≤◌, ◌<◌}
use mathlib.Core.Path.{◌≡◌, refl, sym, ap, ◌∙◌}
use mathlib.Core.Bool.{Bool, true, false}
use mathlib.Core.List.{List, []}
use native.Mathlib.Omega.{arith}
use lib.ListN.{length, take, drop, replicate, length-drop}
use lib.Seq.{length-take-le}
use lib.Dec.{leb}
use borrow.Author.Tests.{eq-eqb, ne_eqb, le-leb, lt-leb, leb-true, leb-false}
use Rattle.octets.specs.Part.{part_of}
use Rattle.octets.specs.Splice.{spliced}
use Rattle.octets.proofs.Parts.{part_there, part_past}
use Rattle.octets.proofs.Splice.{spliced_whole, spliced_nothing}
use Rattle.numbers.specs.declared.Octets.{Octets}
use Rattle.numbers.specs.Counts.{in_octets}
use Rattle.numbers.specs.Answer.{given, refused, refused_at}
use Rattle.numbers.specs.Table.{faulty_file}
use Rattle.number.specs.Groups.{encoded}
use Rattle.swap.specs.declared.item.Entry.{Entry}
use Rattle.std.specs.Prelude.{Ok, Err}
use Rattle.swap.specs.declared.file.Fault.{Fault}
use Rattle.swap.specs.declared.cursor.Cursor.{Cursor}
use Rattle.swap.specs.declared.file.RecordCount.{RecordCount}
use Rattle.swap.specs.Encoding.{records_octets}
use Rattle.swap.specs.Reading.{FileListing, faulty, listed, read_file, answer_of_listing, verdict_of, in_record_count}
use Rattle.swap.specs.Cursor.{item_at, cursor_after, start_of, started, record_here, file_end, next_at, followed, ads_of, content_of}
use Rattle.swap.proofs.Judging.{item_cut}
use Rattle.swap.proofs.Shown.{shown}
use Rattle.swap.proofs.Tally.{item_good}

module _ (s : List ℕ) where
  pub start_faulty : (o : Octets) → refused_at faulty_file o ≡ verdict_of s → refused_at faulty_file o ≡ start_of s
  unfolding start_of verdict_of
  start_faulty o e = go (read_file s) e
    where
      go : (out : FileListing) → refused_at faulty_file o ≡ answer_of_listing out → refused_at faulty_file o ≡ started out
      go (faulty p) q = let r : o ≡ in_octets p = cc in rw r
      go (listed rs) q = let z : ◌≡◌ {A = ℕ} 0 1 = cc in let y : ⊥ = omega arith in absurd y

  pub start_first : (c : RecordCount) (w : ℕ) → given c ≡ verdict_of s → w ≡ length (encoded c.0) → given (record { at = in_octets w; left = c }) ≡ start_of s
  unfolding start_of verdict_of cursor_after records_octets
  start_first c w e p = go (read_file s) e
    where
      go : (out : FileListing) → given c ≡ answer_of_listing out → given (record { at = in_octets w; left = c }) ≡ started out
      go (faulty o) q = let z : ◌≡◌ {A = ℕ} 0 1 = cc in let y : ⊥ = omega arith in absurd y
      go (listed rs) q =
          let r : c ≡ in_record_count (length rs) = cc in
          let a : length (encoded (length rs)) + 0 ≡ length (encoded (length rs)) = omega arith in
          let d : length rs - 0 ≡ length rs = omega arith in
          rw (p, r, a, d)

  pub next_end : (c : Cursor) → c.left.0 ≡ 0 → given file_end ≡ next_at s c
  unfolding next_at
  next_end c e = rw (eq-eqb c.left.0 0 e)

  module _ (c : Cursor) (more : c.left.0 ≡ 0 → ⊥) where
    pub next_none : (fault : Fault) → item_at 0 s c.at.0 ≡ Err fault → refused faulty_file ≡ next_at s c
    unfolding next_at followed
    next_none fault e = rw (ne_eqb c.left.0 0 more, e)

    pub next_past : length s < c.at.0 → refused faulty_file ≡ next_at s c
    next_past h = next_none (record { 0 = c.at }) (sym (item_cut 0 s c.at.0 (drop c.at.0 s) refl (omega (arith, length-drop c.at.0 s))))

    pub next_record : (e : Entry) → item_at 0 s c.at.0 ≡ Ok e → given (record_here e (record { at = in_octets (e.from.0 + e.length.0); left = in_record_count (c.left.0 - 1) })) ≡ next_at s c
    unfolding next_at followed
    next_record e q = rw (ne_eqb c.left.0 0 more, q)

  -- a record that was found ends within the file
  pub entry_within : (at : ℕ) (e : Entry) → at ≤ length s → item_at 0 s at ≡ Ok e → e.from.0 + e.length.0 ≤ length s
  entry_within at e h q =
      let g = item_good 0 s at e q in
      omega (arith, g.2, (shown 0 (drop at s) g.0 e.length.0 g.1).fits, length-drop at s)

  module _ (e : Entry) where
    pub ads_none : length s < e.at.0 + 6 → replicate 6 0 ≡ ads_of s e
    unfolding ads_of
    ads_none h = rw (lt-leb (e.at.0 + 6) (length s) h)

    -- t is the part of the file from the record's start on
    pub ads_six : (t : List ℕ) → t ≡ drop e.at.0 s → e.at.0 ≤ length s → spliced (replicate 6 0) 0 (part_of t 0 6) ≡ ads_of s e
    unfolding ads_of
    ads_six t p h = go (leb 6 (length t)) refl
      where
        go : (b : Bool) → leb 6 (length t) ≡ b → spliced (replicate 6 0) 0 (part_of t 0 6) ≡ ads_of s e
        go true l =
            let k : 6 ≤ length t = leb-true 6 (length t) l in
            let r : length t ≡ length s - e.at.0 = ap length p ∙ length-drop e.at.0 s in
            rw (part_there t 0 6 k)
            (spliced_whole (replicate 6 0) (take 6 t) (length-take-le 6 t k)
            ∙ rw (p, le-leb (e.at.0 + 6) (length s) (omega arith)))
        go false l =
            let k : length t < 6 = leb-false 6 (length t) l in
            let r : length t ≡ length s - e.at.0 = ap length p ∙ length-drop e.at.0 s in
            rw (part_past t 0 6 k)
            (spliced_nothing (replicate 6 0) 0 ∙ ads_none (omega arith))

    pub content_none : length s < e.from.0 + e.length.0 → [] ≡ content_of s e
    unfolding content_of
    content_none h = rw (lt-leb (e.from.0 + e.length.0) (length s) h)

    pub content_part : e.from.0 + e.length.0 ≤ length s → take (e.from.0 + e.length.0 - e.from.0) (drop e.from.0 s) ≡ content_of s e
    unfolding content_of
    content_part h =
        let k : e.from.0 + e.length.0 - e.from.0 ≡ e.length.0 = omega arith in
        rw (le-leb (e.from.0 + e.length.0) (length s) h, k)
