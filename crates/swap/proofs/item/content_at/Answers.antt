-- `content_at`: each way out is a case of the definition, by the number at the front and the tests on the way.
use Prim.Native.Nat.{ℕ, ◌+◌, ◌≤◌}
use mathlib.Core.Path.{◌≡◌, sym, ap, ◌∙◌}
use mathlib.Core.List.{List}
use lib.ListN.{length, drop, length-drop}
use Rattle.numbers.specs.Counts.{in_octets}
use Rattle.number.specs.Groups.{front_number, found, read_at}
use Rattle.number.specs.Answers.{answer_of_reading}
use Rattle.number.proofs.Forms.{read_front, read_faulty}
use Rattle.number.proofs.Fronts.{front_within}
use Rattle.swap.specs.Record.{fits_kind}
use Rattle.swap.proofs.Parts.{part_count}
use Rattle.swap.proofs.Judging.{content_none, content_long, content_cut, content_ill, content_good}
use native.Mathlib.Omega.{arith}
use Rattle.std.specs.Prelude.{Option, Some}
use Rattle.number.specs.declared.Number.{Number}
use Rattle.swap.proofs.item.content_at.Goals.{then-file-from-via-then-file-from, then-file-from-via-else-file-from+then-not-fits_kind}
use Rattle.swap.proofs.item.content_at.Goals as goal

-- the length that was read, as the number at the front, and the offset after it
module _ (file : List ℕ) (at : ℕ) (number : Number) (reading : Option Number) (is : reading ≡ Some number)
    (ensures : answer_of_reading (in_octets (at + 8)) reading ≡ read_at file (in_octets (at + 8))) where
  length_read : (w : ℕ) × (front_number (drop (at + 8) file) ≡ found number.value w) × (number.next.0 ≡ at + 8 + w)
  length_read = read_front file (at + 8) number.value number.next.0 (sym ensures ∙ ap (answer_of_reading (in_octets (at + 8))) is)

  next_within : number.next.0 ≤ length file
  next_within =
      let r = length_read in
      omega (arith, r.2, (front_within _ _ _ r.1).0, (front_within _ _ _ r.1).1, length-drop (at + 8) file)

pub returns-in_default : goal.returns-in_default
returns-in_default c = let a = c.args in
    content_none a.kind a.file.now a.at (read_faulty a.file.now (a.at + 8) (sym c.read.ensures ∙ ap (answer_of_reading (in_octets (a.at + 8))) c.in_default.is))

pub returns-then-length_limit-count : goal.returns-then-length_limit-count
returns-then-length_limit-count c =
    let a = c.args in
    let r = length_read a.file.now a.at c.in-Some.field-0 c.read.result c.in-Some.is c.read.ensures in
    content_long a.kind a.file.now a.at _ r.0 r.1 (rw (← c.length_limit.ensures) c.if-length_limit-count.true)

pub overflow_sub-file : goal.overflow_sub-file
overflow_sub-file c = next_within c.args.file.now c.args.at c.in-Some.field-0 c.read.result c.in-Some.is c.read.ensures

pub slice_bounds-fits_kind-end : goal.slice_bounds-fits_kind-end
slice_bounds-fits_kind-end c =
    omega (arith, next_within c.args.file.now c.args.at c.in-Some.field-0 c.read.result c.in-Some.is c.read.ensures, c.if-file-from.false)

pub returns-then-file-from : goal.returns-then-file-from
returns-then-file-from c =
    let a = c.args in
    let r = length_read a.file.now a.at c.in-Some.field-0 c.read.result c.in-Some.is c.read.ensures in
    elim c.then-file-from.branch [
      | then-file-from-via-then-file-from w ↦
          content_cut a.kind a.file.now a.at _ r.0 _ r.1 (rw (← c.length_limit.ensures) c.if-length_limit-count.false) r.2
          (next_within a.file.now a.at c.in-Some.field-0 c.read.result c.in-Some.is c.read.ensures) w.if-file-from.true
      | then-file-from-via-else-file-from+then-not-fits_kind w ↦
          content_ill a.kind a.file.now a.at _ r.0 _ r.1 (rw (← c.length_limit.ensures) c.if-length_limit-count.false) r.2
          (sym (w.fits_kind.ensures ∙ ap (fits_kind a.kind) (part_count a.file.now c.in-Some.field-0.next.0 c.in-Some.field-0.value)) ∙ w.if-not-fits_kind.true)
    ]

pub returns : goal.returns
returns c =
    let a = c.args in
    let r = length_read a.file.now a.at c.in-Some.field-0 c.read.result c.in-Some.is c.read.ensures in
    content_good a.kind a.file.now a.at _ r.0 _ r.1 (rw (← c.length_limit.ensures) c.if-length_limit-count.false) r.2
    (next_within a.file.now a.at c.in-Some.field-0 c.read.result c.in-Some.is c.read.ensures) c.if-file-from.false
    (sym (c.fits_kind.ensures ∙ ap (fits_kind a.kind) (part_count a.file.now c.in-Some.field-0.next.0 c.in-Some.field-0.value)) ∙ c.if-not-fits_kind.false)
