-- `judge`: the length, the count and then the records, as the definition has them.
use mathlib.Core.Path.{◌≡◌, sym, ap, ◌∙◌}
use Rattle.numbers.specs.Counts.{in_octets}
use Rattle.number.specs.Groups.{front_number, found, read_at}
use Rattle.number.specs.Answers.{answer_of_reading}
use Rattle.number.proofs.Forms.{read_front, read_faulty}
use Rattle.number.proofs.Fronts.{front_within}
use Rattle.swap.proofs.Verdicts.{verdict_long, verdict_none, verdict_many, verdict_records}
use native.Mathlib.Omega.{arith}
use mathlib.Core.List.{List}
use Prim.Native.Nat.{ℕ}
use Rattle.std.specs.Prelude.{Option, Some}
use Rattle.number.specs.declared.Number.{Number}
use Rattle.swap.proofs.file.judge.Goals as goal

-- the count that was read, as the number at the front
count_read : (s : List ℕ) (number : Number) (reading : Option Number) → reading ≡ Some number → answer_of_reading (in_octets 0) reading ≡ read_at s (in_octets 0) → front_number s ≡ found number.value number.next.0
count_read s number reading is ensures =
    let r = read_front s 0 number.value number.next.0 (sym ensures ∙ ap (answer_of_reading (in_octets 0)) is) in
    let e : number.next.0 ≡ r.0 = omega (arith, r.2) in
    rw e r.1

pub returns-then-file-gt-FILE_LIMIT : goal.returns-then-file-gt-FILE_LIMIT
returns-then-file-gt-FILE_LIMIT c = verdict_long c.args.file.now c.if-file-gt-FILE_LIMIT.true

pub returns-in_default : goal.returns-in_default
returns-in_default c = let s = c.args.file.now in
    verdict_none s c.if-file-gt-FILE_LIMIT.false (read_faulty s 0 (sym c.read.ensures ∙ ap (answer_of_reading (in_octets 0)) c.in_default.is))

pub returns-then-count-gt-COUNT_LIMIT : goal.returns-then-count-gt-COUNT_LIMIT
returns-then-count-gt-COUNT_LIMIT c = let v = c in
    verdict_many _ v.if-file-gt-FILE_LIMIT.false _ _ (count_read c.args.file.now c.in-Some.field-0 c.read.result c.in-Some.is c.read.ensures) c.if-count-gt-COUNT_LIMIT.true

pub judge_records-requires : goal.judge_records-requires
judge_records-requires c = (front_within _ _ _ (count_read c.args.file.now c.in-Some.field-0 c.read.result c.in-Some.is c.read.ensures)).1

pub returns : goal.returns
returns c = let v = c in
    c.judge_records.ensures ∙ verdict_records _ v.if-file-gt-FILE_LIMIT.false _ _ (count_read c.args.file.now c.in-Some.field-0 c.read.result c.in-Some.is c.read.ensures) c.if-count-gt-COUNT_LIMIT.false
