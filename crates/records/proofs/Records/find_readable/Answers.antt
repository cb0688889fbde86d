-- `find_readable` finds the record and then tests its mark.
use Prim.Native.Nat.{◌<◌}
use mathlib.Core.Path.{sym}
use borrow.Author.Rules.{rules}
use Rattle.std.proofs.lemmas.Result.{err_from_is_err_and}
use Rattle.records.specs.Sizes.{most_records}
use Rattle.records.proofs.Places.{readable_at, readable_none}
use Rattle.records.proofs.Shape.{found_element}
use Rattle.records.proofs.Records.find_readable.Goals as goal

pub returns-in_err-i : goal.returns-in_err-i
returns-in_err-i c = let p = err_from_is_err_and c.from_residual.result c.from_residual.ensures.1 in
    rw (p.1, p.2) (sym (readable_none _ _ _ (sym c.in_err-i.ensures)))

pub offset_bounds-self-i : goal.offset_bounds-self-i
offset_bounds-self-i c = let h : c.in_ok-i.i < most_records = found_element c.args.self _ c.well_formed.0 c.args.tab c.in_ok-i.i (sym c.in_ok-i.ensures) in search rules

pub bounds-self-i : goal.bounds-self-i
bounds-self-i c = found_element c.args.self _ c.well_formed.0 c.args.tab c.in_ok-i.i (sym c.in_ok-i.ensures)

pub returns-then-self-i : goal.returns-then-self-i
returns-then-self-i c = rw (readable_at _ _ _ (sym c.in_ok-i.ensures), c.if-self-i.true)

pub returns-else-self-i : goal.returns-else-self-i
returns-else-self-i c = rw (readable_at _ _ _ (sym c.in_ok-i.ensures), c.if-self-i.false)
