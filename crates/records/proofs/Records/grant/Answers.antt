-- `grant` runs the tests of the definition in its order.
use Prim.Native.Nat.{◌<◌}
use mathlib.Core.Path.{sym}
use borrow.Author.Rules.{rules}
use Rattle.numbers.specs.Answer.{when_given}
use Rattle.std.proofs.lemmas.Result.{err_from_is_err_and}
use Rattle.records.specs.Sizes.{most_records}
use Rattle.records.specs.Writing.{grant_at}
use Rattle.records.proofs.Places.{granted_at, granted_none}
use Rattle.records.proofs.Shape.{found_element}
use Rattle.records.proofs.Records.grant.Goals as goal

pub returns-in_err-i : goal.returns-in_err-i
returns-in_err-i c = let p = err_from_is_err_and c.from_residual.result c.from_residual.ensures.1 in
    rw (p.1, p.2) (sym (granted_none _ _ _ (sym c.in_err-i.ensures) _ _))

pub offset_bounds-self-i : goal.offset_bounds-self-i
offset_bounds-self-i c = let h : c.in_ok-i.i < most_records = found_element c.args.self _ c.well_formed.0 c.args.tab c.in_ok-i.i (sym c.in_ok-i.ensures) in search rules

pub bounds-self-i : goal.bounds-self-i
bounds-self-i c = found_element c.args.self _ c.well_formed.0 c.args.tab c.in_ok-i.i (sym c.in_ok-i.ensures)

pub returns-then-not-opens : goal.returns-then-not-opens
unfolding grant_at
returns-then-not-opens c = rw (granted_at _ _ _ (sym c.in_ok-i.ensures) _ _, ← c.opens.ensures, c.if-not-opens.true)

pub returns-in_err-acceptable : goal.returns-in_err-acceptable
unfolding grant_at when_given
returns-in_err-acceptable c = let p = err_from_is_err_and c.from_residual-in_err-acceptable.result c.from_residual-in_err-acceptable.ensures.1 in
    rw (p.1, p.2, granted_at _ _ _ (sym c.in_ok-i.ensures) _ _, ← c.opens.ensures, c.if-not-opens.false, ← c.in_err-acceptable.ensures)

pub returns : goal.returns
unfolding grant_at when_given
returns c = rw (granted_at _ _ _ (sym c.in_ok-i.ensures) _ _, ← c.opens.ensures, c.if-not-opens.false, ← c.in_ok-acceptable.ensures)
