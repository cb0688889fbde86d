-- `next_asked`: a record that is not wanted is passed over, and the answer from the next cursor on is the same.
use native.Mathlib.Omega.{arith}
use mathlib.Core.Path.{sym, ◌∙◌}
use Rattle.std.proofs.lemmas.Result.{err_from_is_err_and}
use Rattle.swap.proofs.Walking.{next_left}
use Rattle.swap.proofs.Searching.{first_end, first_none, first_found, first_other}
use Rattle.swap.proofs.station.next_asked.Goals as goal

pub returns-in_err-entry : goal.returns-in_err-entry
returns-in_err-entry c = let a = c.args in
    rw (err_from_is_err_and c.from_residual.result c.from_residual.ensures.1).1 (first_none a.asked a.ads a.file.now c.loop-entry.cursor (sym c.in_err-entry.ensures) ∙ c.loop-entry.invariant)

pub returns-then-is_wanted : goal.returns-then-is_wanted
returns-then-is_wanted c = let a = c.args in
    first_found a.asked a.ads a.file.now c.loop-entry.cursor _ _ (sym (rw c.in-Some.is at c.in_ok-entry.ensures)) (sym c.is_wanted.ensures ∙ c.if-is_wanted.true) ∙ c.loop-entry.invariant

pub loop-entry-smaller : goal.loop-entry-smaller
loop-entry-smaller c =
    omega (arith, next_left c.args.file.now c.loop-entry.cursor _ _ (sym (rw c.in-Some.is at c.in_ok-entry.ensures)))

pub loop-entry-preserved : goal.loop-entry-preserved
loop-entry-preserved c = let a = c.args in
    sym (first_other a.asked a.ads a.file.now c.loop-entry.cursor _ _ (sym (rw c.in-Some.is at c.in_ok-entry.ensures)) (sym c.is_wanted.ensures ∙ c.if-is_wanted.false)) ∙ c.loop-entry.invariant

pub returns : goal.returns
returns c = let a = c.args in
    first_end a.asked a.ads a.file.now c.loop-entry.cursor (sym (rw c.in_default.is at c.in_ok-entry.ensures)) ∙ c.loop-entry.invariant
