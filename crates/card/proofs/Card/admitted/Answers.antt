-- `Card::admitted` runs setup's checks in the order of the definition.
use Prim.Native.Nat.{ℕ, zero, suc}
use mathlib.Core.Path.{◌≡◌, refl, sym, ap, ◌∙◌}
use Rattle.std.specs.Prelude.{Err}
use Rattle.std.proofs.lemmas.Result.{err_from_is_err_and}
use Rattle.card.specs.declared.Card.{Card}
use Rattle.card.specs.declared.Refusal.{Refusal}
use Rattle.card.specs.Numbers.{refusal_number}
use Rattle.card.specs.Parts.{Tells, answered}
use Rattle.card.specs.Setup.{bare, admitted_with, admitted}
use Rattle.card.proofs.Refusals.{refusal_some}
use Rattle.card.proofs.Giving.{told}
use Rattle.card.proofs.Card.admitted.Goals as goal

-- contents that are refused refuse the setup
refused_contents : (n : ℕ) (c : Card) (r : Refusal) → refusal_number r ≡ n → Tells (admitted_with n c) (answered bare (Err r))
unfolding admitted_with
refused_contents zero c r e = absurd (refusal_some r e)
refused_contents (suc n) c r e = record { card = refl; number = e }

pub returns-then-broadcast : goal.returns-then-broadcast
unfolding admitted
returns-then-broadcast c = rw (← c.broadcast.ensures, c.if-broadcast.true) (told _ _ _ _ refl refl)

pub returns-then-not-keeps_rules : goal.returns-then-not-keeps_rules
unfolding admitted
returns-then-not-keeps_rules c = rw (← c.broadcast.ensures, c.if-broadcast.false, ← c.keeps_rules.ensures, c.if-not-keeps_rules.true) (told _ _ _ _ refl refl)

pub returns-then-weak : goal.returns-then-weak
unfolding admitted
returns-then-weak c = rw (← c.broadcast.ensures, c.if-broadcast.false, ← c.keeps_rules.ensures, c.if-not-keeps_rules.false, ← c.weak.ensures, c.if-weak.true) (told _ _ _ _ refl refl)

pub returns-in_err-contents_answers : goal.returns-in_err-contents_answers
unfolding admitted
returns-in_err-contents_answers c =
    let p = err_from_is_err_and c.from_residual.result c.from_residual.ensures.1 in
    rw (← c.broadcast.ensures, c.if-broadcast.false, ← c.keeps_rules.ensures, c.if-not-keeps_rules.false, ← c.weak.ensures, c.if-weak.false, p.1)
    (refused_contents _ _ p.0 (ap refusal_number p.2 ∙ c.in_err-contents_answers.ensures))

pub returns : goal.returns
unfolding admitted admitted_with
returns c =
    let number = sym c.in_ok-contents_answers.ensures in
    rw (← c.broadcast.ensures, c.if-broadcast.false, ← c.keeps_rules.ensures, c.if-not-keeps_rules.false, ← c.weak.ensures, c.if-weak.false, number)
    (record { card = c.fresh.ensures; number = refl })
