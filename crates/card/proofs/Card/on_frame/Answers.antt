-- `Card::on_frame` goes by what the card takes the frame for.
use mathlib.Core.Path.{◌≡◌, refl, sym, ap, ◌∙◌}
use mathlib.Core.List.{List}
use Prim.Native.Nat.{ℕ}
use Rattle.frame.specs.declared.codes.Command.{Command}
use Rattle.frame.specs.declared.content.Fields.{Fields}
use Rattle.std.specs.Prelude.{Option, Some}
use Rattle.card.specs.declared.Card.{Card}
use Rattle.card.specs.declared.taking.Taken.{Taken}
use Rattle.card.specs.Loan.{Loan}
use Rattle.card.specs.Taking.{taken_for}
use Rattle.card.specs.Frames.{written, on_trb, on_ib, respond, on_frame}
use Rattle.card.proofs.Amounts.{taken_data}
use Rattle.card.proofs.Giving.{gives_by, silent_by, handed_on}
use Rattle.card.proofs.Card.on_frame.Goals as goal

-- the frame by what it is taken for
taken_as : (c : Card) (loan : Loan) (k : Command) (f : Fields) (d : List ℕ) (t u : Option Taken) → t ≡ taken_for c.identity.address k f.ads → t ≡ u → on_frame c loan k f d ≡ respond u c loan f d
unfolding on_frame
taken_as c loan k f d t u e h = ap (λ (x : Option Taken). respond x c loan f d) (sym e ∙ h)

by_case : {o : Option Taken} {t u : Taken} → o ≡ Some t → t ≡ u → o ≡ Some u
by_case e f = e ∙ ap Some f

pub on_rec-requires : goal.on_rec-requires
on_rec-requires c = let t = c.taken_for in
    taken_data _ _ _ _ c.requires (sym t.ensures ∙ by_case c.in-Some.is c.in-Rec.is)

pub returns-in-Enq : goal.returns-in-Enq
unfolding respond
returns-in-Enq c = gives_by (taken_as _ _ _ _ _ _ _ c.taken_for.ensures (by_case c.in-Some.is c.in-Enq.is)) c.on_enq.ensures

pub returns-in-Rec : goal.returns-in-Rec
unfolding respond
returns-in-Rec c = gives_by (taken_as _ _ _ _ _ _ _ c.taken_for.ensures (by_case c.in-Some.is c.in-Rec.is)) c.on_rec.ensures

pub returns-in-Aut : goal.returns-in-Aut
unfolding respond
returns-in-Aut c = gives_by (taken_as _ _ _ _ _ _ _ c.taken_for.ensures (by_case c.in-Some.is c.in-Aut.is)) c.on_aut.ensures

pub returns-in-Trf : goal.returns-in-Trf
unfolding respond
returns-in-Trf c = gives_by (taken_as _ _ _ _ _ _ _ c.taken_for.ensures (by_case c.in-Some.is c.in-Trf.is)) c.on_trf.ensures

pub returns-in-Trb : goal.returns-in-Trb
unfolding respond on_trb written
returns-in-Trb c = gives_by (taken_as _ _ _ _ _ _ _ c.taken_for.ensures (by_case c.in-Some.is c.in-Trb.is)) (handed_on c.on_trb-done.result _ _ c.on_trb-done.ensures refl c.unreplied-in-Trb.ensures)

pub returns-in-Ib : goal.returns-in-Ib
unfolding respond on_ib
returns-in-Ib c = gives_by (taken_as _ _ _ _ _ _ _ c.taken_for.ensures (by_case c.in-Some.is c.in-Ib.is)) (silent_by _ _ _ _ _ (rw c.idle.ensures at c.unreplied-in-Ib.ensures) refl)

pub returns-in_default : goal.returns-in_default
unfolding respond
returns-in_default c = gives_by (taken_as _ _ _ _ _ _ _ c.taken_for.ensures c.in_default.is) (silent_by _ _ _ _ _ c.unreplied.ensures refl)
