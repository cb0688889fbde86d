-- `Tool::ask` leaves tool and buffer where the request is refused.
use Rattle.tool.specs.Requests.{after_asking}
use Rattle.tool.proofs.Admission.{lent_short, asked_long}
use Rattle.tool.proofs.Gives.{gives_alike, gives_nothing, gives_front}
use mathlib.Core.Path.{refl, sym, ◌∙◌}
use Rattle.tool.proofs.Tool.ask.Goals as goal

pub returns-in_default : goal.returns-in_default
unfolding after_asking
returns-in_default c = let a = c.args.lent.now in
    rw (lent_short a.ads.now a.key.now a.na1.now _ c.in_default.ensures.cases) (gives_nothing _ _ _ _ c.refusing.ensures)

pub returns-in-Ok : goal.returns-in-Ok
returns-in-Ok c = let f = c.in-Some.ensures.cases in
    gives_front _ _ _ _ _ _ f c.sending.ensures.long (gives_alike _ _ _ _ _ (sym c.in-Ok.ensures.ok.response ∙ asked_long _ _ _ f.enough) c.sending.ensures.gives)

pub returns-in-Err : goal.returns-in-Err
returns-in-Err c = let f = c.in-Some.ensures.cases in
    gives_front _ _ _ _ _ _ f refl (gives_alike _ _ _ _ _ (sym c.in-Err.ensures.err ∙ asked_long _ _ _ f.enough) (gives_nothing _ _ _ _ c.refusing-in-Err.ensures))
