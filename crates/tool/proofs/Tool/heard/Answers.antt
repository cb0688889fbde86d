-- `Tool::heard` goes by the event of its sound receiver.
use Rattle.tool.proofs.Receiving.{told_nothing, told_bad, told_inspected, told_frame}
use Rattle.tool.proofs.Lengths.{receiver_length}
use Rattle.tool.proofs.Gives.{gives_alike, gives_nothing}
use Rattle.receiver.proofs.Follows.{Follows, octet_follows}
use Rattle.receiver.specs.Receiver.{Response, answer_of_event, answer_of_received, reception_of, stepped, after_octet}
use Rattle.receiver.specs.Receiving.{on_octet}
use mathlib.Core.Path.{◌≡◌, sym, ap, ◌∙◌}
use Rattle.tool.proofs.Tool.heard.Goals.{After-octet-received}
use Rattle.tool.proofs.Tool.heard.Goals as goal

rule : (c : After-octet-received) → Follows (on_octet c.args.octet) c.args.self.receiver (after_octet c.args.self.receiver c.args.octet)
rule c = octet_follows c.args.self.receiver c.args.octet c.requires.receiver (receiver_length c.args.self _ c.well_formed.0)

-- what the receiver gave is what 01, Receiving, gives
follows : (c : After-octet-received) → answer_of_received c.octet-received.result ≡ stepped c.args.self.receiver (on_octet c.args.octet (reception_of c.args.self.receiver))
follows c = c.octet-received.ensures ∙ (rule c).answer

pub heard_frame-requires : goal.heard_frame-requires
heard_frame-requires c = let t = c.args.self in
    told_inspected t c.args.octet c.octet-received.result c.octet-received.ensures c.requires.receiver (receiver_length t _ c.well_formed.0) c.in-Good.command c.in-Good.is

pub returns-in-Nothing-clause-gives : goal.returns-in-Nothing-clause-gives
returns-in-Nothing-clause-gives c =
    let e = told_nothing c.args.self _ c.octet-received.result (follows (goal.at.returns-in-Nothing-clause-gives c).After-octet-received) c.in-Nothing.is in
    gives_alike _ _ _ _ _ e (gives_nothing _ _ _ _ c.hearing.ensures)

pub returns-in-Bad-clause-gives : goal.returns-in-Bad-clause-gives
returns-in-Bad-clause-gives c =
    let e = told_bad c.args.self _ c.octet-received.result (follows (goal.at.returns-in-Bad-clause-gives c).After-octet-received) _ c.in-Bad.is in
    gives_alike _ _ _ _ _ e (gives_nothing _ _ _ _ (rw c.into.ensures at c.hearing-in-Bad.ensures))

pub returns-in-Good-clause-gives : goal.returns-in-Good-clause-gives
returns-in-Good-clause-gives c = let t = c.args.self in
    let e = told_frame t c.args.octet c.octet-received.result c.octet-received.ensures c.requires.receiver (receiver_length t _ c.well_formed.0) c.in-Good.command c.in-Good.is in
    gives_alike _ _ _ _ _ e c.heard_frame.ensures

pub returns-in-Refused-clause-gives : goal.returns-in-Refused-clause-gives
returns-in-Refused-clause-gives c =
    absurd ((rule (goal.at.returns-in-Refused-clause-gives c).After-octet-received).unbroken (sym (ap (λ (r : Response). r.answer) c.octet-received.ensures) ∙ ap answer_of_event c.in-Refused.is))
