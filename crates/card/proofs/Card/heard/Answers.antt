-- `Card::heard` takes over what its receiver gives, and hands on a good frame.
use mathlib.Core.Path.{◌≡◌, ap, sym, ◌∙◌}
use Prim.Native.Nat.{ℕ}
use lib.ListN.{length}
use Rattle.receiver.specs.Receiver.{most_held}
use Rattle.receiver.specs.Receiving.{on_octet}
use Rattle.receiver.specs.Receiver.{Response, answer_of_event, answer_of_received, after_octet}
use Rattle.receiver.proofs.Follows.{Follows, octet_follows}
use Rattle.receiver.proofs.Arrival.{Handed, good_handed}
use Rattle.card.specs.Events.{heard}
use Rattle.card.proofs.Shape.{receiver_length}
use Rattle.card.proofs.Receptions.{first_octet, no_frame_given, frame_given}
use Rattle.card.proofs.Giving.{silent_by}
use Rattle.receiver.specs.declared.Received.{Received}
use Rattle.receiver.specs.declared.Event.TheVariants.{Good}
use Rattle.frame.specs.declared.codes.Command.{Command}
use Rattle.card.specs.declared.Card.{Card}
use Rattle.card.specs.Soundness.{Sound}
use Rattle.card.proofs.Card.heard.Goals as goal

module _ (c : Card) (octet : ℕ) (sound : Sound c) (long : length c.receiver.octets ≡ most_held) where
  followed : Follows (on_octet octet) c.receiver (after_octet c.receiver octet)
  followed = octet_follows c.receiver octet sound.receiver long

  -- a good frame
  handed : (a : Received) (k : Command) → answer_of_received a ≡ after_octet c.receiver octet → a.event ≡ Good k → Handed c.receiver octet k
  handed a k e is = good_handed c.receiver octet k sound.receiver long (ap (λ (x : Response). x.answer) (sym e) ∙ ap answer_of_event is)

pub returns-in_default : goal.returns-in_default
unfolding heard
returns-in_default c =
    rw (no_frame_given c.args.self _ c.octet-received.result (c.octet-received.ensures ∙ (followed c.args.self c.args.octet c.requires (receiver_length c.args.self _ c.well_formed.0)).answer) _ c.in_default.not-Good)
    (silent_by _ _ _ _ _ c.unreplied.ensures c.event_answer.ensures)

pub heard_frame-requires-clause-whole : goal.heard_frame-requires-clause-whole
heard_frame-requires-clause-whole c =
    let h = handed c.args.self c.args.octet c.requires (receiver_length c.args.self _ c.well_formed.0) c.octet-received.result c.in-Good.command c.octet-received.ensures c.in-Good.is in
    let whole = ap (λ (x : Response). x.frame) c.octet-received.ensures in
    rw (whole, h.frame) (first_octet h.octets h.arrived.whole)

pub heard_frame-requires-clause-good : goal.heard_frame-requires-clause-good
heard_frame-requires-clause-good c =
    let h = handed c.args.self c.args.octet c.requires (receiver_length c.args.self _ c.well_formed.0) c.octet-received.result c.in-Good.command c.octet-received.ensures c.in-Good.is in
    let whole = ap (λ (x : Response). x.frame) c.octet-received.ensures in
    rw (whole, h.taken) h.arrived.good

pub returns : goal.returns
returns c =
    rw (frame_given c.args.self c.args.octet _ _ (handed c.args.self c.args.octet c.requires (receiver_length c.args.self _ c.well_formed.0) c.octet-received.result c.in-Good.command c.octet-received.ensures c.in-Good.is) c.octet-received.result c.octet-received.ensures (c.octet-received.ensures ∙ (followed c.args.self c.args.octet c.requires (receiver_length c.args.self _ c.well_formed.0)).answer))
    c.heard_frame.ensures
