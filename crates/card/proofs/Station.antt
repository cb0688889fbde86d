-- What a card does with a good frame does not depend on its receiver, and leaves the receiver.
use Prim.Native.Nat.{ℕ}
use mathlib.Core.Path.{◌≡◌, refl, sym, ap, ◌∙◌}
use mathlib.Core.Bool.{Bool, true, false, cond}
use mathlib.Core.List.{List}
use Rattle.numbers.specs.Answer.{Answer, given, refused, refused_at}
use Rattle.frame.specs.declared.codes.Command.{Command}
use Rattle.frame.specs.declared.content.Fields.{Fields}
use Rattle.records.specs.Finding.{attributes_of, find_readable}
use Rattle.receiver.specs.declared.Receiver.{Receiver}
use Rattle.receiver.specs.Receiver as receiver
use Rattle.card.specs.declared.Phase.{Phase}
use Rattle.card.specs.declared.Phase.TheVariants.{Idle, Waiting}
use Rattle.card.specs.declared.Card.{Card}
use Rattle.std.specs.Prelude.{Option, Some, None}
use Rattle.card.specs.declared.taking.Taken.{Taken}
use Rattle.card.specs.declared.taking.Taken.TheVariants as taking
use Rattle.card.specs.Loan.{Loan}
use Rattle.card.specs.Parts.{with_receiver, Response, responding}
use Rattle.card.specs.Taking.{taken_for}
use Rattle.card.specs.Frames.{written, acknowledged, enq_for, on_enq, on_rec, authentic, aut_in, on_aut, on_trf, on_trb, on_ib, respond, on_frame}

-- all of a card but its receiver
abbrev pub station_of : Card → Card
station_of c = with_receiver receiver.fresh c

abbrev moved : Receiver → Response → Response
moved r x = responding (with_receiver r x.card) x.number x.reply

module _ (r : Receiver) (c : Card) where
  cond-moved : (b : Bool) (x y x' y' : Response) → x' ≡ moved r x → y' ≡ moved r y → cond b x' y' ≡ moved r (cond b x y)
  cond-moved true x y x' y' e f = e
  cond-moved false x y x' y' e f = f

  enq_moved : (g : Answer ℕ) (f : Fields) → enq_for g (with_receiver r c) f ≡ moved r (enq_for g c f)
  unfolding enq_for
  enq_moved (given i) f = refl
  enq_moved (refused n) f = refl
  enq_moved (refused_at n offset) f = refl

  aut_moved : (p : Phase) (f : Fields) → aut_in p (with_receiver r c) f ≡ moved r (aut_in p c f)
  unfolding aut_in acknowledged written
  aut_moved Idle f = refl
  aut_moved (Waiting adp tab n) f = cond-moved (authentic c.identity.key c.exchange.na2 adp f) _ _ _ _ refl refl

  respond-moved : (t : Option Taken) (loan : Loan) (f : Fields) (d : List ℕ) → respond t (with_receiver r c) loan f d ≡ moved r (respond t c loan f d)
  unfolding respond on_enq on_rec on_aut on_trf on_trb on_ib acknowledged written
  respond-moved (Some taking.Enq) loan f d = enq_moved (find_readable (attributes_of c.records) f.tab) f
  respond-moved (Some taking.Rec) loan f d = refl
  respond-moved (Some taking.Aut) loan f d = aut_moved c.exchange.phase f
  respond-moved (Some taking.Trf) loan f d = refl
  respond-moved (Some taking.Trb) loan f d = refl
  respond-moved (Some taking.Ib) loan f d = refl
  respond-moved None loan f d = refl

  frame_moved : (loan : Loan) (k : Command) (f : Fields) (d : List ℕ) → on_frame (with_receiver r c) loan k f d ≡ moved r (on_frame c loan k f d)
  unfolding on_frame
  frame_moved loan k f d = respond-moved (taken_for c.identity.address k f.ads) loan f d

module _ (c : Card) (loan : Loan) (k : Command) (f : Fields) (d : List ℕ) where
  pub frame_receiver : (on_frame c loan k f d).card.receiver ≡ c.receiver
  frame_receiver = ap (λ (x : Response). x.card.receiver) (frame_moved c.receiver c loan k f d)

-- two cards that differ in their receivers alone do the same with a good frame
module _ (c b : Card) (e : station_of c ≡ station_of b) (loan : Loan) (k : Command) (f : Fields) (d : List ℕ) where
  same_moved : moved receiver.fresh (on_frame c loan k f d) ≡ moved receiver.fresh (on_frame b loan k f d)
  same_moved = sym (frame_moved receiver.fresh c loan k f d) ∙ ap (λ (x : Card). on_frame x loan k f d) e ∙ frame_moved receiver.fresh b loan k f d

  pub same_station : station_of (on_frame c loan k f d).card ≡ station_of (on_frame b loan k f d).card
  same_station = ap (λ (x : Response). x.card) same_moved

  pub same_number : (on_frame c loan k f d).number ≡ (on_frame b loan k f d).number
  same_number = ap (λ (x : Response). x.number) same_moved

  pub same_reply : (on_frame c loan k f d).reply ≡ (on_frame b loan k f d).reply
  same_reply = ap (λ (x : Response). x.reply) same_moved
