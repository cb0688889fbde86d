-- A step whose reply stands in the front of the buffer that is lent: no reply is longer than the front, and of what is lent NA2 alone bears on it.
use Prim.Native.Nat.{ℕ, ◌≤◌}
use mathlib.Core.Path.{◌≡◌, refl, sym, ap, ◌∙◌}
use mathlib.Core.List.{List, ◌++◌, append_assoc}
use native.Mathlib.Omega.{arith}
use lib.ListN.{length, drop, length-append}
use lib.Seq.{drop-append-le}
use Rattle.std.specs.Prelude.{Option, Some, None}
use Rattle.octets.specs.Splice.{fronted}
use Rattle.frame.specs.declared.content.Fields.{Fields}
use Rattle.receiver.specs.Receiving.{Outcome, silent_outcome, dropped_outcome, complete_outcome, on_octet}
use Rattle.receiver.specs.Receiver.{reception_of}
use Rattle.card.specs.declared.Card.{Card}
use Rattle.card.specs.declared.Stepped.{Stepped}
use Rattle.card.specs.declared.taking.Taken.{Taken}
use Rattle.card.specs.declared.taking.Taken.TheVariants as taking
use Rattle.card.specs.Parts.{Response, Gives}
use Rattle.card.specs.Taking.{taken_for}
use Rattle.card.specs.Frames.{on_rec, respond, on_frame}
use Rattle.card.specs.Events.{after_step, heard_as, heard}

fronted_front : (s front rest : List ℕ) → length s ≤ length front → fronted s front ++ rest ≡ fronted s (front ++ rest)
unfolding fronted
fronted_front s front rest h = rw (drop-append-le (length s) front rest h) (append_assoc s (drop (length s) front) rest)

reply_fits : (s front after : List ℕ) → after ≡ fronted s front → length after ≡ length front → length s ≤ length front
unfolding fronted
reply_fits s front after e long = omega (arith, sym (length-append s (drop (length s) front)) ∙ sym (ap length e) ∙ long)

pub gives_front : (r : Response) (front after rest : List ℕ) (u : Stepped) → length after ≡ length front → Gives r front after u → Gives r (front ++ rest) (after ++ rest) u
gives_front r front after rest u long g =
    record {
      card = g.card;
      number = g.number;
      reply = g.reply;
      buffer = ap (λ (x : List ℕ). x ++ rest) g.buffer ∙ fronted_front r.reply front rest (reply_fits r.reply front after g.buffer long);
    }

-- two loans of the same number
module _ (na2 : List ℕ) (m n : ℕ) where
  respond_lent : (t : Option Taken) (c : Card) (f : Fields) (d : List ℕ) → respond t c (record { na2 = na2; reply = m }) f d ≡ respond t c (record { na2 = na2; reply = n }) f d
  unfolding respond on_rec
  respond_lent (Some taking.Enq) c f d = refl
  respond_lent (Some taking.Rec) c f d = refl
  respond_lent (Some taking.Aut) c f d = refl
  respond_lent (Some taking.Trf) c f d = refl
  respond_lent (Some taking.Trb) c f d = refl
  respond_lent (Some taking.Ib) c f d = refl
  respond_lent None c f d = refl

  outcome_lent : (o : Outcome) (c : Card) → heard_as o c (record { na2 = na2; reply = m }) ≡ heard_as o c (record { na2 = na2; reply = n })
  unfolding heard_as on_frame
  outcome_lent silent_outcome c = refl
  outcome_lent (dropped_outcome number) c = refl
  outcome_lent (complete_outcome command s) c = respond_lent (taken_for c.identity.address command _) c _ _

  pub heard_lent : (c : Card) (o : ℕ) → heard c o (record { na2 = na2; reply = m }) ≡ heard c o (record { na2 = na2; reply = n })
  unfolding heard
  heard_lent c o = outcome_lent (on_octet o (reception_of c.receiver)).outcome (after_step (on_octet o (reception_of c.receiver)) c)
