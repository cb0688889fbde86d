-- What a call gives, with a reply frame in the lent buffer or without one.
use Prim.Native.Nat.{ℕ}
use mathlib.Core.Path.{◌≡◌, refl, sym, ap, subst⁻¹, ◌∙◌}
use mathlib.Core.List.{List, []}
use lib.ListN.{length}
use Rattle.octets.specs.Splice.{fronted}
use Rattle.numbers.specs.declared.Octets.{Octets}
use Rattle.frame.specs.Building.{Sends}
use Rattle.card.specs.declared.Card.{Card}
use Rattle.card.specs.declared.Answered.{Answered}
use Rattle.card.specs.declared.Stepped.{Stepped}
use Rattle.card.specs.Numbers.{Answer, answer_number}
use Rattle.card.specs.Parts.{Response, Tells, Gives, responding, telling, answered, unreplied}

-- a card beside a reply that was sent
pub sent_by : {frame before after : List ℕ} {sent : Octets} {c d : Card} {n : ℕ} (a : Answer) → d ≡ c → answer_number a ≡ n → Sends frame before after sent
    → Gives (responding c n frame) before after (record { card = d; answer = a; reply = sent })
sent_by a e f s = record { card = e; number = f; reply = ap (λ (x : Octets). x.0) s.octets; buffer = s.buffer }

-- a response that is another
pub gives_by : {r q : Response} {b a : List ℕ} {u : Stepped} → r ≡ q → Gives q b a u → Gives r b a u
gives_by {b = b} {a = a} {u = u} e g = subst⁻¹ (λ (x : Response). Gives x b a u) e g

pub tells_by : {r q : Response} {u : Answered} → r ≡ q → Tells q u → Tells r u
tells_by {u = u} e g = subst⁻¹ (λ (x : Response). Tells x u) e g

-- a card beside its answer
pub told : (c : Card) (n : ℕ) (a : Answer) (u : Answered) → u ≡ answered c a → answer_number a ≡ n → Tells (telling c n) u
told c n a u e f = record { card = ap (λ (x : Answered). x.card) e; number = ap (λ (x : Answered). answer_number x.answer) e ∙ f }

-- a call's answer handed on as a step without a reply
pub handed_on : {r : Response} (t : Answered) (b : List ℕ) (u : Stepped) → Tells r t → r.reply ≡ [] → u ≡ unreplied t.card t.answer → Gives r b b u
unfolding fronted
handed_on t b u told none e =
    record {
      card = ap (λ (x : Stepped). x.card) e ∙ told.card;
      number = ap (λ (x : Stepped). answer_number x.answer) e ∙ told.number;
      reply = ap (λ (x : Stepped). x.reply.0) e ∙ sym (ap length none);
      buffer = rw none;
    }

-- a step without a reply, which leaves the buffer
pub silent_by : (c : Card) (n : ℕ) (a : Answer) (b : List ℕ) (u : Stepped) → u ≡ unreplied c a → answer_number a ≡ n → Gives (telling c n) b b u
unfolding fronted
silent_by c n a b u e f =
    record {
      card = ap (λ (x : Stepped). x.card) e;
      number = ap (λ (x : Stepped). answer_number x.answer) e ∙ f;
      reply = ap (λ (x : Stepped). x.reply.0) e;
      buffer = refl;
    }
