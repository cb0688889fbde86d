-- A card with one of its parts another, and what a call gives.
use Rattle.std.specs.Prelude.{ℕ, ◌≡◌, List, [], length}
use Rattle.octets.specs.Splice.{fronted}
use Rattle.numbers.specs.Table.{none}
use Rattle.records.specs.declared.Records.{Records}
use Rattle.receiver.specs.declared.Receiver.{Receiver}
use Rattle.card.specs.declared.Phase.TheVariants.{Idle}
use Rattle.card.specs.declared.Exchange.{Exchange}
use Rattle.card.specs.declared.Card.{Card}
use Rattle.card.specs.declared.Answered.{Answered}
use Rattle.card.specs.declared.Stepped.{Stepped}
use Rattle.card.specs.Numbers.{Answer, answer_number}

abbrev pub with_exchange : Exchange → Card → Card
with_exchange e c = record { identity = c.identity; records = c.records; exchange = e; receiver = c.receiver }

abbrev pub with_records : Records → Card → Card
with_records s c = record { identity = c.identity; records = s; exchange = c.exchange; receiver = c.receiver }

abbrev pub with_receiver : Receiver → Card → Card
with_receiver r c = record { identity = c.identity; records = c.records; exchange = c.exchange; receiver = r }

-- the card with no exchange waiting
abbrev pub without_wait : Card → Card
without_wait c = with_exchange (record { phase = Idle; content = c.exchange.content; na2 = c.exchange.na2 }) c

-- The next card, the number for the host, and the octets of the reply frame: none where there is no reply.
pub record Response : Type 0 where
  pub card : Card
  pub number : ℕ
  pub reply : List ℕ

abbrev pub responding : Card → ℕ → List ℕ → Response
responding c n s = record { card = c; number = n; reply = s }

-- no reply
abbrev pub telling : Card → ℕ → Response
telling c n = responding c n []

-- no reply, no number
abbrev pub silent : Card → Response
silent c = telling c none

abbrev pub answered : Card → Answer → Answered
answered c a = record { card = c; answer = a }

abbrev pub unreplied : Card → Answer → Stepped
unreplied c a = record { card = c; answer = a; reply = record { 0 = 0 } }

-- A response as a call without a reply buffer gives it.
pub record Tells (r : Response) (given : Answered) : Type 0 where
  pub card : given.card ≡ r.card
  pub number : answer_number given.answer ≡ r.number

-- A response as a call gives it, with its reply over the front of the lent buffer.
pub record Gives (r : Response) (before after : List ℕ) (given : Stepped) : Type 0 where
  pub card : given.card ≡ r.card
  pub number : answer_number given.answer ≡ r.number
  pub reply : given.reply.0 ≡ length r.reply
  pub buffer : after ≡ fronted r.reply before
