-- What each event gives and leaves in lent memory, for every content and length of it (01, The form each place takes: "Exported setup, step and
-- meter-write functions over card memory, reply buffer and numbers, testing the memory before use").
use Rattle.std.specs.Prelude.{ℕ, Bool, true, cond, ◌&&◌, List, Result, Ok, Err, eqb, leb, length}
use Rattle.octets.specs.Splice.{fronted}
use Rattle.numbers.specs.Table.{broken_rule, wrong_length}
use Rattle.card.specs.declared.Card.{Card}
use Rattle.card.specs.declared.Refusal.{Refusal}
use Rattle.card.specs.declared.Refusal.TheVariants.{BrokenRule, WrongLength}
use Rattle.card.specs.Loan.{usable, lending}
use Rattle.card.specs.Parts.{Response}
use Rattle.card.specs.Soundness.{sound}
use Rattle.card.specs.Events.{Call, octet_call, gap, session_end, meter_write, after, after_octet}
use Rattle.card_memory.specs.Layout.{size}
use Rattle.card_memory.specs.Decoding.{decoded}
use Rattle.card_memory.specs.Encoding.{encoded}
use Rattle.card_memory.specs.Legibility.{legible}

-- the number, and the memory afterwards
pub record Outcome : Type 0 where
  pub number : ℕ
  pub memory : List ℕ

abbrev pub refused : ℕ → List ℕ → Outcome
refused number m = record { number = number; memory = m }

-- "card memory that breaks a setup rule, holds a length over its limit or a state mark not in use is refused with 12 ..; so is a partly received frame
-- whose N answer 1 would refuse, or with as many octets as its N states or more"
unfoldable pub sound_memory : List ℕ → Bool
sound_memory m = legible m && sound (decoded m)

-- 17: "reply or frame buffer under 128 octets, card memory too short, a lent key or number not of 8 octets"
abbrev pub lent_right : Call → Bool
lent_right (octet_call o loan) = usable loan
lent_right gap = true
lent_right session_end = true
lent_right (meter_write t d) = true

abbrev pub lengths_fit : List ℕ → Call → Bool
lengths_fit m k = leb size (length m) && lent_right k

abbrev pub done : List ℕ → Response → Outcome
done m r = record { number = r.number; memory = encoded r.card m }

-- "An event refused with 17 or 12 has not happened."; on sound memory a call is the method on the card by value, between decoding and encoding
unfoldable pub call_outcome : List ℕ → Call → Outcome
call_outcome m k = cond (lengths_fit m k) (cond (sound_memory m) (done m (after (decoded m) k)) (refused broken_rule m)) (refused wrong_length m)

-- the same of an octet, with the reply buffer afterwards, and what stands in the cell for the length of the reply
pub record Replied : Type 0 where
  pub number : ℕ
  pub memory : List ℕ
  pub reply : List ℕ
  pub length : ℕ

-- "everything" stays at 17 and 12, the cell included
abbrev pub unreplied : ℕ → List ℕ → List ℕ → ℕ → Replied
unreplied number m reply cell = record { number = number; memory = m; reply = reply; length = cell }

-- "octets past a written frame are kept"
abbrev pub replied : List ℕ → List ℕ → Response → Replied
replied m reply r =
    record { number = r.number; memory = encoded r.card m; reply = fronted r.reply reply; length = length r.reply }

-- "NA2 is the 8-octet number lent by the host with that event"
unfoldable pub octet_outcome : List ℕ → ℕ → List ℕ → List ℕ → ℕ → Replied
octet_outcome m o na2 reply cell =
    cond (lengths_fit m (octet_call o (lending na2 reply)))
    (cond (sound_memory m) (replied m reply (after_octet (decoded m) o (lending na2 reply))) (unreplied broken_rule m reply cell))
    (unreplied wrong_length m reply cell)

-- For the private `finish` alone: the number and the card that a call by value gave, in legible memory; 12 leaves the memory.
unfoldable pub finished : List ℕ → ℕ → Card → Outcome
finished m n c = cond (eqb n broken_rule) (refused broken_rule m) (record { number = n; memory = encoded c m })

-- For the private `lent_card` alone: the card that lent memory holds; memory that is too short is 17, and illegible memory 12.
abbrev pub lent_card : List ℕ → Result Card Refusal
lent_card m = cond (leb size (length m)) (cond (legible m) (Ok (decoded m)) (Err BrokenRule)) (Err WrongLength)
