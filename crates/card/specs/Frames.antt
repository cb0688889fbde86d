-- What a card does with a whole good frame (01, The card).
use Rattle.std.specs.Prelude.{ℕ, zero, suc, Bool, cond, ◌&&◌, List, [], Option, Some, None, eqb, length, take}
use Rattle.octets.specs.Splice.{fronted}
use Rattle.octets.specs.Part.{same}
use Rattle.des.specs.Des.{encipher}
use Rattle.numbers.specs.Table.{none, wrong_cipher}
use Rattle.numbers.specs.Answer.{Answer, given, refused, refused_at}
use Rattle.frame.specs.declared.codes.Command.{Command}
use Rattle.frame.specs.declared.codes.Command.TheVariants.{Dat, Ech, Eos, Drj, Arj, Tra}
use Rattle.frame.specs.declared.content.Fields.{Fields}
use Rattle.frame.specs.Building.{frame_octets}
use Rattle.records.specs.declared.Cause.{Cause}
use Rattle.records.specs.declared.Cause.TheVariants.{Programmed, Transferred, Broadcast}
use Rattle.records.specs.Judging.{contents}
use Rattle.records.specs.Finding.{attributes_of, find_readable, record_at}
use Rattle.records.specs.Writing.{write}
use Rattle.card.specs.declared.Phase.{Phase}
use Rattle.card.specs.declared.Phase.TheVariants.{Idle, Waiting}
use Rattle.card.specs.declared.Exchange.{Exchange}
use Rattle.card.specs.declared.Card.{Card}
use Rattle.card.specs.declared.taking.Taken.{Taken}
use Rattle.card.specs.declared.taking.Taken.TheVariants as taking
use Rattle.card.specs.Loan.{Loan}
use Rattle.card.specs.Parts.{with_exchange, with_records, without_wait, Response, responding, telling, silent}
use Rattle.card.specs.Taking.{taken_for}

-- the card after a write, granted or refused
unfoldable pub written : Card → Cause → ℕ → List ℕ → Response
written c cause t d = telling (with_records (write c.records cause t d).records c) (write c.records cause t d).number

-- a write over the bus is acknowledged, or answered with DRJ and its number
abbrev pub acknowledgement : ℕ → Command → Command
acknowledgement zero granted = granted
acknowledgement (suc n) granted = Drj

-- "A reply carries the ADS and ADP of the frame it answers": f are that frame's fields, here and below.
unfoldable pub acknowledged : Card → Cause → ℕ → List ℕ → Command → Fields → Response
acknowledged c cause t d granted f =
    responding (written c cause t d).card (written c cause t d).number (frame_octets (acknowledgement (written c cause t d).number granted) f [])

-- "ENQ: the reply is DAT with the record, or the negative answer of 4.4.2 if it is missing (10) or not readable (11)."
unfoldable pub enq_for : Answer ℕ → Card → Fields → Response
enq_for (given i) c f = responding (without_wait c) none (frame_octets Dat f (contents (record_at c.records i)))
enq_for (refused n) c f = responding (without_wait c) n (frame_octets Drj f [])
enq_for (refused_at n offset) c f = responding (without_wait c) n (frame_octets Drj f [])

unfoldable pub on_enq : Card → Fields → Response
on_enq c f = enq_for (find_readable (attributes_of c.records) f.tab) c f

-- "NA2 is the 8-octet number lent by the host with that event. The exchange now waits."
abbrev pub opened : List ℕ → Fields → List ℕ → Exchange → Exchange
opened na2 f d e = record { phase = Waiting f.adp f.tab (record { 0 = length d }); content = fronted d e.content; na2 = na2 }

abbrev pub waiting_for : Card → Loan → Fields → List ℕ → Card
waiting_for c loan f d = with_exchange (opened loan.na2 f d c.exchange) c

-- "ECH with ZA1 = DES(Ki, NA1), ZA2 = NA2, TAB and DATA echoed"
abbrev pub echo : List ℕ → List ℕ → Fields → Fields
echo key na2 f =
    record { ads = f.ads; adp = f.adp; za1 = encipher key f.za1; za2 = na2; tab = f.tab; announced = f.announced }

-- "REC: the reply is ECH .. Data is not judged yet."
unfoldable pub on_rec : Card → Loan → Fields → List ℕ → Response
on_rec c loan f d = responding (waiting_for c loan f d) none (frame_octets Ech (echo c.identity.key loan.na2 f) d)

-- "if its ADP isn't the REC's or ZA2 isn't DES(Ki, NA2), ARJ (13)"
unfoldable pub authentic : List ℕ → List ℕ → ℕ → Fields → Bool
authentic key na2 adp f = eqb adp f.adp && same f.za2 (encipher key na2)

-- "Otherwise DRJ with 10, 11, 7, 8 or 9, or the record is written and EOS sent. The wait is over in each case. AUT with none waiting: no reply."
unfoldable pub aut_in : Phase → Card → Fields → Response
aut_in Idle c f = silent c
aut_in (Waiting adp tab n) c f =
    cond (authentic c.identity.key c.exchange.na2 adp f) (acknowledged (without_wait c) (Programmed adp) tab (take n.0 c.exchange.content) Eos f)
    (responding (without_wait c) wrong_cipher (frame_octets Arj f []))

unfoldable pub on_aut : Card → Fields → Response
on_aut c f = aut_in c.exchange.phase c f

-- "TRF: written and TRA, or DRJ."
unfoldable pub on_trf : Card → Fields → List ℕ → Response
on_trf c f d = acknowledged (without_wait c) (Transferred f.adp) f.tab d Tra f

-- "TRB: written or dropped (10, 11, 7, 8, 9); no reply, but the number goes to the host."
unfoldable pub on_trb : Card → Fields → List ℕ → Response
on_trb c f d = written (without_wait c) (Broadcast f.adp) f.tab d

-- "IB: no reply, records unchanged." "ENQ, REC, TRF, TRB and IB end a waiting exchange."
unfoldable pub on_ib : Card → Response
on_ib c = silent (without_wait c)

-- "Other good frames get no reply and change nothing, the waiting exchange included."
unfoldable pub respond : Option Taken → Card → Loan → Fields → List ℕ → Response
respond (Some taking.Enq) c loan f d = on_enq c f
respond (Some taking.Rec) c loan f d = on_rec c loan f d
respond (Some taking.Aut) c loan f d = on_aut c f
respond (Some taking.Trf) c loan f d = on_trf c f d
respond (Some taking.Trb) c loan f d = on_trb c f d
respond (Some taking.Ib) c loan f d = on_ib c
respond None c loan f d = silent c

unfoldable pub on_frame : Card → Loan → Command → Fields → List ℕ → Response
on_frame c loan command f d = respond (taken_for c.identity.address command f.ads) c loan f d
