-- The book of demand 3 (01, The card: "A book for demand 3, kept from setup and the calls' arguments alone, notes what it grants").
-- Of a card it knows the calls' arguments. `grant` (10, 11, 7, 8, 9), the rule of Receiving, a frame's fields and DES are the papers' own
-- definitions in the crates below; which frames are taken, what waits and what 17 refuses it decides by itself.
use Rattle.std.specs.Prelude.{ℕ, Bool, cond, not, ◌&&◌, ◌||◌, List, [], ◌∷◌, eqb, ltb, length, replicate}
use Rattle.octets.specs.Part.{same}
use Rattle.des.specs.Des.{encipher}
use Rattle.numbers.specs.Answer as answer
use Rattle.numbers.specs.Answer.{Answer}
use Rattle.frame.specs.declared.codes.Command.{Command}
use Rattle.frame.specs.declared.codes.Command.TheVariants.{Enq, Dat, Rec, Ech, Aut, Eos, Aso, Rso, Ib, Drj, Arj, Trf, Trb, Tra, Pre, Sel}
use Rattle.frame.specs.declared.content.Fields.{Fields}
use Rattle.frame.specs.Sizes.{longest_frame, address_width, number_width}
use Rattle.frame.specs.Content.{fields_of, data_of}
use Rattle.receiver.specs.Receiving.{Reception, awaiting, Outcome, silent_outcome, dropped_outcome, complete_outcome, Step, on_octet, on_gap}
use Rattle.records.specs.declared.Cause.TheVariants as cause
use Rattle.records.specs.declared.Cause.{Cause as WriteCause}
use Rattle.records.specs.declared.Attributes.{Attributes}
use Rattle.records.specs.declared.Record.{Record}
use Rattle.records.specs.declared.Records.{Records}
use Rattle.records.specs.Judging.{contents}
use Rattle.records.specs.Finding.{used, attributes_of}
use Rattle.records.specs.Writing.{grant}
use Rattle.card.specs.Loan.{Loan}
use Rattle.card.specs.Events.{Call, octet_call, gap, session_end, meter_write}

-- what setup gives besides the first contents
pub record Setup : Type 0 where
  pub address : List ℕ
  pub key : List ℕ
  pub attributes : List Attributes

abbrev pub setup_of : List ℕ → List ℕ → Records → Setup
setup_of address key given = record { address = address; key = key; attributes = attributes_of given }

-- 01's wait: "none, or ADP, TAB, DATA, NA2"
pub data Wait : Type 0 where
  no_wait : Wait
  exchange : ℕ → ℕ → List ℕ → List ℕ → Wait

-- 01's book: "It has a receiver of its own, a wait .. and, for each TAB, the data last noted."
pub record Book : Type 0 where
  pub receiver : Reception
  pub wait : Wait
  pub noted : ℕ → List ℕ

abbrev pub with_receiver : Reception → Book → Book
with_receiver r b = record { receiver = r; wait = b.wait; noted = b.noted }

abbrev pub with_wait : Wait → Book → Book
with_wait w b = record { receiver = b.receiver; wait = w; noted = b.noted }

-- the contents of the record with this TAB
unfoldable pub contents_of : List Record → ℕ → List ℕ
contents_of [] t = []
contents_of (r ∷ l) t = cond (eqb r.attributes.tab t) (contents r) (contents_of l t)

-- "Fresh, as setup leaves a card: receiver empty, no wait, first contents."
abbrev pub fresh : Records → Book
fresh given = record { receiver = awaiting; wait = no_wait; noted = contents_of (used given) }

-- the cause of a write: the meter, or a frame with its ADP
pub data Cause : Type 0 where
  metered : Cause
  programmed : ℕ → Cause
  transferred : ℕ → Cause
  by_broadcast : ℕ → Cause

-- the same cause in the terms of `grant`
abbrev pub cause_of : Cause → WriteCause
cause_of metered = cause.Meter
cause_of (programmed adp) = cause.Programmed adp
cause_of (transferred adp) = cause.Transferred adp
cause_of (by_broadcast adp) = cause.Broadcast adp

-- the data last noted for the TAB u, after d for the TAB t unless the write is refused
abbrev pub last_noted : Answer ℕ → ℕ → List ℕ → (ℕ → List ℕ) → ℕ → List ℕ
last_noted (answer.given i) t d noted u = cond (eqb u t) d (noted u)
last_noted (answer.refused n) t d noted u = noted u
last_noted (answer.refused_at n offset) t d noted u = noted u

-- "noted unless 10, 11, 7, 8 or 9 applies"
unfoldable pub note : Setup → Cause → ℕ → List ℕ → Book → Book
note s cause t d b =
    record { receiver = b.receiver; wait = b.wait; noted = last_noted (grant s.attributes (cause_of cause) t d) t d b.noted }

-- "AUT: if ADP is the wait's and ZA2 = DES(Ki, NA2), the wait's DATA is noted unless 10, 11, 7, 8 or 9 applies."
unfoldable pub authenticated : Wait → Setup → Fields → Book → Book
authenticated no_wait s f b = b
authenticated (exchange adp tab d na2) s f b =
    cond (eqb adp f.adp && same f.za2 (encipher s.key na2)) (note s (programmed adp) tab d b) b

-- what a good frame is to the card: one of the six that it takes, or not taken
pub data Role : Type 0 where
  reading : Role
  programming : Role
  authentication : Role
  transfer : Role
  broadcast_transfer : Role
  initialisation : Role
  not_taken : Role

abbrev pub if_own : Setup → Fields → Role → Role
if_own s f role = cond (same f.ads s.address) role not_taken

abbrev pub if_broadcast : Fields → Role → Role
if_broadcast f role = cond (same f.ads (replicate address_width 0)) role not_taken

-- "The card takes ENQ, REC, AUT and TRF with its own address, and TRB and IB with a broadcast address", which is all zero (004 4.4.8).
unfoldable pub role_of : Command → Setup → Fields → Role
role_of Enq s f = if_own s f reading
role_of Rec s f = if_own s f programming
role_of Aut s f = if_own s f authentication
role_of Trf s f = if_own s f transfer
role_of Trb s f = if_broadcast f broadcast_transfer
role_of Ib s f = if_broadcast f initialisation
role_of Dat s f = not_taken
role_of Ech s f = not_taken
role_of Eos s f = not_taken
role_of Aso s f = not_taken
role_of Rso s f = not_taken
role_of Drj s f = not_taken
role_of Arj s f = not_taken
role_of Tra s f = not_taken
role_of Pre s f = not_taken
role_of Sel s f = not_taken

-- "REC: the wait is its ADP, TAB, DATA and the number lent with its last octet." "TRF, TRB: DATA is noted on the same terms. All frames taken but
-- REC leave no wait." Those not taken "do no more".
unfoldable pub on_role : Role → Setup → Loan → Fields → List ℕ → Book → Book
on_role reading s loan f d b = with_wait no_wait b
on_role programming s loan f d b = with_wait (exchange f.adp f.tab d loan.na2) b
on_role authentication s loan f d b = authenticated b.wait s f (with_wait no_wait b)
on_role transfer s loan f d b = note s (transferred f.adp) f.tab d (with_wait no_wait b)
on_role broadcast_transfer s loan f d b = note s (by_broadcast f.adp) f.tab d (with_wait no_wait b)
on_role initialisation s loan f d b = with_wait no_wait b
on_role not_taken s loan f d b = b

-- a good frame, with what is lent with its last octet, its fields and its DATA
unfoldable pub on_frame : Command → Setup → Loan → Fields → List ℕ → Book → Book
on_frame k s loan f d b = on_role (role_of k s f) s loan f d b

-- "Octet, gap: by Receiving. Bad frames and those not taken do no more."
unfoldable pub heard_as : Outcome → Setup → Loan → Book → Book
heard_as silent_outcome s loan b = b
heard_as (dropped_outcome fault) s loan b = b
heard_as (complete_outcome command o) s loan b = on_frame command s loan (fields_of command o) (data_of command o) b

abbrev pub heard : Step → Setup → Loan → Book → Book
heard r s loan b = heard_as r.outcome s loan (with_receiver r.next b)

-- 17: "reply or frame buffer under 128 octets, .. a lent key or number not of 8 octets"
abbrev pub loan_refused : Loan → Bool
loan_refused loan = ltb loan.reply longest_frame || not (eqb (length loan.na2) number_width)

-- "Refused with 17: no step; 12 can't occur." "Session end: receiver empty, no wait." "Meter write: noted unless 10, 7, 8 or 9 applies."
unfoldable pub step : Setup → Book → Call → Book
step s b (octet_call o loan) = cond (loan_refused loan) b (heard (on_octet o b.receiver) s loan b)
step s b gap = with_receiver (on_gap b.receiver).next b
step s b session_end = with_receiver awaiting (with_wait no_wait b)
step s b (meter_write t d) = note s metered t d b

-- the book after further calls
unfoldable pub steps : Setup → Book → List Call → Book
steps s b [] = b
steps s b (k ∷ h) = steps s (step s b k) h

-- the book of a history from setup on
abbrev pub book_of : List ℕ → List ℕ → Records → List Call → Book
book_of address key given h = steps (setup_of address key given) (fresh given) h
