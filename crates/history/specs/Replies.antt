-- The reply to a good frame and the number beside it, read off setup and the book alone: what a card that agrees with the book replies, and tells its host.
use Rattle.std.specs.Prelude.{ℕ, cond, ◌&&◌, List, [], eqb}
use Rattle.octets.specs.Part.{same}
use Rattle.des.specs.Des.{encipher}
use Rattle.numbers.specs.Table.{none, wrong_cipher}
use Rattle.numbers.specs.Answer.{Answer, given, refused, refused_at, number_of}
use Rattle.frame.specs.declared.codes.Command.{Command}
use Rattle.frame.specs.declared.codes.Command.TheVariants.{Dat, Ech, Eos, Drj, Arj, Tra}
use Rattle.frame.specs.declared.content.Fields.{Fields}
use Rattle.frame.specs.Building.{frame_octets}
use Rattle.records.specs.Finding.{find_readable}
use Rattle.records.specs.Writing.{grant}
use Rattle.card.specs.Loan.{Loan}
use Rattle.history.specs.Book.{Setup, Wait, no_wait, exchange, Book, programmed, transferred, by_broadcast, cause_of, Role, reading, programming, authentication, transfer, broadcast_transfer, initialisation, not_taken, role_of}

-- 01, The card: "the reply is DAT with the record, or the negative answer of 4.4.2 if it is missing (10) or not readable (11)"
abbrev pub read_reply : Answer ℕ → Fields → List ℕ → List ℕ
read_reply (given i) f d = frame_octets Dat f d
read_reply (refused n) f d = frame_octets Drj f []
read_reply (refused_at n offset) f d = frame_octets Drj f []

-- "written and TRA, or DRJ"; "DRJ with 10, 11, 7, 8 or 9, or the record is written and EOS sent"
abbrev pub write_reply : Answer ℕ → Command → Fields → List ℕ
write_reply (given i) done f = frame_octets done f []
write_reply (refused n) done f = frame_octets Drj f []
write_reply (refused_at n offset) done f = frame_octets Drj f []

-- "AUT with none waiting: no reply"; "if its ADP isn't the REC's or ZA2 isn't DES(Ki, NA2), ARJ (13)"
abbrev pub aut_reply : Wait → Setup → Fields → List ℕ
aut_reply no_wait s f = []
aut_reply (exchange adp tab d na2) s f =
    cond (eqb adp f.adp && same f.za2 (encipher s.key na2)) (write_reply (grant s.attributes (cause_of (programmed adp)) tab d) Eos f) (frame_octets Arj f [])

-- "ECH with ZA1 = DES(Ki, NA1), ZA2 = NA2, TAB and DATA echoed"
abbrev pub echoing : Setup → Loan → Fields → Fields
echoing s loan f =
    record { ads = f.ads; adp = f.adp; za1 = encipher s.key f.za1; za2 = loan.na2; tab = f.tab; announced = f.announced }

-- "TRB: .. no reply", "IB: no reply", "Other good frames get no reply"
unfoldable pub reply_as : Role → Setup → Book → Loan → Fields → List ℕ → List ℕ
reply_as reading s b loan f d = read_reply (find_readable s.attributes f.tab) f (b.noted f.tab)
reply_as programming s b loan f d = frame_octets Ech (echoing s loan f) d
reply_as authentication s b loan f d = aut_reply b.wait s f
reply_as transfer s b loan f d = write_reply (grant s.attributes (cause_of (transferred f.adp)) f.tab d) Tra f
reply_as broadcast_transfer s b loan f d = []
reply_as initialisation s b loan f d = []
reply_as not_taken s b loan f d = []

-- the octets of the reply to a good frame with these fields and DATA, and this loan with its last octet: none where there is no reply
unfoldable pub reply_to : Command → Setup → Book → Loan → Fields → List ℕ → List ℕ
reply_to k s b loan f d = reply_as (role_of k s f) s b loan f d

-- "ARJ (13)"; "Otherwise DRJ with 10, 11, 7, 8 or 9"
abbrev pub aut_number : Wait → Setup → Fields → ℕ
aut_number no_wait s f = none
aut_number (exchange adp tab d na2) s f =
    cond (eqb adp f.adp && same f.za2 (encipher s.key na2)) (number_of (grant s.attributes (cause_of (programmed adp)) tab d)) wrong_cipher

-- ENQ: "missing (10) or not readable (11)"; "TRB: written or dropped (10, 11, 7, 8, 9); no reply, but the number goes to the host."
unfoldable pub number_as : Role → Setup → Book → Fields → List ℕ → ℕ
number_as reading s b f d = number_of (find_readable s.attributes f.tab)
number_as programming s b f d = none
number_as authentication s b f d = aut_number b.wait s f
number_as transfer s b f d = number_of (grant s.attributes (cause_of (transferred f.adp)) f.tab d)
number_as broadcast_transfer s b f d = number_of (grant s.attributes (cause_of (by_broadcast f.adp)) f.tab d)
number_as initialisation s b f d = none
number_as not_taken s b f d = none

-- the number that the host is told of a good frame with these fields and DATA: 0 where the table has none
unfoldable pub number_to : Command → Setup → Book → Fields → List ℕ → ℕ
number_to k s b f d = number_as (role_of k s f) s b f d
