-- What a history grants, in the mission's words (00, demand 3).
use Rattle.std.specs.Prelude.{ℕ, ◌<◌, ◌≤◌, ◌≡◌, true, List, map, length}
use Rattle.des.specs.Des.{encipher}
use Rattle.label.specs.Utf8.{well_formed}
use Rattle.label.specs.Character.{characters}
use Rattle.frame.specs.declared.codes.Command.TheVariants.{Rec, Aut}
use Rattle.numbers.specs.Answer.{given}
use Rattle.frame.specs.Content.{fields_of}
use Rattle.frame.specs.Checks.{inspected}
use Rattle.records.specs.declared.Kind.TheVariants.{Raw, Label}
use Rattle.records.specs.declared.Kind.{Kind}
use Rattle.records.specs.declared.Attributes.{Attributes}
use Rattle.records.specs.declared.Records.{Records}
use Rattle.records.specs.Finding.{record_at}
use Rattle.card.specs.Events.{Call, octet_call}
use Rattle.card.specs.Feeding.{Handed, octets_in, last_loan}
use Rattle.history.specs.Book.{Setup, Cause, metered, programmed, transferred, by_broadcast}

-- "on a record open to it", "on an open record"; of a meter write no mark is asked
abbrev pub OpenTo : Cause → Attributes → Type 0
OpenTo metered a = Unit {0}
OpenTo (programmed adp) a = a.programming ≡ true
OpenTo (transferred adp) a = a.transfer ≡ true
OpenTo (by_broadcast adp) a = a.transfer ≡ true

-- a label is well-formed, and its characters are within the character limit
abbrev pub TextWithin : Kind → List ℕ → Type 0
TextWithin Raw d = Unit {0}
TextWithin (Label limit) d = (well_formed d ≡ true) × (length (characters d) ≤ limit.0)

-- "acceptable data" (00); 01, The card: "within the octet limit (7) and, for a label, well-formed UTF-8 (8) and within the character limit (9)"
pub record Acceptable (a : Attributes) (d : List ℕ) : Type 0 where
  pub within : length d ≤ a.limit.0
  pub text : TextWithin a.kind d

-- the record with this TAB among those that setup gave
pub record Named (first : Records) (t place : ℕ) : Type 0 where
  pub in_use : place < first.count
  pub tab : (record_at first place).attributes.tab ≡ t

-- a write that is granted, by setup's record alone
pub record Granted (first : Records) (cause : Cause) (t : ℕ) (d : List ℕ) (place : ℕ) : Type 0 where
  pub named : Named first t place
  pub opened : OpenTo cause (record_at first place).attributes
  pub acceptable : Acceptable (record_at first place).attributes d

-- the calls that hand a sending over, each octet with what is lent with it
abbrev pub calls_sending : List Handed → List Call
calls_sending x = map (λ h. octet_call h.octet h.loan) x

-- x is a programming frame and y an authentication, both to this card and from the same primary; y "carries the DES cipher, under the card's key, of
-- the number lent at the programming frame", which is that lent with its last octet
pub record Authentic (s : Setup) (x y : List Handed) : Type 0 where
  pub rec : inspected (octets_in x) ≡ given Rec
  pub aut : inspected (octets_in y) ≡ given Aut
  pub rec_own : (fields_of Rec (octets_in x)).ads ≡ s.address
  pub aut_own : (fields_of Aut (octets_in y)).ads ≡ s.address
  pub primary : (fields_of Rec (octets_in x)).adp ≡ (fields_of Aut (octets_in y)).adp
  pub cipher : (fields_of Aut (octets_in y)).za2 ≡ encipher s.key (last_loan x).na2
