-- Which good frames a card takes (01, The card).
use Rattle.std.specs.Prelude.{ℕ, Bool, List, Option, None}
use Rattle.std.specs.Bool.{then_some}
use Rattle.octets.specs.Part.{same}
use Rattle.frame.specs.Addresses.{broadcast}
use Rattle.frame.specs.declared.codes.Command.{Command}
use Rattle.frame.specs.declared.codes.Command.TheVariants.{Enq, Dat, Rec, Ech, Aut, Eos, Aso, Rso, Ib, Drj, Arj, Trf, Trb, Tra, Pre, Sel}
use Rattle.card.specs.declared.taking.Taken.{Taken}
use Rattle.card.specs.declared.taking.Taken.TheVariants as taking

-- "Other good frames get no reply and change nothing"
abbrev pub taken_if : Bool → Taken → Option Taken
taken_if addressed taken = then_some addressed taken

-- "The card takes ENQ, REC, AUT and TRF with its own address, and TRB and IB with a broadcast address."
unfoldable pub taken_for : List ℕ → Command → List ℕ → Option Taken
taken_for own Enq ads = taken_if (same ads own) taking.Enq
taken_for own Rec ads = taken_if (same ads own) taking.Rec
taken_for own Aut ads = taken_if (same ads own) taking.Aut
taken_for own Trf ads = taken_if (same ads own) taking.Trf
taken_for own Trb ads = taken_if (broadcast ads) taking.Trb
taken_for own Ib ads = taken_if (broadcast ads) taking.Ib
taken_for own Dat ads = None
taken_for own Ech ads = None
taken_for own Eos ads = None
taken_for own Aso ads = None
taken_for own Rso ads = None
taken_for own Drj ads = None
taken_for own Arj ads = None
taken_for own Tra ads = None
taken_for own Pre ads = None
taken_for own Sel ads = None
