-- Which reception a receiver holds, told by its mark and its count, and what an event then gives.
use mathlib.Core.Path.{◌≡◌, sym}
use mathlib.Core.Bool.{true, false}
use lib.ListN.{take}
use borrow.Author.Tests.{eq-eqb, ne_eqb}
use Rattle.receiver.specs.declared.Receiver.{Receiver}
use Rattle.receiver.specs.Receiving.{Reception, awaiting, skipping, partial, Step}
use Rattle.receiver.specs.Receiver.{sound, reception_of, holding, stepped, broken, answered_by}

pub reception_skipping : (r : Receiver) → r.skipping ≡ true → reception_of r ≡ skipping
unfolding reception_of
reception_skipping r e = rw e

pub reception_awaiting : (r : Receiver) → r.skipping ≡ false → r.count.0 ≡ 0 → reception_of r ≡ awaiting
unfolding reception_of
reception_awaiting r e z = rw (e, eq-eqb _ _ z)

pub reception_partial : (r : Receiver) → r.skipping ≡ false → (r.count.0 ≡ 0 → ⊥) → reception_of r ≡ partial (take r.count.0 r.octets)
unfolding reception_of
reception_partial r e z = rw (e, ne_eqb _ _ z)

pub still_skipping : (r : Receiver) → r.skipping ≡ true → holding skipping r ≡ r
unfolding holding
still_skipping r e = λ i. record { skipping = sym e i; count = r.count; octets = r.octets }

pub sound_answered : (f : Reception → Step) (r : Receiver) (h : Reception) → sound r ≡ true → reception_of r ≡ h → answered_by f r ≡ stepped r (f h)
sound_answered f r h s e = rw (s, e)

pub unsound_answered : (f : Reception → Step) (r : Receiver) → sound r ≡ false → answered_by f r ≡ broken r
unsound_answered f r s = rw s
