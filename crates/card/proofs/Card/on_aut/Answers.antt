-- `Card::on_aut` goes by the phase, then by the two tests of the AUT; the data that waits is a front part of the array.
use Prim.Native.Nat.{min}
use mathlib.Core.Path.{◌≡◌, refl, ap}
use native.Mathlib.Omega.{arith}
use lib.ListN.{length, take}
use Rattle.std.proofs.lemmas.List.{take_min}
use Rattle.octets.specs.Between.{between}
use Rattle.frame.specs.declared.content.Fields.{Fields}
use Rattle.frame.specs.Layout.{layout_of, within}
use Rattle.card.specs.declared.Phase.{Phase}
use Rattle.card.specs.declared.Card.{Card}
use Rattle.card.specs.Frames.{aut_in, on_aut}
use Rattle.card.proofs.Shape.{waiting_length}
use Rattle.card.proofs.Giving.{sent_by, gives_by, silent_by}
use Rattle.card.proofs.Card.on_aut.Goals as goal

in_its_phase : (c : Card) (f : Fields) (p : Phase) → c.exchange.phase ≡ p → on_aut c f ≡ aut_in p c f
unfolding on_aut
in_its_phase c f p e = ap (λ (q : Phase). aut_in q c f) e

pub returns-in_default : goal.returns-in_default
unfolding aut_in
returns-in_default c = gives_by (in_its_phase _ _ _ c.in_default.is) (silent_by _ _ _ _ _ c.unreplied.ensures refl)

pub send_bare-requires : goal.send_bare-requires
unfolding layout_of within between
send_bare-requires c = refl

pub returns-then-not-authentic : goal.returns-then-not-authentic
unfolding aut_in
returns-then-not-authentic c = let a = c.args in
    let tested = c.authentic in
    gives_by (in_its_phase a.self a.fields _ c.in-Waiting.is)
    (rw (← tested.ensures, c.if-not-authentic.true) (sent_by _ c.idle-card.ensures refl c.send_bare.ensures))

pub acknowledged-requires : goal.acknowledged-requires
unfolding layout_of within between
acknowledged-requires c = refl

pub returns : goal.returns
unfolding aut_in
returns c = let a = c.args in
    let tested = c.authentic in
    let n = c.in-Waiting.length.0 in
    let all : c.min-end.result ≡ min n (length a.self.exchange.content) = omega (arith, c.min-end.ensures, waiting_length a.self _ c.well_formed.0) in
    let front : take c.min-end.result a.self.exchange.content ≡ take n a.self.exchange.content = rw all (take_min n a.self.exchange.content) in
    gives_by (in_its_phase a.self a.fields _ c.in-Waiting.is)
    (rw (← tested.ensures, c.if-not-authentic.false, ← c.idle-card.ensures, ← front) c.acknowledged.ensures)
