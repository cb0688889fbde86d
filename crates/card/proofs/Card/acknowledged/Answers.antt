-- `Card::acknowledged` sends the acknowledgement that the write's answer calls for.
use Prim.Native.Nat.{ℕ, zero, suc}
use mathlib.Core.Path.{◌≡◌, refl}
use mathlib.Core.Bool.{true}
use Rattle.frame.specs.declared.codes.Command.{Command}
use Rattle.octets.specs.Between.{between}
use Rattle.frame.specs.Layout.{layout_of, within}
use Rattle.card.specs.Numbers.{answer_number}
use Rattle.card.specs.Frames.{acknowledgement, acknowledged}
use Rattle.card.proofs.Giving.{sent_by}
use Rattle.card.proofs.Card.acknowledged.Goals as goal

-- an acknowledgement has no DATA, where the frame for a granted write has none
bare : (n : ℕ) (granted : Command) → within (layout_of granted) 0 ≡ true → within (layout_of (acknowledgement n granted)) 0 ≡ true
unfolding layout_of within between
bare zero granted h = h
bare (suc n) granted h = refl

pub send_bare-sent-requires : goal.send_bare-sent-requires
send_bare-sent-requires c =
    rw c.acknowledgement.ensures (bare (answer_number c.written-done.result.answer) c.args.granted c.requires)

pub returns : goal.returns
unfolding acknowledged
returns c = let w = c.written-done.ensures in
    sent_by _ w.card w.number (rw (c.acknowledgement.ensures, w.number) at c.send_bare-sent.ensures)
