-- Whatever has come, a gap or a session end makes the receiver ready: the next octet is an N, and a good frame after it is heard whole.
use Prim.Native.Nat.{ℕ, ◌-◌}
use mathlib.Core.Path.{◌≡◌, refl, ap, ◌∙◌}
use mathlib.Core.List.{List}
use lib.ListN.{length}
use Rattle.frame.specs.declared.codes.Command.{Command}
use Rattle.numbers.specs.Answer.{given}
use Rattle.frame.specs.Checks.{inspected}
use Rattle.receiver.specs.declared.Receiver.{Receiver}
use Rattle.receiver.specs.Receiving.{Reception, awaiting, skipping, partial, complete_outcome, on_octets, on_gap, on_session_end}
use Rattle.receiver.specs.Receiver.{most_held, Sound, after_gap, after_session_end}
use Rattle.receiver.proofs.Follows.{gap_follows, session_end_follows}
use Rattle.receiver.proofs.Frames.{ending_in, good_frame}
use Rattle.receiver.proofs.Feeding.{Delivered, good_frame_delivered}

pub gap_awaits : (h : Reception) → (on_gap h).next ≡ awaiting
unfolding on_gap
gap_awaits awaiting = refl
gap_awaits skipping = refl
gap_awaits (partial s) = refl

pub session_end_awaits : (h : Reception) → (on_session_end h).next ≡ awaiting
unfolding on_session_end
session_end_awaits h = refl

-- after a gap, also one that ends a run of skipped octets or cuts a frame
pub frame_after_gap : (h : Reception) (f : List ℕ) (c : Command) → inspected f ≡ given c → on_octets f (on_gap h).next ≡ ending_in (length f - 1) (complete_outcome c f)
frame_after_gap h f c e = ap (on_octets f) (gap_awaits h) ∙ good_frame f c e

pub Delivered-after_gap : (r : Receiver) (f : List ℕ) (c : Command) → Sound r → length r.octets ≡ most_held → inspected f ≡ given c → Delivered (after_gap r).receiver f c
Delivered-after_gap r f c s l e =
    let g = gap_follows r s l in
    good_frame_delivered (after_gap r).receiver f c (g.reception ∙ gap_awaits _) g.long e

pub Delivered-after_session_end : (r : Receiver) (f : List ℕ) (c : Command) → Sound r → length r.octets ≡ most_held → inspected f ≡ given c → Delivered (after_session_end r).receiver f c
Delivered-after_session_end r f c s l e =
    let g = session_end_follows r s l in
    good_frame_delivered (after_session_end r).receiver f c (g.reception ∙ session_end_awaits _) g.long e
