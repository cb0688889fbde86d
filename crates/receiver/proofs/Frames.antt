-- Whole frames and skipped octets, octet for octet.
use Prim.Native.Nat.{ℕ, suc, ◌+◌, ◌-◌, ◌<◌}
use mathlib.Core.Path.{◌≡◌, refl, sym, ap, ◌∙◌}
use mathlib.Core.List.{List, [], ◌∷◌, ◌++◌}
use native.Mathlib.Omega.{arith}
use lib.ListN.{length, get_or, replicate}
use lib.Seq.{append_snoc}
use borrow.Author.Tests.{eq-eqb}
use Rattle.frame.specs.declared.codes.Command.{Command}
use Rattle.numbers.specs.Table.{length_out_of_range}
use Rattle.numbers.specs.Answer.{given, refused, when_given}
use Rattle.frame.specs.Checks.{stated_by, judged, inspected, inspected_as}
use Rattle.frame.proofs.GoodFrame.{inspected_good}
use Rattle.receiver.specs.Receiving.{Reception, awaiting, skipping, partial, Outcome, silent_outcome, dropped_outcome, complete_outcome, Course, leading_with, to, begun, judged_outcome, verdict_on, on_octet, on_octets, WholeFrame}
use Rattle.std.proofs.lemmas.List.{length_push}
use Rattle.receiver.proofs.Growth.{grown_more, grown_whole, first_snoc}
use Rattle.receiver.proofs.Stated.{stated_whole}

-- silence, then one outcome, and the next octet is an N
abbrev pub ending_in : ℕ → Outcome → Course
ending_in n o = record { outcomes = replicate n silent_outcome ++ (o ∷ []); last = awaiting }

step : (o : ℕ) (s : List ℕ) (h k : Reception) (u : Outcome) → on_octet o h ≡ to k u → on_octets (o ∷ s) h ≡ leading_with u (on_octets s k)
unfolding on_octets
step o s h k u e = rw e

-- octets after others go on from what those leave: no gap is needed between two frames
pub octets_append : (s t : List ℕ) (h : Reception) → on_octets (s ++ t) h ≡ record { outcomes = (on_octets s h).outcomes ++ (on_octets t (on_octets s h).last).outcomes; last = (on_octets t (on_octets s h).last).last }
unfolding on_octets
octets_append [] t h = refl
octets_append (o ∷ s) t h = ap (leading_with (on_octet o h).outcome) (octets_append s t (on_octet o h).next)

rest_of_frame : (t : List ℕ) (s : List ℕ) (o : ℕ) → 0 < length s → get_or s 0 0 ≡ length s + suc (length t) → on_octets (o ∷ t) (partial s) ≡ ending_in (length t) (verdict_on (s ++ o ∷ t))
unfolding on_octets on_octet
rest_of_frame [] s o p e =
    let n = first_snoc s o p in
    rw (grown_whole (s ++ (o ∷ [])) (omega (arith, length_push s o)))
rest_of_frame (q ∷ t) s o p e =
    let n = first_snoc s o p in
    let l = length_push s o in
    let next = step o (q ∷ t) (partial s) (partial (s ++ (o ∷ []))) silent_outcome (grown_more (s ++ (o ∷ [])) (omega arith)) in
    let rest = rest_of_frame t (s ++ (o ∷ [])) q (omega arith) (omega arith) in
    next ∙ ap (leading_with silent_outcome) (rw (append_snoc s o (q ∷ t)) at rest)

-- a complete frame, good or bad, gives its one outcome at its last octet, and the next octet is an N
pub whole_frame : (f : List ℕ) → WholeFrame f → on_octets f awaiting ≡ ending_in (length f - 1) (verdict_on f)
unfolding on_octet begun
whole_frame [] w = absurd (omega (arith, w.least))
whole_frame (n ∷ []) w = absurd (omega (arith, w.least))
whole_frame (n ∷ o ∷ t) w =
    let e = w.stated in
    let k : suc (suc (length t)) - 1 ≡ suc (length t) = omega arith in
    let in_range = stated_whole n (omega (arith, w.least)) (omega (arith, w.most)) in
    let first = step n (o ∷ t) awaiting (partial (n ∷ [])) silent_outcome (rw in_range) in
    rw k (first ∙ ap (leading_with silent_outcome) (rest_of_frame t (n ∷ []) o (omega arith) (omega arith)))

-- a slice is a good frame where its whole length has come and its checks pass
pub whole_inspected : (f : List ℕ) → WholeFrame f → inspected f ≡ judged f
unfolding inspected inspected_as when_given
whole_inspected [] w = absurd (omega (arith, w.least))
whole_inspected (n ∷ t) w =
    let e = w.stated in
    let in_range = stated_whole n (omega (arith, w.least)) (omega (arith, w.most)) in
    rw (in_range, eq-eqb (length (n ∷ t)) n (omega arith))

pub good_whole : (f : List ℕ) (c : Command) → inspected f ≡ given c → WholeFrame f
good_whole f c e =
    let g = inspected_good f c e in
    record { least = g.least; most = g.most; stated = g.n }

-- a good frame comes out at its last octet, with silence before it
pub good_frame : (f : List ℕ) (c : Command) → inspected f ≡ given c → on_octets f awaiting ≡ ending_in (length f - 1) (complete_outcome c f)
unfolding judged_outcome
good_frame f c e =
    let w = good_whole f c e in
    whole_frame f w ∙ ap (λ v. ending_in (length f - 1) (judged_outcome v f)) (sym (whole_inspected f w) ∙ e)

silent : (s : List ℕ) → on_octets s skipping ≡ record { outcomes = replicate (length s) silent_outcome; last = skipping }
unfolding on_octets on_octet
silent [] = refl
silent (o ∷ s) = rw (silent s)

-- 1 at the bad N itself, and nothing for the octets after it
pub skipped : (n : ℕ) (s : List ℕ) → stated_by n ≡ refused length_out_of_range → on_octets (n ∷ s) awaiting ≡ record { outcomes = dropped_outcome length_out_of_range ∷ replicate (length s) silent_outcome; last = skipping }
unfolding on_octets on_octet begun
skipped n s e = rw (e, silent s)
