-- What comes with a good frame's command: a frame as long as its N says, its command, and its octets at the front of the array.
use Prim.Native.Nat.{ℕ, ◌≤◌}
use mathlib.Core.Path.{◌≡◌, refl, sym, ap, ◌∙◌}
use mathlib.Core.Bool.{Bool, true, false, cond}
use mathlib.Core.List.{List, [], ◌∷◌, ◌++◌}
use native.Mathlib.Omega.{arith}
use lib.Dec.{ltb}
use lib.ListN.{length, get_or, take}
use borrow.Author.Tests.{ltb-false}
use mathlib.Core.Option.{some}
use Rattle.octets.specs.Splice.{fronted}
use Rattle.octets.proofs.Splice.{take-fronted}
use Rattle.numbers.specs.Answer.{Answer, given, refused, refused_at}
use Rattle.numbers.specs.declared.Octets.{Octets}
use Rattle.frame.specs.declared.codes.Command.{Command}
use Rattle.frame.specs.Checks.{stated_by, judged, inspected}
use Rattle.receiver.specs.declared.Receiver.{Receiver}
use Rattle.receiver.specs.Receiving.{Reception, awaiting, skipping, partial, Outcome, silent_outcome, dropped_outcome, complete_outcome, to, begun, grown, judged_outcome, verdict_on, on_octet, WholeFrame}
use Rattle.receiver.specs.Receiver.{most_held, Sound, reception_of, Response, answer_to, frame_of, no_frame, after_octet}
use Rattle.receiver.proofs.Growth.{first_snoc}
use Rattle.std.proofs.lemmas.List.{length_push}
use Rattle.receiver.proofs.Fronts.{front_first}
use Rattle.receiver.proofs.Soundness.{Partly, SoundReception, reception_sound}
use Rattle.receiver.proofs.Follows.{octet_follows}
use Rattle.receiver.proofs.Frames.{whole_inspected}
use Rattle.octets.proofs.Impossible.{impossible}

-- A good frame f that the octet o completes.
pub record Arrived (h : Reception) (o : ℕ) (c : Command) (f : List ℕ) : Type 0 where
  pub outcome : (on_octet o h).outcome ≡ complete_outcome c f
  pub whole : WholeFrame f
  pub good : inspected f ≡ given c

judged_good : (v : Answer Command) (s f : List ℕ) (c : Command) → judged_outcome v s ≡ complete_outcome c f → (v ≡ given c) × (s ≡ f)
unfolding judged_outcome
judged_good (given d) s f c e = (cc, cc)
judged_good (refused number) s f c e = impossible (cc)
judged_good (refused_at number offset) s f c e = impossible (cc)

begun_unfinished : {X : Type 0} (s : Answer Octets) (o : ℕ) (c : Command) (f : List ℕ) → (begun s o).outcome ≡ complete_outcome c f → X
unfolding begun
begun_unfinished (given w) o c f e = impossible (cc)
begun_unfinished (refused number) o c f e = impossible (cc)
begun_unfinished (refused_at number offset) o c f e = impossible (cc)

-- a good frame is complete with the octets s
record GoodWith (s : List ℕ) (c : Command) (f : List ℕ) : Type 0 where
  come : get_or s 0 0 ≤ length s
  good : judged s ≡ given c
  same : s ≡ f

grown_good : (s : List ℕ) (c : Command) (f : List ℕ) → (grown s).outcome ≡ complete_outcome c f → GoodWith s c f
unfolding grown
grown_good s c f = go (ltb (length s) (get_or s 0 0)) refl
  where
    go : (b : Bool) → ltb (length s) (get_or s 0 0) ≡ b → (cond b (to (partial s) silent_outcome) (to awaiting (verdict_on s))).outcome ≡ complete_outcome c f → GoodWith s c f
    go true p e = impossible (cc)
    go false p e =
        let g = judged_good (judged s) s f c e in
        record { come = ltb-false _ _ p; good = g.0; same = g.1 }

snoc_whole : (s : List ℕ) (o : ℕ) → Partly s → get_or (s ++ (o ∷ [])) 0 0 ≤ length (s ++ (o ∷ [])) → WholeFrame (s ++ (o ∷ []))
snoc_whole s o t h =
    let n = first_snoc s o t.some in
    let l = length_push s o in
    record { least = omega (arith, t.unfinished); most = omega (arith, t.unfinished); stated = omega (arith, t.unfinished) }

pub completes : (h : Reception) (o : ℕ) (c : Command) (f : List ℕ) → SoundReception h → (on_octet o h).outcome ≡ complete_outcome c f → Arrived h o c f
unfolding on_octet
completes awaiting o c f t e = begun_unfinished (stated_by o) o c f e
completes skipping o c f t e = impossible (cc)
completes (partial s) o c f t e =
    let g = grown_good (s ++ (o ∷ [])) c f e in
    let w = snoc_whole s o t g.come in
    record { outcome = e; whole = rw g.same at w; good = rw g.same at (whole_inspected _ w ∙ g.good) }

-- the octets of a whole frame, taken from the array by its first octet, N
pub frame_octets : (f : List ℕ) → WholeFrame f → take (get_or (fronted f no_frame) 0 0) (fronted f no_frame) ≡ f
frame_octets f w =
    rw (front_first f no_frame (omega (arith, w.least)), w.stated) (take-fronted f no_frame)

answer_good : (u : Outcome) (c : Command) → answer_to u ≡ given (some c) → (f : List ℕ) × (u ≡ complete_outcome c f)
unfolding answer_to
answer_good silent_outcome c e = impossible (cc)
answer_good (dropped_outcome number) c e = impossible (cc)
answer_good (complete_outcome d f) c e = (f, cc)

-- What a caller has beside a good frame's command: the frame f, and where its octets are.
pub record Handed (r : Receiver) (o : ℕ) (c : Command) : Type 0 where
  pub octets : List ℕ
  pub arrived : Arrived (reception_of r) o c octets
  pub frame : (after_octet r o).frame ≡ fronted octets no_frame
  pub taken : take (get_or (after_octet r o).frame 0 0) (after_octet r o).frame ≡ octets

pub good_handed : (r : Receiver) (o : ℕ) (c : Command) → Sound r → length r.octets ≡ most_held → (after_octet r o).answer ≡ given (some c) → Handed r o c
unfolding frame_of
good_handed r o c s l e =
    let a = (octet_follows r o s l).answer in
    let u = answer_good (on_octet o (reception_of r)).outcome c (sym (ap (λ (a : Response). a.answer) a) ∙ e) in
    let w = completes (reception_of r) o c u.0 (reception_sound r s l) u.1 in
    let g = ap (λ (a : Response). a.frame) a ∙ ap frame_of u.1 in
    let t = ap (λ (l : List ℕ). take (get_or l 0 0) l) g ∙ frame_octets u.0 w.whole in
    record { octets = u.0; arrived = w; frame = g; taken = t }
