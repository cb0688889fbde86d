-- Octets given one after the other to a sound receiver: it follows the rule's own course, and a good frame comes out at its last octet.
use Prim.Native.Nat.{ℕ, zero, suc, ◌-◌}
use mathlib.Core.Path.{◌≡◌, refl, sym, ap, ap₂, ◌∙◌}
use mathlib.Core.List.{List, [], ◌∷◌, ◌++◌, map}
use mathlib.Core.Bool.{Bool, true, false, cond}
use lib.Dec.{eqb}
use lib.ListN.{length, replicate, take}
use borrow.Author.Tests.{eqb-true}
use Rattle.octets.proofs.Impossible.{impossible}
use Rattle.octets.specs.Splice.{fronted}
use Rattle.frame.specs.declared.codes.Command.{Command}
use mathlib.Core.Option.{Option, none, some}
use Rattle.numbers.specs.Answer.{Answer, given}
use Rattle.frame.specs.Checks.{inspected}
use Rattle.receiver.specs.declared.Receiver.{Receiver}
use Rattle.receiver.specs.Receiving.{Reception, awaiting, skipping, partial, Outcome, silent_outcome, complete_outcome, Course, leading_with, on_octets}
use Rattle.receiver.specs.Receiver.{most_held, Sound, reception_of, holding, Response, answer_to, frame_of, no_frame, after_octet, after_octets, left_by}
use Rattle.receiver.proofs.Soundness.{empty_sound}
use Rattle.receiver.proofs.Follows.{octet_follows}
use Rattle.receiver.proofs.Frames.{ending_in, good_frame}

abbrev pub answers_of : List Response → List (Answer (Option Command))
answers_of = map (λ (a : Response). a.answer)

abbrev pub frames_of : List Response → List (List ℕ)
frames_of = map (λ (a : Response). a.frame)

-- The answers to the octets s, and the receiver that they leave.
pub record Fed (s : List ℕ) (r : Receiver) : Type 0 where
  pub answers : answers_of (after_octets r s) ≡ map answer_to (on_octets s (reception_of r)).outcomes
  pub frames : frames_of (after_octets r s) ≡ map frame_of (on_octets s (reception_of r)).outcomes
  pub sound : Sound (left_by r s)
  pub long : length (left_by r s).octets ≡ most_held
  pub reception : reception_of (left_by r s) ≡ (on_octets s (reception_of r)).last

pub octets_follow : (s : List ℕ) (r : Receiver) → Sound r → length r.octets ≡ most_held → Fed s r
unfolding after_octets left_by on_octets
octets_follow [] r h l = record { answers = refl; frames = refl; sound = h; long = l; reception = refl }
octets_follow (o ∷ s) r h l =
    let f = octet_follows r o h l in
    let rest = octets_follow s (after_octet r o).receiver f.sound f.long in
    record {
      answers = ap₂ ◌∷◌ (ap (λ (a : Response). a.answer) f.answer) (rest.answers ∙ ap (λ (k : Reception). map answer_to (on_octets s k).outcomes) f.reception);
      frames = ap₂ ◌∷◌ (ap (λ (a : Response). a.frame) f.answer) (rest.frames ∙ ap (λ (k : Reception). map frame_of (on_octets s k).outcomes) f.reception);
      sound = rest.sound;
      long = rest.long;
      reception = rest.reception ∙ ap (λ (k : Reception). (on_octets s k).last) f.reception;
    }

pub answers_append : (s t : List ℕ) (r : Receiver) → after_octets r (s ++ t) ≡ after_octets r s ++ after_octets (left_by r s) t
unfolding after_octets left_by
answers_append [] t r = refl
answers_append (o ∷ s) t r = ap (λ l. after_octet r o ∷ l) (answers_append s t (after_octet r o).receiver)

pub left_append : (s t : List ℕ) (r : Receiver) → left_by r (s ++ t) ≡ left_by (left_by r s) t
unfolding left_by
left_append [] t r = refl
left_append (o ∷ s) t r = left_append s t (after_octet r o).receiver

map_ending : {X : Type 0} (g : Outcome → X) (n : ℕ) (o : Outcome) → map g (replicate n silent_outcome ++ (o ∷ [])) ≡ replicate n (g silent_outcome) ++ (g o ∷ [])
map_ending g zero o = refl
map_ending g (suc n) o = ap (λ l. g silent_outcome ∷ l) (map_ending g n o)

-- The octets of the good frame f with the command c, given to an empty receiver: exactly one answer that is not empty, at the last octet, with the frame beside
-- it, and the receiver is empty again.
pub record Delivered (r : Receiver) (f : List ℕ) (c : Command) : Type 0 where
  pub answers : answers_of (after_octets r f) ≡ replicate (length f - 1) (given none) ++ (given (some c) ∷ [])
  pub frames : frames_of (after_octets r f) ≡ replicate (length f - 1) no_frame ++ (fronted f no_frame ∷ [])
  pub empty : reception_of (left_by r f) ≡ awaiting

pub good_frame_delivered : (r : Receiver) (f : List ℕ) (c : Command) → reception_of r ≡ awaiting → length r.octets ≡ most_held → inspected f ≡ given c → Delivered r f c
unfolding answer_to frame_of
good_frame_delivered r f c e l j =
    let d = octets_follow f r (empty_sound r e) l in
    let course = ap (on_octets f) e ∙ good_frame f c j in
    record {
      answers = d.answers ∙ ap (λ k. map answer_to k.outcomes) course ∙ map_ending answer_to (length f - 1) (complete_outcome c f);
      frames = d.frames ∙ ap (λ k. map frame_of k.outcomes) course ∙ map_ending frame_of (length f - 1) (complete_outcome c f);
      empty = d.reception ∙ ap (λ k. k.last) course;
    }

-- the first outcome of octets that end in one, and the others
pub first_more : (u : Outcome) (x : Course) (n : ℕ) (y : Outcome) → leading_with u x ≡ ending_in (suc n) y → (u ≡ silent_outcome) × (x ≡ ending_in n y)
first_more u x n y e =
    let all : u ∷ x.outcomes ≡ silent_outcome ∷ (replicate n silent_outcome ++ (y ∷ [])) = ap (λ (z : Course). z.outcomes) e in
    let rest : x.outcomes ≡ replicate n silent_outcome ++ (y ∷ []) = cc in
    let end : x.last ≡ awaiting = ap (λ (z : Course). z.last) e in
    (cc, λ i. record { outcomes = rest i; last = end i })

-- no octets end in no outcome
pub none_end : {X : Type 0} (n : ℕ) (h : Reception) (y : Outcome) → on_octets [] h ≡ ending_in n y → X
unfolding on_octets
none_end zero h y e = impossible (let z : ◌≡◌ {A = List Outcome} [] (y ∷ []) = ap (λ (z : Course). z.outcomes) e in cc)
none_end (suc n) h y e = impossible (let z = ap (λ (z : Course). z.outcomes) e in cc)

-- "A gap between frames does nothing": an empty receiver stays as it is
pub still_awaiting : (r : Receiver) → reception_of r ≡ awaiting → holding awaiting r ≡ r
unfolding reception_of holding
still_awaiting r = go r.skipping refl (eqb r.count.0 0) refl
  where
    go : (b : Bool) → r.skipping ≡ b → (t : Bool) → eqb r.count.0 0 ≡ t → cond b skipping (cond t awaiting (partial (take r.count.0 r.octets))) ≡ awaiting
        → record { skipping = false; count = record { 0 = 0 }; octets = r.octets } ≡ r
    go true p t q e = impossible (cc)
    go false p false q e = impossible (cc)
    go false p true q e = let z = eqb-true _ _ q in λ i. record { skipping = sym p i; count = record { 0 = sym z i }; octets = r.octets }
