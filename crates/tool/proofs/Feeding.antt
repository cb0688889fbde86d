-- A tool is given a good frame octet for octet: silence until the last, which does what the frame does. Of the tool only the receiver changes on the way.
use Prim.Native.Nat.{ℕ, zero, suc, ◌≤◌, ◌-◌}
use mathlib.Core.Path.{◌≡◌, refl, ap, ◌∙◌}
use mathlib.Core.List.{List, [], ◌∷◌, ◌++◌}
use lib.ListN.{length}
use borrow.Author.Tests.{le-leb}
use Rattle.octets.proofs.Impossible.{impossible}
use Rattle.frame.specs.declared.codes.Command.{Command}
use Rattle.numbers.specs.Answer.{given}
use Rattle.frame.specs.Checks.{inspected}
use Rattle.frame.specs.Content.{fields_of, data_of}
use Rattle.receiver.specs.declared.Receiver.{Receiver}
use Rattle.receiver.specs.Receiving.{awaiting, complete_outcome, Course, on_octet, on_octets, on_gap}
use Rattle.receiver.specs.Receiver.{reception_of}
use Rattle.receiver.proofs.Frames.{ending_in, good_frame}
use Rattle.receiver.proofs.Feeding.{first_more, none_end, still_awaiting}
use Rattle.tool.specs.declared.Tool.{Tool}
use Rattle.frame.specs.Sizes.{longest_frame}
use Rattle.tool.specs.Parts.{with_receiver, Response, silent}
use Rattle.tool.specs.Replies.{on_frame}
use Rattle.tool.specs.Events.{octet_call, gap, heard_as, after, after_octet, after_gap}
use Rattle.tool.specs.Feeding.{Handed, octets_in, AllEnough, responses_to}
use Rattle.tool.proofs.Sound.{sound_test}
use Rattle.tool.proofs.Courses.{moved}
use Rattle.tool.proofs.StaysSound.{Whole, moved_whole, moved_reception}

-- the octets s that are still to come complete the frame f with the command k, with n octets before the last
abbrev pub Coming : Tool → List ℕ → ℕ → Command → List ℕ → Type 0
Coming t s n k f = on_octets s (reception_of t.receiver) ≡ ending_in n (complete_outcome k f)

-- an octet that is not the last
pub record More (t : Tool) (s : List ℕ) (n : ℕ) (k : Command) (f : List ℕ) (r : Response) : Type 0 where
  pub receiver : Receiver
  pub response : r ≡ silent (with_receiver receiver t)
  pub whole : Whole (with_receiver receiver t)
  pub coming : Coming (with_receiver receiver t) s n k f

-- the last octet
pub record Last (t : Tool) (s : List ℕ) (k : Command) (f : List ℕ) (r : Response) : Type 0 where
  pub none : s ≡ []
  pub receiver : Receiver
  pub empty : reception_of receiver ≡ awaiting
  pub whole : Whole (with_receiver receiver t)
  pub response : r ≡ on_frame (with_receiver receiver t) k (fields_of k f) (data_of k f)

module _ (l : ℕ) (enough : longest_frame ≤ l) (t : Tool) (h : Whole t) (o : ℕ) where
  octet_heard : after t (octet_call o l) ≡ heard_as (on_octet o (reception_of t.receiver)).outcome (moved (octet_call o l) t)
  unfolding after after_octet
  octet_heard = rw (le-leb longest_frame l enough, sound_test t h.sound)

  module _ (s : List ℕ) (k : Command) (f : List ℕ) where
    pub octet_more : (n : ℕ) → Coming t (o ∷ s) (suc n) k f → More t s n k f (after t (octet_call o l))
    unfolding on_octets heard_as
    octet_more n e =
        let r = reception_of t.receiver in
        let went = first_more (on_octet o r).outcome (on_octets s (on_octet o r).next) n (complete_outcome k f) e in
        record {
          receiver = (moved (octet_call o l) t).receiver;
          response = octet_heard ∙ rw went.0;
          whole = moved_whole (octet_call o l) t h;
          coming = ap (on_octets s) (moved_reception (octet_call o l) t h) ∙ went.1;
        }

    pub octet_last : Coming t (o ∷ s) zero k f → Last t s k f (after t (octet_call o l))
    unfolding on_octets heard_as
    octet_last e = by s e
      where
        by : (s : List ℕ) → Coming t (o ∷ s) zero k f → Last t s k f (after t (octet_call o l))
        by (p ∷ s) e = impossible (let z = ap (λ (z : Course). z.outcomes) e in cc)
        by [] e =
            let r = reception_of t.receiver in
            let all : (on_octet o r).outcome ∷ [] ≡ complete_outcome k f ∷ [] = ap (λ (z : Course). z.outcomes) e in
            let out : (on_octet o r).outcome ≡ complete_outcome k f = cc in
            record {
              none = refl;
              receiver = (moved (octet_call o l) t).receiver;
              empty = moved_reception (octet_call o l) t h ∙ ap (λ (z : Course). z.last) e;
              whole = moved_whole (octet_call o l) t h;
              response = octet_heard ∙ rw out;
            }

-- every response is silence
abbrev pub AllSilent : List Response → Type 0
AllSilent [] = Unit {0}
AllSilent (r ∷ rs) = (r ≡ silent r.tool) × AllSilent rs

-- The octets s of a frame f with the command k, given to the tool t: silence, and at the last octet what the frame does, with an empty receiver.
pub record FrameHeard (t : Tool) (s : List Handed) (k : Command) (f : List ℕ) : Type 0 where
  pub receiver : Receiver
  pub empty : reception_of receiver ≡ awaiting
  pub whole : Whole (with_receiver receiver t)
  pub before : List Response
  pub quiet : AllSilent before
  pub responses : responses_to t s ≡ before ++ (on_frame (with_receiver receiver t) k (fields_of k f) (data_of k f) ∷ [])

rest_heard : (n : ℕ) (s : List Handed) → AllEnough s → (k : Command) (f : List ℕ) (t : Tool) → Whole t → Coming t (octets_in s) n k f → FrameHeard t s k f
unfolding responses_to
rest_heard n [] all k f t h e = none_end n (reception_of t.receiver) (complete_outcome k f) e
rest_heard zero (x ∷ []) all k f t h e =
    let last = octet_last x.buffer_length all.0 t h x.octet [] k f e in
    record { receiver = last.receiver; empty = last.empty; whole = last.whole; before = []; quiet = tt; responses = rw last.response }
rest_heard zero (x ∷ y ∷ s) all k f t h e =
    impossible (let z = (octet_last x.buffer_length all.0 t h x.octet (octets_in (y ∷ s)) k f e).none in cc)
rest_heard (suc n) (x ∷ s) all k f t h e =
    let more = octet_more x.buffer_length all.0 t h x.octet (octets_in s) k f n e in
    let rest = rest_heard n s all.1 k f (with_receiver more.receiver t) more.whole more.coming in
    record {
      receiver = rest.receiver;
      empty = rest.empty;
      whole = rest.whole;
      before = silent (with_receiver more.receiver t) ∷ rest.before;
      quiet = (refl, rest.quiet);
      responses = rw more.response (ap (λ (l : List Response). silent (with_receiver more.receiver t) ∷ l) rest.responses);
    }

-- a whole good frame, to a tool between frames
pub frame_heard : (s : List Handed) → AllEnough s → (k : Command) → inspected (octets_in s) ≡ given k → (t : Tool) → Whole t → reception_of t.receiver ≡ awaiting → FrameHeard t s k (octets_in s)
frame_heard s all k good t h empty =
    rest_heard (length (octets_in s) - 1) s all k (octets_in s) t h (ap (on_octets (octets_in s)) empty ∙ good_frame (octets_in s) k good)

-- "A gap between frames does nothing."
pub gap_between : (t : Tool) → Whole t → reception_of t.receiver ≡ awaiting → after t gap ≡ silent t
unfolding after after_gap on_gap heard_as
gap_between t h e = rw (sound_test t h.sound, e) (ap (λ (r : Receiver). silent (with_receiver r t)) (still_awaiting t.receiver e))
