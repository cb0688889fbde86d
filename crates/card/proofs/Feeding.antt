-- A card is given a good frame octet for octet, each octet with a loan of its own: silence until the last octet, which does what the frame does with
-- the loan of that octet. Of the card only the receiver changes on the way.
use Prim.Native.Nat.{ℕ, zero, suc, ◌-◌}
use mathlib.Core.Path.{◌≡◌, refl, ap, ◌∙◌}
use mathlib.Core.List.{List, [], ◌∷◌, ◌++◌, append-nil}
use lib.ListN.{length, replicate}
use borrow.Author.Tests.{eq-eqb, le-leb}
use Rattle.octets.proofs.Impossible.{impossible}
use Rattle.frame.specs.declared.codes.Command.{Command}
use Rattle.numbers.specs.Answer.{given}
use Rattle.frame.specs.Sizes.{longest_frame, number_width}
use Rattle.frame.specs.Checks.{inspected}
use Rattle.frame.specs.Content.{fields_of, data_of}
use Rattle.receiver.specs.Receiving.{awaiting, Outcome, silent_outcome, complete_outcome, Course, on_octet, on_octets, on_gap}
use Rattle.receiver.specs.Receiving as receiving
use Rattle.receiver.specs.declared.Receiver.{Receiver}
use Rattle.receiver.specs.Receiver.{reception_of}
use Rattle.receiver.proofs.Soundness.{reception_sound, holding_reception, still_awaiting}
use Rattle.receiver.proofs.Follows.{octet_keeps}
use Rattle.receiver.proofs.Frames.{ending_in, good_frame}
use Rattle.card.specs.declared.Card.{Card}
use Rattle.card.specs.Loan.{Loan, Usable}
use Rattle.card.specs.Parts.{with_receiver, Response, silent}
use Rattle.card.specs.Frames.{on_frame}
use Rattle.card.specs.Events.{octet_call, after_step, heard_as, heard, after_octet, after_gap, after}
use Rattle.card.specs.Feeding.{Handed, octets_in, last_loan, AllUsable, listed, fed, hearing}
use Rattle.card.proofs.Soundness.{sound_test}
use Rattle.card.proofs.Keeping.{Whole, course}
use Rattle.card.proofs.Station.{station_of, frame_receiver, same_station, same_number, same_reply}

-- the first outcome of octets that end in one, and the others
first_more : (u : Outcome) (x : Course) (n : ℕ) (y : Outcome) → receiving.leading_with u x ≡ ending_in (suc n) y → (u ≡ silent_outcome) × (x ≡ ending_in n y)
first_more u x n y e =
    let all : u ∷ x.outcomes ≡ silent_outcome ∷ (replicate n silent_outcome ++ (y ∷ [])) = ap (λ (z : Course). z.outcomes) e in
    let rest : x.outcomes ≡ replicate n silent_outcome ++ (y ∷ []) = cc in
    let end : x.last ≡ awaiting = ap (λ (z : Course). z.last) e in
    (cc, λ i. record { outcomes = rest i; last = end i })

-- the octets that are still to come complete the frame f with the command k, with n octets before the last
abbrev pub Coming : Card → List ℕ → ℕ → Command → List ℕ → Type 0
Coming c s n k f = on_octets s (reception_of c.receiver) ≡ ending_in n (complete_outcome k f)

-- an octet that is not the last
pub record More (c : Card) (s : List ℕ) (n : ℕ) (k : Command) (f : List ℕ) (r : Response) : Type 0 where
  pub response : r ≡ silent r.card
  pub whole : Whole r.card
  pub station : station_of r.card ≡ station_of c
  pub coming : Coming r.card s n k f

-- what a whole good frame comes to, from the card c on, with what is lent with its last octet
pub record Heard (c : Card) (loan : Loan) (k : Command) (f : List ℕ) (r : Response) : Type 0 where
  pub whole : Whole r.card
  pub identity : r.card.identity ≡ c.identity
  pub empty : reception_of r.card.receiver ≡ awaiting
  pub station : station_of r.card ≡ station_of (on_frame c loan k (fields_of k f) (data_of k f)).card
  pub number : r.number ≡ (on_frame c loan k (fields_of k f) (data_of k f)).number
  pub reply : r.reply ≡ (on_frame c loan k (fields_of k f) (data_of k f)).reply

-- the same from another card that differs in its receiver alone
heard_from : (b c : Card) → station_of b ≡ station_of c → (loan : Loan) (k : Command) (f : List ℕ) (r : Response) → Heard b loan k f r → Heard c loan k f r
heard_from b c e loan k f r x =
    let g = fields_of k f in
    let d = data_of k f in
    record {
      whole = x.whole;
      identity = x.identity ∙ ap (λ (y : Card). y.identity) e;
      empty = x.empty;
      station = x.station ∙ same_station b c e loan k g d;
      number = x.number ∙ same_number b c e loan k g d;
      reply = x.reply ∙ same_reply b c e loan k g d;
    }

module _ (loan : Loan) (u : Usable loan) (c : Card) (h : Whole c) (o : ℕ) where
  octet_heard : after_octet c o loan ≡ heard c o loan
  unfolding after_octet
  octet_heard = rw (eq-eqb (length loan.na2) number_width u.eight, le-leb longest_frame loan.reply u.enough, sound_test c h.sound)

  octet_whole : Whole (after_octet c o loan).card
  unfolding after
  octet_whole = (course c h (octet_call o loan)).whole

  octet_fixed : (after_octet c o loan).card.identity ≡ c.identity
  unfolding after
  octet_fixed = (course c h (octet_call o loan)).fixed

  next_reception : reception_of (after_step (on_octet o (reception_of c.receiver)) c).receiver ≡ (on_octet o (reception_of c.receiver)).next
  next_reception =
      let r = reception_of c.receiver in
      holding_reception (on_octet o r).next c.receiver (octet_keeps o r (reception_sound c.receiver h.sound.receiver h.long))

  module _ (s : List ℕ) (k : Command) (f : List ℕ) where
    pub octet_more : (n : ℕ) → Coming c (o ∷ s) (suc n) k f → More c s n k f (after_octet c o loan)
    unfolding on_octets heard heard_as
    octet_more n e =
        let r = reception_of c.receiver in
        let next = after_step (on_octet o r) c in
        let went = first_more (on_octet o r).outcome (on_octets s (on_octet o r).next) n (complete_outcome k f) e in
        let quiet : after_octet c o loan ≡ silent next = octet_heard ∙ rw went.0 in
        let whole : Whole next = rw quiet at octet_whole in
        rw quiet (record { response = refl; whole = whole; station = refl; coming = ap (on_octets s) next_reception ∙ went.1 })

    pub octet_last : Coming c (o ∷ s) zero k f → (s ≡ []) × Heard c loan k f (after_octet c o loan)
    unfolding on_octets heard heard_as
    octet_last e = by s e
      where
        by : (s : List ℕ) → Coming c (o ∷ s) zero k f → (s ≡ []) × Heard c loan k f (after_octet c o loan)
        by (p ∷ s) e = impossible (let z = ap (λ (z : Course). z.outcomes) e in cc)
        by [] e =
            let r = reception_of c.receiver in
            let all : (on_octet o r).outcome ∷ [] ≡ complete_outcome k f ∷ [] = ap (λ (z : Course). z.outcomes) e in
            let out : (on_octet o r).outcome ≡ complete_outcome k f = cc in
            let next = after_step (on_octet o r) c in
            let g = fields_of k f in
            let d = data_of k f in
            let done : after_octet c o loan ≡ on_frame next loan k g d = octet_heard ∙ rw out in
            let came : (after_octet c o loan).card.receiver ≡ next.receiver = ap (λ (x : Response). x.card.receiver) done ∙ frame_receiver next loan k g d in (
              refl,
              record {
                whole = octet_whole;
                identity = octet_fixed;
                empty = ap reception_of came ∙ next_reception ∙ ap (λ (z : Course). z.last) e;
                station = ap (λ (x : Response). station_of x.card) done ∙ same_station next c refl loan k g d;
                number = ap (λ (x : Response). x.number) done ∙ same_number next c refl loan k g d;
                reply = ap (λ (x : Response). x.reply) done ∙ same_reply next c refl loan k g d;
              },
            )

nothing_comes : {X : Type 0} (n : ℕ) (c : Card) (k : Command) (f : List ℕ) → Coming c [] n k f → X
unfolding on_octets
nothing_comes zero c k f e = impossible (let z : ◌≡◌ {A = List Outcome} [] (complete_outcome k f ∷ []) = ap (λ (z : Course). z.outcomes) e in cc)
nothing_comes (suc n) c k f e = impossible (let z = ap (λ (z : Course). z.outcomes) e in cc)

-- r is what the octets so far came to, from the card c on
rest_heard : (n : ℕ) (s : List Handed) → AllUsable s → (k : Command) (f : List ℕ) (c : Card) (r : Response) → Whole r.card → station_of r.card ≡ station_of c → Coming r.card (octets_in s) n k f → Heard c (last_loan s) k f (hearing r s)
unfolding hearing
rest_heard n [] all k f c r h q e = nothing_comes n r.card k f e
rest_heard zero (x ∷ []) all k f c r h q e =
    heard_from r.card c q x.loan k f _ (octet_last x.loan all.0 r.card h x.octet [] k f e).1
rest_heard zero (x ∷ y ∷ s) all k f c r h q e =
    impossible (let z = (octet_last x.loan all.0 r.card h x.octet (octets_in (y ∷ s)) k f e).0 in cc)
rest_heard (suc n) (x ∷ []) all k f c r h q e =
    let m = octet_more x.loan all.0 r.card h x.octet [] k f n e in
    nothing_comes n (after_octet r.card x.octet x.loan).card k f m.coming
rest_heard (suc n) (x ∷ y ∷ s) all k f c r h q e =
    let m = octet_more x.loan all.0 r.card h x.octet (octets_in (y ∷ s)) k f n e in
    rest_heard n (y ∷ s) all.1 k f c (after_octet r.card x.octet x.loan) m.whole (m.station ∙ q) m.coming

-- one octet after the other: no reply comes before the last
rest_fed : (n : ℕ) (s : List Handed) → AllUsable s → (k : Command) (f : List ℕ) (r : Response) → Whole r.card → Coming r.card (octets_in s) n k f → ((fed r.card s).card ≡ (hearing r s).card) × ((fed r.card s).replies ≡ listed (hearing r s).reply)
unfolding fed hearing
rest_fed n [] all k f r h e = nothing_comes n r.card k f e
rest_fed zero (x ∷ []) all k f r h e = (refl, append-nil _)
rest_fed zero (x ∷ y ∷ s) all k f r h e =
    impossible (let z = (octet_last x.loan all.0 r.card h x.octet (octets_in (y ∷ s)) k f e).0 in cc)
rest_fed (suc n) (x ∷ []) all k f r h e =
    let m = octet_more x.loan all.0 r.card h x.octet [] k f n e in
    nothing_comes n (after_octet r.card x.octet x.loan).card k f m.coming
rest_fed (suc n) (x ∷ y ∷ s) all k f r h e =
    let m = octet_more x.loan all.0 r.card h x.octet (octets_in (y ∷ s)) k f n e in
    let next = after_octet r.card x.octet x.loan in
    let rest = rest_fed n (y ∷ s) all.1 k f next m.whole m.coming in
    (rest.0, ap (λ (q : Response). listed q.reply ++ (fed next.card (y ∷ s)).replies) m.response ∙ rest.1)

-- a whole good frame, to a card between frames
module _ (s : List Handed) (all : AllUsable s) (k : Command) (good : inspected (octets_in s) ≡ given k) (c : Card) (h : Whole c) (empty : reception_of c.receiver ≡ awaiting) where
  comes : Coming c (octets_in s) (length (octets_in s) - 1) k (octets_in s)
  comes = ap (on_octets (octets_in s)) empty ∙ good_frame (octets_in s) k good

  pub frame_heard : Heard c (last_loan s) k (octets_in s) (hearing (silent c) s)
  frame_heard = rest_heard (length (octets_in s) - 1) s all k (octets_in s) c (silent c) h refl comes

  pub frame_fed : ((fed c s).card ≡ (hearing (silent c) s).card) × ((fed c s).replies ≡ listed (hearing (silent c) s).reply)
  frame_fed = rest_fed (length (octets_in s) - 1) s all k (octets_in s) (silent c) h comes

-- "A gap between frames does nothing."
pub gap_between : (c : Card) → Whole c → reception_of c.receiver ≡ awaiting → after_gap c ≡ silent c
unfolding after_gap on_gap
gap_between c h e = rw (sound_test c h.sound, e) (ap (λ (r : Receiver). silent (with_receiver r c)) (still_awaiting c.receiver e))
