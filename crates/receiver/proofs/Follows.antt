-- A sound receiver follows 01, Receiving: it is never refused, holds the reception that the rule gives, and stays sound.
use Prim.Native.Nat.{ℕ, ◌<◌}
use mathlib.Core.Path.{◌≡◌, refl}
use mathlib.Core.Bool.{Bool, true, false, cond}
use mathlib.Core.List.{List, [], ◌∷◌, ◌++◌}
use native.Mathlib.Omega.{arith}
use lib.Dec.{ltb, lit≤}
use lib.ListN.{length, get_or}
use borrow.Author.Tests.{ltb-true}
use Rattle.numbers.specs.Answer.{Answer, given, refused, refused_at}
use Rattle.numbers.specs.Table.{broken_rule}
use Rattle.numbers.specs.declared.Octets.{Octets}
use Rattle.frame.specs.declared.codes.Command.{Command}
use Rattle.frame.specs.Checks.{stated_by, judged}
use Rattle.frame.proofs.BadFrame.{OfBadFrame, OnFrame, stated_on_frame, judged_on_frame}
use Rattle.receiver.specs.declared.Receiver.{Receiver}
use Rattle.receiver.specs.Receiving.{Reception, awaiting, skipping, partial, Outcome, silent_outcome, dropped_outcome, complete_outcome, Step, to, begun, grown, judged_outcome, verdict_on, on_octet, on_gap, on_session_end}
use Rattle.receiver.specs.Receiver.{most_held, Sound, sound, reception_of, answer_to, Response, stepped, broken, answered_by, after_octet, after_gap, after_session_end}
use Rattle.octets.proofs.Impossible.{impossible}
use Rattle.std.proofs.lemmas.List.{length_push}
use Rattle.receiver.proofs.Growth.{first_snoc}
use Rattle.receiver.proofs.Stated.{stated_range}
use Rattle.receiver.proofs.Soundness.{Partly, SoundReception, test_sound, sound_test, reception_sound, holding-sound, holding_long, holding_narrow, holding_reception}

-- What the sound receiver r answers, a, to an event with the rule f.
pub record Follows (f : Reception → Step) (r : Receiver) (a : Response) : Type 0 where
  pub answer : a ≡ stepped r (f (reception_of r))
  pub unbroken : a.answer ≡ refused broken_rule → ⊥
  pub sound : Sound a.receiver
  pub long : length a.receiver.octets ≡ most_held
  pub narrow : r.count.0 < 256 → a.receiver.count.0 < 256
  pub reception : reception_of a.receiver ≡ (f (reception_of r)).next

-- A frame is dropped with one of 1 to 5.
abbrev pub Numbered : Outcome → Type 0
Numbered silent_outcome = Unit {0}
Numbered (dropped_outcome number) = OfBadFrame number
Numbered (complete_outcome c s) = Unit {0}

-- A rule under which a sound reception stays sound.
abbrev pub Keeps : (Reception → Step) → Type 0
Keeps f = (h : Reception) → SoundReception h → SoundReception (f h).next

-- A rule that drops frames with 1 to 5 alone.
abbrev pub Numbers : (Reception → Step) → Type 0
Numbers f = (h : Reception) → Numbered (f h).outcome

outcome_unbroken : (o : Outcome) → Numbered o → answer_to o ≡ refused broken_rule → ⊥
unfolding answer_to
outcome_unbroken silent_outcome n e = impossible (cc)
outcome_unbroken (dropped_outcome number) n e =
    let same : number ≡ broken_rule = cc in
    omega (arith, n.most)
outcome_unbroken (complete_outcome c s) n e = impossible (cc)

stepped_follows : (f : Reception → Step) → Keeps f → Numbers f → (r : Receiver) → Sound r → length r.octets ≡ most_held → Follows f r (stepped r (f (reception_of r)))
stepped_follows f k n r s l =
    let h = (f (reception_of r)).next in
    let t = k (reception_of r) (reception_sound r s l) in
    record {
      answer = refl;
      unbroken = outcome_unbroken (f (reception_of r)).outcome (n (reception_of r));
      sound = holding-sound h r t;
      long = holding_long h r t l;
      narrow = holding_narrow h r t;
      reception = holding_reception h r t;
    }

answered_follows : (f : Reception → Step) → Keeps f → Numbers f → (r : Receiver) → Sound r → length r.octets ≡ most_held → Follows f r (answered_by f r)
answered_follows f k n r s l = rw (sound_test r s) (stepped_follows f k n r s l)

-- a receiver that is not sound is refused by every call and handed back as it was
pub unsound_refused : (f : Reception → Step) (r : Receiver) → (Sound r → ⊥) → answered_by f r ≡ broken r
unsound_refused f r n = go (sound r) refl
  where
    go : (b : Bool) → sound r ≡ b → cond b (stepped r (f (reception_of r))) (broken r) ≡ broken r
    go true e = absurd (n (test_sound r e))
    go false e = refl

begun-sound : (o : ℕ) (s : Answer Octets) → stated_by o ≡ s → SoundReception (begun s o).next
unfolding begun
begun-sound o (given w) e =
    let g = stated_range o w e in
    record {
      some = omega arith;
      unfinished = record { least = g.least; most = g.most; short = omega (arith, g.least) };
    }
begun-sound o (refused number) e = tt
begun-sound o (refused_at number offset) e = tt

begun_numbered : (o : ℕ) (s : Answer Octets) → OnFrame s → Numbered (begun s o).outcome
unfolding begun
begun_numbered o (given w) h = tt
begun_numbered o (refused number) h = h
begun_numbered o (refused_at number offset) h = absurd h

verdict_numbered : (a : Answer Command) (s : List ℕ) → OnFrame a → Numbered (judged_outcome a s)
unfolding judged_outcome
verdict_numbered (given c) s h = tt
verdict_numbered (refused number) s h = h
verdict_numbered (refused_at number offset) s h = absurd h

grown_numbered : (s : List ℕ) → Numbered (grown s).outcome
unfolding grown
grown_numbered s = go (ltb (length s) (get_or s 0 0))
  where
    go : (b : Bool) → Numbered (cond b (to (partial s) silent_outcome) (to awaiting (verdict_on s))).outcome
    go true = tt
    go false = verdict_numbered (judged s) s (judged_on_frame s)

grown-sound : (s : List ℕ) (o : ℕ) → Partly s → SoundReception (grown (s ++ (o ∷ []))).next
unfolding grown
grown-sound s o t = go (ltb (length (s ++ (o ∷ []))) (get_or (s ++ (o ∷ [])) 0 0)) refl
  where
    first : get_or (s ++ (o ∷ [])) 0 0 ≡ get_or s 0 0
    first = first_snoc s o t.some

    go : (b : Bool) → ltb (length (s ++ (o ∷ []))) (get_or (s ++ (o ∷ [])) 0 0) ≡ b → SoundReception (cond b (to (partial (s ++ (o ∷ []))) silent_outcome) (to awaiting (verdict_on (s ++ (o ∷ []))))).next
    go true e =
        record {
          some = omega (arith, length_push s o);
          unfinished = record { least = rw first t.unfinished.least; most = rw first t.unfinished.most; short = ltb-true _ _ e };
        }
    go false e = tt

pub octet_keeps : (o : ℕ) → Keeps (on_octet o)
unfolding on_octet
octet_keeps o awaiting t = begun-sound o (stated_by o) refl
octet_keeps o skipping t = tt
octet_keeps o (partial s) t = grown-sound s o t

pub octet_numbered : (o : ℕ) → Numbers (on_octet o)
unfolding on_octet
octet_numbered o awaiting = begun_numbered o (stated_by o) (stated_on_frame o)
octet_numbered o skipping = tt
octet_numbered o (partial s) = grown_numbered (s ++ (o ∷ []))

pub gap_keeps : Keeps on_gap
unfolding on_gap
gap_keeps awaiting t = tt
gap_keeps skipping t = tt
gap_keeps (partial s) t = tt

pub gap_numbered : Numbers on_gap
unfolding on_gap
gap_numbered awaiting = tt
gap_numbered skipping = tt
gap_numbered (partial s) = record { least = lit≤ tt; most = lit≤ tt }

pub session_end_keeps : Keeps on_session_end
unfolding on_session_end
session_end_keeps h t = tt

session_end_numbered : Numbers on_session_end
unfolding on_session_end
session_end_numbered h = tt

pub octet_follows : (r : Receiver) (o : ℕ) → Sound r → length r.octets ≡ most_held → Follows (on_octet o) r (after_octet r o)
unfolding after_octet
octet_follows r o = answered_follows (on_octet o) (octet_keeps o) (octet_numbered o) r

pub gap_follows : (r : Receiver) → Sound r → length r.octets ≡ most_held → Follows on_gap r (after_gap r)
unfolding after_gap
gap_follows = answered_follows on_gap gap_keeps gap_numbered

pub session_end_follows : (r : Receiver) → Sound r → length r.octets ≡ most_held → Follows on_session_end r (after_session_end r)
unfolding after_session_end
session_end_follows = answered_follows on_session_end session_end_keeps session_end_numbered
