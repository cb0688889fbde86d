-- What each call comes to. The other laws of this crate go by these few cases.
use Prim.Native.Nat.{ℕ}
use mathlib.Core.Path.{◌≡◌, refl}
use mathlib.Core.Bool.{Bool, true, false, cond}
use mathlib.Core.List.{List, []}
use lib.Dec.{eqb, leb}
use lib.ListN.{length}
use borrow.Author.Tests.{eqb-true}
use Rattle.octets.proofs.Impossible.{impossible}
use Rattle.numbers.specs.Table.{none, wrong_address, too_long, broken_rule, session_ended, busy, wrong_length, weak_key}
use Rattle.frame.specs.declared.codes.Command.{Command}
use Rattle.frame.specs.Content.{fields_of, data_of}
use Rattle.receiver.specs.Receiving.{Reception, Outcome, silent_outcome, dropped_outcome, complete_outcome, Step, to, on_octet, on_gap, on_session_end}
use Rattle.receiver.specs.Receiver.{reception_of}
use Rattle.receiver.proofs.Follows.{Numbered, octet_numbered, gap_numbered}
use Rattle.tool.specs.declared.Tool.{Tool}
use Rattle.frame.specs.Sizes.{longest_frame}
use Rattle.tool.specs.Parts.{idle, Response, silent, refusing, over, finished}
use Rattle.tool.specs.Soundness.{sound}
use Rattle.tool.specs.Requests.{Asking, addressable, weakly_keyed, limit_of, lent_rightly, admission, sending, unless_refused, after_asking}
use Rattle.tool.specs.Replies.{authenticating}
use Rattle.tool.specs.Events.{after_step, heard_as, heard_step, Call, ask, octet_call, gap, session_end, after, after_octet, after_gap, after_session_end}
use Rattle.tool.specs.Leaving.{keeps_all, receiver_only, all_over, effect_of, unmade}
use Rattle.tool.specs.Reasons.{From, Echo, Verdict, read, transferred, programmed, forged, altered, echoed, denied, unprogrammed, untransferred, unread, misread, unexpected, Reason, unasked, elsewhere, answered, Hears, unheard, partly, badly, whole}
use Rattle.tool.proofs.Admission.{Lent, lent, Admits, admits}
use Rattle.tool.proofs.Effects.{bad_frame_effect}
use Rattle.tool.proofs.Endings.{frame_reason}

-- an octet, a gap or a session end
abbrev pub is_event : Call → Bool
is_event (ask q l) = false
is_event (octet_call o l) = true
is_event gap = true
is_event session_end = true

-- its rule of 01, Receiving; a request does not touch the receiver
abbrev pub rule : Call → Reception → Step
rule (ask q l) h = to h silent_outcome
rule (octet_call o l) h = on_octet o h
rule gap h = on_gap h
rule session_end h = on_session_end h

abbrev pub moved : Call → Tool → Tool
moved x t = after_step (rule x (reception_of t.receiver)) t

-- a programming request with a weak key
abbrev pub AsksWeakly : Call → Type 0
AsksWeakly (ask q l) = weakly_keyed q.request q.key ≡ true
AsksWeakly (octet_call o l) = ⊥
AsksWeakly gap = ⊥
AsksWeakly session_end = ⊥

-- a refusal that leaves everything: 6, 7, 16 and 17, 12 of a tool that is not sound, and 21 of a programming request with a weak key
pub record Stays (t : Tool) (x : Call) (n : ℕ) : Type 0 where
  pub all : effect_of n ≡ keeps_all
  pub numbered : eqb n none ≡ false
  pub unsound : n ≡ broken_rule → sound t ≡ false
  pub weak : n ≡ weak_key → AsksWeakly x
  pub event : is_event x ≡ true → unmade n ≡ true

-- The response r of the tool t to the call x. It is refused, and everything stays; a request is sent; nothing comes of an event but in the receiver; a
-- bad frame is dropped; the running request ends well, or with a number; or AUT is sent.
pub data Course (t : Tool) (x : Call) (r : Response) : Type 0 where
  stays : (n : ℕ) → Stays t x n → r ≡ refusing t n → Course t x r
  asks : (q : Asking) (l : ℕ) → x ≡ ask q l → Lent q.ads q.key q.na1 l → Admits t q → r ≡ sending q t → Course t x r
  passes : is_event x ≡ true → r ≡ silent (moved x t) → Course t x r
  drops : is_event x ≡ true → (n : ℕ) → effect_of n ≡ receiver_only → r ≡ refusing (moved x t) n → Course t x r
  ends : is_event x ≡ true → idle t.phase ≡ false → (d : List ℕ) → r ≡ finished d (moved x t) → Course t x r
  fails : is_event x ≡ true → idle t.phase ≡ false → (n : ℕ) → effect_of n ≡ all_over → r ≡ over (moved x t) n → Course t x r
  echoes : is_event x ≡ true → (c : Command) (s : List ℕ) → (rule x (reception_of t.receiver)).outcome ≡ complete_outcome c s → From t (fields_of c s)
      → Echo t c (fields_of c s) (data_of c s) → r ≡ authenticating (fields_of c s).za2 (moved x t) → Course t x r

module _ (t : Tool) where
  Lent-stays : (x : Call) → Stays t x wrong_length
  Lent-stays x = record { all = refl; numbered = refl; unsound = λ e. impossible (cc); weak = λ e. impossible (cc); event = λ e. refl }

  broken_stays : (x : Call) → sound t ≡ false → Stays t x broken_rule
  broken_stays x s = record { all = refl; numbered = refl; unsound = λ e. s; weak = λ e. impossible (cc); event = λ e. refl }

  -- what a refused request leaves
  module _ (q : Asking) (l : ℕ) where
    admission-stays : eqb (admission t q) none ≡ false → Stays t (ask q l) (admission t q)
    unfolding admission
    admission-stays = go (sound t) (idle t.phase) (addressable q.request q.ads) (weakly_keyed q.request q.key) (leb (length q.content) (limit_of q.request)) refl refl
      where
        go : (s i a k w : Bool) → sound t ≡ s → weakly_keyed q.request q.key ≡ k → eqb (cond s (cond i (cond a (cond k weak_key (cond w none too_long)) wrong_address) busy) broken_rule) none ≡ false
            → Stays t (ask q l) (cond s (cond i (cond a (cond k weak_key (cond w none too_long)) wrong_address) busy) broken_rule)
        go true true true false true es ek e = impossible (cc)
        go true true true false false es ek e = record { all = refl; numbered = refl; unsound = λ z. impossible (cc); weak = λ z. impossible (cc); event = λ z. impossible (cc) }
        go true true true true w es ek e = record { all = refl; numbered = refl; unsound = λ z. impossible (cc); weak = λ z. ek; event = λ z. impossible (cc) }
        go true true false k w es ek e = record { all = refl; numbered = refl; unsound = λ z. impossible (cc); weak = λ z. impossible (cc); event = λ z. impossible (cc) }
        go true false a k w es ek e = record { all = refl; numbered = refl; unsound = λ z. impossible (cc); weak = λ z. impossible (cc); event = λ z. impossible (cc) }
        go false i a k w es ek e = broken_stays (ask q l) es

    ask_course : Course t (ask q l) (after_asking t q l)
    unfolding after_asking unless_refused
    ask_course = tested (lent_rightly q.ads q.key q.na1 l) refl
      where
        judged : lent_rightly q.ads q.key q.na1 l ≡ true → (b : Bool) → eqb (admission t q) none ≡ b
            → Course t (ask q l) (cond b (sending q t) (refusing t (admission t q)))
        judged p true e = asks q l refl (lent _ _ _ _ p) (admits _ _ (eqb-true _ _ e)) refl
        judged p false e = stays _ (admission-stays e) refl

        tested : (b : Bool) → lent_rightly q.ads q.key q.na1 l ≡ b
            → Course t (ask q l) (cond b (cond (eqb (admission t q) none) (sending q t) (refusing t (admission t q))) (refusing t wrong_length))
        tested true p = judged p (eqb (admission t q) none) refl
        tested false p = stays wrong_length (Lent-stays (ask q l)) refl

  -- what a good frame does, by the tool before the receiver's step
  module _ (x : Call) (v : is_event x ≡ true) (c : Command) (s : List ℕ) (u : (rule x (reception_of t.receiver)).outcome ≡ complete_outcome c s) (r : Response) where
    verdict_course : From (moved x t) (fields_of c s) → Verdict (moved x t) c (fields_of c s) (data_of c s) r → Course t x r
    verdict_course w (read tab p k q e) = ends v (rw p) (data_of c s) e
    verdict_course w (transferred p k e) = ends v (rw p) [] e
    verdict_course w (programmed p k e) = ends v (rw p) [] e
    verdict_course w (forged tab n p k q e) = fails v (rw p) 13 refl e
    verdict_course w (altered tab n p k q z e) = fails v (rw p) 14 refl e
    verdict_course w (echoed h e) =
        echoes v c s u (record { station = w.station; primary = w.primary })
        (record { command = h.command; tab = h.tab; count = h.count; phase = h.phase; cipher = h.cipher; same_tab = h.same_tab; same_data = h.same_data })
        e
    verdict_course w (denied p k e) = fails v (rw p) 13 refl e
    verdict_course w (unprogrammed p k e) = fails v (rw p) 20 refl e
    verdict_course w (untransferred p k e) = fails v (rw p) 20 refl e
    verdict_course w (unread tab p k e) = fails v (rw p) 20 refl e
    verdict_course w (misread tab p k q e) = fails v (rw p) 14 refl e
    verdict_course w (unexpected i k e) = fails v i 19 refl e

    reason_course : Reason (moved x t) c (fields_of c s) (data_of c s) r → Course t x r
    reason_course (unasked i e) = passes v e
    reason_course (elsewhere w e) = passes v e
    reason_course (answered w k) = verdict_course w k

  heard_course : (x : Call) → is_event x ≡ true → (u : Outcome) → Numbered u → (rule x (reception_of t.receiver)).outcome ≡ u → Course t x (heard_as u (moved x t))
  unfolding heard_as
  heard_course x v silent_outcome n u = passes v refl
  heard_course x v (dropped_outcome m) n u = drops v m (bad_frame_effect m n) refl
  heard_course x v (complete_outcome c s) n u = reason_course x v c s u _ (frame_reason (moved x t) c (fields_of c s) (data_of c s))

  octet_course : (o l : ℕ) → Course t (octet_call o l) (after_octet t o l)
  unfolding after_octet
  octet_course o l = go (leb longest_frame l) (sound t) refl
    where
      go : (a s : Bool) → sound t ≡ s → Course t (octet_call o l) (cond a (cond s (heard_step (on_octet o (reception_of t.receiver)) t) (refusing t broken_rule)) (refusing t wrong_length))
      go true true e = heard_course (octet_call o l) refl _ (octet_numbered o (reception_of t.receiver)) refl
      go true false e = stays broken_rule (broken_stays (octet_call o l) e) refl
      go false s e = stays wrong_length (Lent-stays (octet_call o l)) refl

  -- every octet is answered for one of 01's reasons
  pub octet_hears : (o l : ℕ) → Hears t o (after t (octet_call o l))
  unfolding after after_octet heard_as
  octet_hears o l = go (leb longest_frame l) (sound t)
    where
      heard : (u : Outcome) → (on_octet o (reception_of t.receiver)).outcome ≡ u → Hears t o (heard_as u (moved (octet_call o l) t))
      heard silent_outcome e = partly e refl
      heard (dropped_outcome n) e = badly n e refl
      heard (complete_outcome c s) e = whole c s e (frame_reason (moved (octet_call o l) t) c (fields_of c s) (data_of c s))

      go : (a s : Bool) → Hears t o (cond a (cond s (heard_step (on_octet o (reception_of t.receiver)) t) (refusing t broken_rule)) (refusing t wrong_length))
      go true true = heard _ refl
      go true false = unheard broken_rule refl refl
      go false s = unheard wrong_length refl refl

  gap_course : Course t gap (after_gap t)
  unfolding after_gap
  gap_course = go (sound t) refl
    where
      go : (s : Bool) → sound t ≡ s → Course t gap (cond s (heard_step (on_gap (reception_of t.receiver)) t) (refusing t broken_rule))
      go true e = heard_course gap refl _ (gap_numbered (reception_of t.receiver)) refl
      go false e = stays broken_rule (broken_stays gap e) refl

  session_end_course : Course t session_end (after_session_end t)
  unfolding after_session_end
  session_end_course = go (sound t) (idle t.phase) refl refl
    where
      go : (s i : Bool) → sound t ≡ s → idle t.phase ≡ i
          → Course t session_end (cond s (cond i (silent (moved session_end t)) (over (moved session_end t) session_ended)) (refusing t broken_rule))
      go true true e i = passes refl refl
      go true false e i = fails refl i session_ended refl refl
      go false i e z = stays broken_rule (broken_stays session_end e) refl

  pub course : (x : Call) → Course t x (after t x)
  unfolding after
  course (ask q l) = ask_course q l
  course (octet_call o l) = octet_course o l
  course gap = gap_course
  course session_end = session_end_course
