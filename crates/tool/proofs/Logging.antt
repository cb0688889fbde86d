-- The tool after calls is as the host's log says: which wake-ups came, whether a request runs and with which arguments, and what has come of the present frame.
use Prim.Native.Nat.{ℕ}
use mathlib.Core.Path.{◌≡◌, refl, ap, ◌∙◌}
use mathlib.Core.Bool.{true, false, cond}
use mathlib.Core.List.{List, [], ◌∷◌}
use mathlib.Core.Option.{Option, some}
use Rattle.octets.proofs.Impossible.{impossible}
use Rattle.octets.proofs.Splice.{take-fronted}
use Rattle.numbers.specs.declared.Octets.{Octets}
use Rattle.numbers.specs.Answer.{given}
use Rattle.frame.specs.Content.{fields_of}
use Rattle.receiver.specs.Receiving.{Reception}
use Rattle.receiver.specs.Receiver.{reception_of}
use Rattle.receiver.proofs.Soundness.{fresh-awaiting}
use Rattle.wake.specs.declared.Last.TheVariants.{Other}
use Rattle.wake.specs.declared.WakeUps.{WakeUps}
use Rattle.wake.specs.declared.Request.{Request}
use Rattle.wake.specs.declared.Request.TheVariants.{Enq, Trf, Rec, Trb, Ib}
use Rattle.wake.specs.Rule as wake
use Rattle.wake.specs.Clauses.{Ending, Entry, Rightly}
use Rattle.wake.specs.Clauses as ending
use Rattle.wake.specs.Lists as entry
use Rattle.wake.specs.Lists.{latest_ended}
use Rattle.wake.proofs.Memory.{Follows, fresh_follows, wakes_when_due, asked_follows, succeeded_follows, failed_follows}
use Rattle.tool.specs.declared.Phase.{Phase}
use Rattle.tool.specs.declared.Phase.TheVariants.{Idle, Reading, Transferring, Programming, Authenticating}
use Rattle.tool.specs.declared.Tool.{Tool}
use Rattle.tool.specs.Answers.{is_done}
use Rattle.tool.specs.Parts.{idle, last_of, fresh, in_phase, with_waking, ended, Response, silent, refusing, over, finished}
use Rattle.tool.specs.Requests.{Asking, running, progress_of}
use Rattle.tool.specs.Replies.{authenticating}
use Rattle.tool.specs.Events.{Call, ask, octet_call, gap, session_end, after}
use Rattle.tool.specs.Leaving.{unmade}
use Rattle.tool.specs.Log.{Report, report_of, Log, fresh_log, asking_logged, ending_noted, event_logged, logged, left_after, log_after}
use Rattle.tool.specs.Claims.{Latest, Marked}
use Rattle.tool.proofs.Effects.{in_endings, receiver_only_lem, over_made}
use Rattle.tool.proofs.Courses.{is_event, rule, moved, Stays, Course, stays, asks, passes, drops, ends, fails, echoes, course}
use Rattle.tool.proofs.StaysSound.{Whole, fresh_whole, moved_whole, moved_reception, after_whole}

-- the latest request has not ended yet
abbrev Open : List Entry → Type 0
Open [] = ⊥
Open (e ∷ past) = e.ending ≡ ending.running

-- the request that a tool is marked with while it waits for ECH
pub programs : (t : Tool) (latest : Option Asking) (p : Phase) (tab : ℕ) (n : Octets) → p ≡ Programming tab n → Marked t latest p → Marked t latest (Programming tab n)
programs t latest p tab n e m = rw e at m

-- The log l, with its wake-ups as 01 says, and the tool t after the same calls.
pub record Agrees (t : Tool) (l : Log) : Type 0 where
  pub whole : Whole t
  pub memory : Follows (last_of t.phase) t.waking l.entries
  pub running : idle t.phase ≡ false → Open l.entries
  pub rightly : Rightly l.entries
  pub reception : reception_of t.receiver ≡ l.reception
  pub marked : Marked t l.latest t.phase

pub fresh_agrees : Agrees fresh fresh_log
unfolding Rightly
fresh_agrees =
    record {
      whole = fresh_whole;
      memory = fresh_follows;
      running = λ e. impossible (cc);
      rightly = tt;
      reception = fresh-awaiting;
      marked = tt;
    }

given_back : (x : Call) (l : Log) {r s : Response} → r ≡ s → Agrees s.tool (logged x (report_of s) l) → Agrees r.tool (logged x (report_of r) l)
given_back x l e k = rw e k

-- a call that is refused and leaves everything is not logged
unlogged : (t : Tool) (x : Call) (n : ℕ) (l : Log) → Stays t x n → logged x (report_of (refusing t n)) l ≡ l
unfolding logged asking_logged event_logged
unlogged t (ask q b) n l s = rw s.numbered
unlogged t (octet_call o b) n l s = rw (s.event refl)
unlogged t gap n l s = rw (s.event refl)
unlogged t session_end n l s = rw (s.event refl)

-- an event is logged by its rule
event_logged_lem : (x : Call) (r : Report) (l : Log) → is_event x ≡ true → logged x r l ≡ event_logged (rule x l.reception).next r l
unfolding logged
event_logged_lem (ask q b) r l v = impossible (cc)
event_logged_lem (octet_call o b) r l v = refl
event_logged_lem gap r l v = refl
event_logged_lem session_end r l v = refl

-- a request that is sent
module _ (t : Tool) (l : Log) (k : Agrees t l) (q : Asking) where
  abbrev next : Request → WakeUps
  next r = wake.asked (last_of t.phase) t.waking r q.ads

  abbrev entered : Request → Entry
  entered r = entry.sent r q.ads (wake.wake_before (last_of t.phase) t.waking r q.ads)

  abbrev asked_log : Request → Log
  asked_log r =
      record { entries = entry.ended_as (cond (is_done (given (progress_of r))) ending.well ending.running) (entered r) ∷ l.entries; latest = some q; reception = l.reception }

  follows : (r : Request) → Follows (wake.last_after r) (next r) (entered r ∷ l.entries)
  follows r = asked_follows (last_of t.phase) t.waking l.entries r q.ads k.memory

  entered_rightly : (r : Request) → Rightly (asked_log r).entries
  unfolding Rightly
  entered_rightly r = (wakes_when_due (last_of t.phase) t.waking l.entries r q.ads k.memory, k.rightly)

  -- TRB and IB are done once sent, and are not counted
  done_follows : (r : Request) → wake.last_after r ≡ Other → Follows (wake.last_after r) (next r) (entry.ended_as ending.well (entered r) ∷ l.entries)
  unfolding wake.succeeded
  done_follows r e = rw e (succeeded_follows Other (next r) (entered r) l.entries refl (rw e at (follows r)))

  abbrev latest : (r : Request) → q.request ≡ r → Latest r q.ads q.adp (some q)
  latest r e = record { asking = q; last = refl; request = e; station = refl; primary = refl }

  sent_agrees : (r : Request) → q.request ≡ r → Whole (with_waking (next r) (running r q t)) → Agrees (with_waking (next r) (running r q t)) (asked_log r)
  sent_agrees Enq e w =
      record { whole = w; memory = follows Enq; running = λ i. refl; rightly = entered_rightly Enq; reception = k.reception; marked = (latest Enq e, refl) }
  sent_agrees Trf e w =
      record { whole = w; memory = follows Trf; running = λ i. refl; rightly = entered_rightly Trf; reception = k.reception; marked = latest Trf e }
  sent_agrees Rec e w =
      record {
        whole = w;
        memory = follows Rec;
        running = λ i. refl;
        rightly = entered_rightly Rec;
        reception = k.reception;
        marked = (latest Rec e, record { same_tab = refl; same_key = refl; same_na1 = refl; same_content = take-fronted q.content t.sent });
      }
  sent_agrees Trb e w =
      record { whole = w; memory = done_follows Trb refl; running = λ i. impossible (cc); rightly = entered_rightly Trb; reception = k.reception; marked = tt }
  sent_agrees Ib e w =
      record { whole = w; memory = done_follows Ib refl; running = λ i. impossible (cc); rightly = entered_rightly Ib; reception = k.reception; marked = tt }

-- an event
module _ (t : Tool) (l : Log) (k : Agrees t l) (x : Call) (v : is_event x ≡ true) where
  abbrev heard_log : List Entry → Log
  heard_log past = record { entries = past; latest = l.latest; reception = (rule x l.reception).next }

  heard_as : (r : Report) (past : List Entry) → unmade r.number ≡ false → ending_noted r l.entries ≡ past → logged x r l ≡ heard_log past
  unfolding event_logged
  heard_as r past p q = event_logged_lem x r l v ∙ rw (p, q)

  heard_reception : reception_of (moved x t).receiver ≡ (rule x l.reception).next
  heard_reception = moved_reception x t k.whole ∙ ap (λ (h : Reception). (rule x h).next) k.reception

  marked_on : (p : Phase) → Marked t l.latest p → Marked (moved x t) l.latest p
  marked_on (Idle last) m = m
  marked_on (Reading tab) m = m
  marked_on Transferring m = m
  marked_on (Programming tab n) m = m
  marked_on Authenticating m = m

  -- nothing but the receiver has changed
  moved_agrees : Agrees (moved x t) (heard_log l.entries)
  moved_agrees =
      record {
        whole = moved_whole x t k.whole;
        memory = k.memory;
        running = k.running;
        rightly = k.rightly;
        reception = heard_reception;
        marked = marked_on t.phase k.marked;
      }

  -- the running request ends so, and the wake-up memory is w
  ended_agrees : (n : Ending) (w : WakeUps) (past : List Entry) → past ≡ l.entries → Whole (with_waking w (ended (moved x t))) → Open past
      → ((e : Entry) (rest : List Entry) → e.ending ≡ ending.running → Follows (last_of t.phase) t.waking (e ∷ rest) → Follows (last_of t.phase) w (entry.ended_as n e ∷ rest))
      → Agrees (with_waking w (ended (moved x t))) (heard_log (latest_ended n past))
  unfolding Rightly
  ended_agrees n w [] z h o f = absurd o
  ended_agrees n w (e ∷ rest) z h o f =
      record {
        whole = h;
        memory = f e rest o (rw (← z) at k.memory);
        running = λ i. impossible (cc);
        rightly = rw (← z) at k.rightly;
        reception = heard_reception;
        marked = tt;
      }

  -- AUT is sent
  echoed_agrees : Whole (in_phase Authenticating (moved x t)) → idle t.phase ≡ false → last_of t.phase ≡ Other → Latest Rec t.ads t.adp l.latest
      → Agrees (in_phase Authenticating (moved x t)) (heard_log l.entries)
  echoed_agrees w i o g =
      record {
        whole = w;
        memory = rw o at k.memory;
        running = λ z. k.running i;
        rightly = k.rightly;
        reception = heard_reception;
        marked = g;
      }

-- the receiver and the tool's step leave a whole tool
still_whole : {r s : Response} → r ≡ s → Whole r.tool → Whole s.tool
still_whole e w = rw (ap (λ (s : Response). s.tool) e) at w

course_agrees : (t : Tool) (l : Log) (x : Call) (r : Response) → Agrees t l → Whole r.tool → Course t x r → Agrees r.tool (logged x (report_of r) l)
unfolding logged asking_logged
course_agrees t l x r k w (stays n s e) = given_back x l e (rw (unlogged t x n l s) k)
course_agrees t l x r k w (asks q b z p a e) = given_back x l e (rw z (sent_agrees t l k q q.request refl (still_whole e w)))
course_agrees t l x r k w (passes v e) = given_back x l e (rw (heard_as t l k x v (report_of (silent (moved x t))) l.entries refl refl) (moved_agrees t l k x v))
course_agrees t l x r k w (drops v n f e) =
    let d = receiver_only_lem n f in
    given_back x l e (rw (heard_as t l k x v (report_of (refusing (moved x t) n)) l.entries d.made (rw d.ends)) (moved_agrees t l k x v))
course_agrees t l x r k w (ends v i d e) =
    given_back x l e
    (rw (heard_as t l k x v (report_of (finished d (moved x t))) (latest_ended ending.well l.entries) refl refl)
    (ended_agrees t l k x v ending.well (wake.succeeded (last_of t.phase) t.waking) l.entries refl (still_whole e w) (k.running i) (succeeded_follows (last_of t.phase) t.waking)))
course_agrees t l x r k w (fails v i n f e) =
    given_back x l e
    (rw (heard_as t l k x v (report_of (over (moved x t) n)) (latest_ended (ending.with_number n) l.entries) (over_made n f) (rw (in_endings n f)))
    (ended_agrees t l k x v (ending.with_number n) t.waking l.entries refl (still_whole e w) (k.running i) (λ y rest o m. failed_follows (last_of t.phase) t.waking y rest o m n)))
course_agrees t l x r k w (echoes v c s u m h e) =
    given_back x l e (rw (heard_as t l k x v (report_of (authenticating (fields_of c s).za2 (moved x t))) l.entries refl refl) (echoed_agrees t l k x v (still_whole e w) (rw h.phase) (rw h.phase) (programs t l.latest t.phase h.tab h.count h.phase k.marked).0))

pub call_agrees : (t : Tool) (l : Log) (x : Call) → Agrees t l → Agrees (after t x).tool (logged x (report_of (after t x)) l)
call_agrees t l x k = course_agrees t l x (after t x) k (after_whole t x k.whole) (course t x)

pub calls_agree : (h : List Call) (t : Tool) (l : Log) → Agrees t l → Agrees (left_after t h) (log_after t h l)
unfolding left_after log_after
calls_agree [] t l k = k
calls_agree (x ∷ h) t l k = calls_agree h (after t x).tool (logged x (report_of (after t x)) l) (call_agrees t l x k)

-- For every list of calls on a fresh tool, refused ones included, a wake-up comes before a request exactly where 01 says, and at no other time: read off the
-- requests, wake-ups and endings that the calls tell of.
pub wake_ups_rightly : (h : List Call) → Rightly (log_after fresh h fresh_log).entries
wake_ups_rightly h = (calls_agree h fresh fresh_log fresh_agrees).rightly

-- For every list of calls on a fresh tool, refused ones included, the request that runs is the latest that was accepted, with its arguments.
pub marked_latest : (h : List Call) → Marked (left_after fresh h) (log_after fresh h fresh_log).latest (left_after fresh h).phase
marked_latest h = (calls_agree h fresh fresh_log fresh_agrees).marked
