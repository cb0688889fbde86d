-- Over every list of exported calls on the memory of a fresh tool, the memory holds the tool that the same calls leave by value, the host's log is the same, and
-- 12 is never given. So the claims on lists of calls hold of the exported calls' own results.
use Prim.Native.Nat.{ℕ}
use mathlib.Core.Path.{◌≡◌, refl, sym, ap, ◌∙◌}
use mathlib.Core.Bool.{Bool, true, false, cond, ◌||◌}
use mathlib.Core.List.{List, [], ◌∷◌, map}
use mathlib.Core.Logic.{◌⊎◌, inl, inr}
use native.Mathlib.Omega.{arith}
use lib.Dec.{eqb}
use lib.ListN.{length}
use borrow.Author.Tests.{eqb-true}
use Rattle.octets.specs.Splice.{fronted}
use Rattle.numbers.specs.Answer.{given, refused, number_of}
use Rattle.numbers.specs.Table.{none, broken_rule, wrong_length}
use Rattle.wake.specs.declared.Wake.{Wake}
use Rattle.wake.specs.declared.Wake.TheVariants.{None, Agn}
use Rattle.wake.specs.Clauses.{Rightly}
use Rattle.tool.specs.declared.Tool.{Tool}
use Rattle.tool.specs.Answers.{Progress, is_done}
use Rattle.tool.specs.Parts.{fresh, Response}
use Rattle.tool.specs.Events.{Call, after}
use Rattle.tool.specs.Events as call
use Rattle.tool.specs.Leaving.{left_as}
use Rattle.tool.specs.Log.{Report, report_of, Log, fresh_log, logged, left_after, log_after}
use Rattle.tool.specs.Claims.{Authenticates}
use Rattle.tool.proofs.Refusals.{refusal_leaves, by_number, Plain, numbered, unnumbered, plain}
use Rattle.tool.proofs.StaysSound.{never_12}
use Rattle.tool.proofs.Logging.{wake_ups_rightly}
use Rattle.tool.proofs.Running.{gap_undone, session_end_undone}
use Rattle.tool.proofs.Authentication.{events_unwoken, aut_tied}
use Rattle.tool_memory.specs.Layout.{size}
use Rattle.tool_memory.specs.Decoding.{fresh_memory, decoded}
use Rattle.tool_memory.specs.Encoding.{encoded}
use Rattle.tool_memory.proofs.Fresh.{fresh-decoded}
use Rattle.tool_memory.proofs.ToolPuts.{encoded-length}
use Rattle.tool_memory.proofs.RoundTrip.{decoded-encoded}
use Rattle.tool_memory.proofs.Storable.{Storable, fresh_storable, after_storable}
use Rattle.tool_exports.specs.Outcomes.{stored, cell_after, wake_mark, RequestLoan, OctetLoan, request_shown, octet_shown, request_outcome, octet_outcome, event_outcome}
use Rattle.tool_exports.specs.Lists.{Export, request, octet, gap, session_end, call_of, left, memory_of, wake_in, read, report_in, left_in, log_in}
use Rattle.tool_exports.specs.Claims.{SendsNothing, SendsAut}
use Rattle.tool_exports.proofs.Left.{memory_left}

-- 17 leaves the tool as it was
tool_17 : (t : Tool) (x : Call) → number_of (after t x).answer ≡ wrong_length → (after t x).tool ≡ t
unfolding left_as
tool_17 t x e = ap (λ (r : Response). r.tool) (refusal_leaves t x wrong_length (by_number t x wrong_length refl e))

-- the memory m is that of the tool t
pub record Holds (m : List ℕ) (t : Tool) : Type 0 where
  pub sized : length m ≡ size
  pub tool : decoded m ≡ t
  pub storable : Storable t

pub fresh_held : Holds fresh_memory fresh
unfolding fresh_memory
fresh_held = record { sized = refl; tool = fresh-decoded; storable = fresh_storable }

stored_holds : (m : List ℕ) (t u : Tool) (n : ℕ) → Holds m t → Storable u → (n ≡ broken_rule → ⊥) → (n ≡ wrong_length → u ≡ t) → Holds (stored n u m) u
unfolding stored
stored_holds m t u n h s a b = go (eqb n broken_rule) (eqb n wrong_length) refl refl
  where
    go : (x y : Bool) → eqb n broken_rule ≡ x → eqb n wrong_length ≡ y → Holds (cond (x || y) m (encoded u m)) u
    go true y p q = absurd (a (eqb-true n broken_rule p))
    go false true p q = record { sized = h.sized; tool = h.tool ∙ sym (b (eqb-true n wrong_length q)); storable = s }
    go false false p q =
        record {
          sized = encoded-length u m ∙ h.sized;
          tool = decoded-encoded u m h.sized s.shaped (omega (arith, s.whole.sound.sent)) s.narrow;
          storable = s;
        }

-- a call on the memory of a tool leaves the memory of the tool that the call gives back
pub left_holds : (m : List ℕ) (t : Tool) (x : Call) → Holds m t → Holds (left m x) (after t x).tool
unfolding left
left_holds m t x h =
    rw h.tool
    (stored_holds m t (after t x).tool (number_of (after t x).answer) h (after_storable t x h.storable) (never_12 t x h.storable.whole) (tool_17 t x))

pub export_holds : (m : List ℕ) (t : Tool) (x : Export) → Holds m t → Holds (memory_of m x) (after t (call_of x)).tool
export_holds m t x h = rw (memory_left m x) (left_holds m t (call_of x) h)

-- what a host reads off a call's results is what the response says
wake_read : (w : Wake) → wake_in (wake_mark w) ≡ w
wake_read None = refl
wake_read Agn = refl

done_read : (b : Bool) → eqb (cond b 1 0) 1 ≡ b
done_read true = refl
done_read false = refl

-- a response of the shapes that calls have: a number, nothing told and no wake-up; or no number
pub data Kind (r : Response) : Type 0 where
  with_number : (n : ℕ) → r.answer ≡ refused n → eqb n none ≡ false → r.wake ≡ None → Kind r
  without : (p : Progress) → r.answer ≡ given p → Kind r

kind : (t : Tool) (x : Call) → Kind (after t x)
kind t x = go (plain t x)
  where
    go : Plain (after t x).answer → Kind (after t x)
    go (numbered n e z) = with_number n e z (ap (λ (r : Response). r.wake) (refusal_leaves t x n e))
    go (unnumbered p e) = without p e

read-request : (r : Response) (lent : RequestLoan) (m : List ℕ) → Kind r → read (request_shown r m lent).number (request_shown r m lent).loan.wake (request_shown r m lent).loan.ended ≡ report_of r
unfolding request_shown cell_after
read-request r lent m (with_number n e z w) = rw (e, z, w)
read-request r lent m (without p e) = rw (e, wake_read r.wake, done_read (is_done (given p)))

read-octet : (r : Response) (lent : OctetLoan) (m : List ℕ) → r.wake ≡ None → Kind r → read (octet_shown r m lent).number 0 (octet_shown r m lent).loan.ended ≡ report_of r
unfolding octet_shown cell_after
read-octet r lent m u (with_number n e z w) = rw (e, z, w)
read-octet r lent m u (without p e) = rw (e, u, done_read (is_done (given p)))

read_event : (r : Response) → r.wake ≡ None → is_done r.answer ≡ false → Kind r → read (number_of r.answer) 0 0 ≡ report_of r
read_event r u d (with_number n e z w) = rw (e, z, w)
read_event r u d (without p e) = rw (u, d, e)

-- the report read off the exported call's results is that of the call by value
pub report_read : (m : List ℕ) (x : Export) → report_in m x ≡ report_of (after (decoded m) (call_of x))
unfolding request_outcome octet_outcome event_outcome
report_read m (request q lent) = read-request (after (decoded m) (call_of (request q lent))) lent m (kind (decoded m) (call_of (request q lent)))
report_read m (octet o lent) =
    let x = call_of (octet o lent) in
    read-octet (after (decoded m) x) lent m (events_unwoken (decoded m) x refl) (kind (decoded m) x)
report_read m gap = read_event (after (decoded m) call.gap) (events_unwoken (decoded m) call.gap refl) (gap_undone (decoded m)) (kind (decoded m) call.gap)
report_read m session_end = read_event (after (decoded m) call.session_end) (events_unwoken (decoded m) call.session_end refl) (session_end_undone (decoded m)) (kind (decoded m) call.session_end)

-- over lists: the memory and the log
pub record Follows (h : List Export) (m : List ℕ) (t : Tool) (l : Log) : Type 0 where
  pub held : Holds (left_in m h) (left_after t (map call_of h))
  pub log : log_in m h l ≡ log_after t (map call_of h) l

pub exports_follow : (h : List Export) (m : List ℕ) (t : Tool) (l : Log) → Holds m t → Follows h m t l
unfolding left_in log_in left_after log_after
exports_follow [] m t l k = record { held = k; log = refl }
exports_follow (x ∷ h) m t l k =
    let report : report_in m x ≡ report_of (after t (call_of x)) = report_read m x ∙ ap (λ (u : Tool). report_of (after u (call_of x))) k.tool in
    let rest = exports_follow h (memory_of m x) (after t (call_of x)).tool (logged (call_of x) (report_of (after t (call_of x))) l) (export_holds m t x k) in
    record { held = rest.held; log = ap (λ (r : Report). log_in (memory_of m x) h (logged (call_of x) r l)) report ∙ rest.log }

fresh_follow : (h : List Export) → Follows h fresh_memory fresh fresh_log
fresh_follow h = exports_follow h fresh_memory fresh fresh_log fresh_held

-- after every list of exported calls on the memory of a fresh tool, refused ones included, the memory holds the tool that the same calls leave by value
pub memory_holds : (h : List Export) → decoded (left_in fresh_memory h) ≡ left_after fresh (map call_of h)
memory_holds h = (fresh_follow h).held.tool

-- "a card .. that .. a step .. gave back is never refused with 12", of tool memory
pub memory_never_12 : (h : List Export) (x : Export) → (report_in (left_in fresh_memory h) x).number ≡ broken_rule → ⊥
memory_never_12 h x e =
    let k = (fresh_follow h).held in
    let t = left_after fresh (map call_of h) in
    let report : report_in (left_in fresh_memory h) x ≡ report_of (after t (call_of x)) = report_read (left_in fresh_memory h) x ∙ ap (λ (u : Tool). report_of (after u (call_of x))) k.tool in
    never_12 t (call_of x) k.storable.whole (sym (ap (λ (r : Report). r.number) report) ∙ e)

-- The claim on wake-ups: over every list of exported calls on the memory of a fresh tool, refused ones included, a wake-up comes before a request exactly where
-- 01 says, and at no other time, as read off each call's own number and cells.
pub exported_wake_ups_rightly : (h : List Export) → Rightly (log_in fresh_memory h fresh_log).entries
exported_wake_ups_rightly h = rw (fresh_follow h).log (wake_ups_rightly (map call_of h))

-- what an octet's response is, as its outcome shows it
module _ (r : Response) (m : List ℕ) (lent : OctetLoan) where
  shows_nothing : r.frame ≡ [] → SendsNothing lent (octet_shown r m lent)
  unfolding octet_shown cell_after fronted
  shows_nothing e = record { buffer = rw e; length = λ z. rw (z, e) }

  shows_aut : (l : Log) (o : ℕ) → Authenticates l o r.frame → number_of r.answer ≡ none → SendsAut l o lent (octet_shown r m lent)
  unfolding octet_shown cell_after
  shows_aut l o a z = record { frame = r.frame; authenticates = a; number = z; told = rw z; buffer = refl }

-- a response with a frame has no number
frame_unnumbered : (t : Tool) (x : Call) → ((after t x).frame ≡ []) ⊎ (number_of (after t x).answer ≡ none)
frame_unnumbered t x = go (plain t x)
  where
    go : Plain (after t x).answer → ((after t x).frame ≡ []) ⊎ (number_of (after t x).answer ≡ none)
    go (numbered n e z) = inl (ap (λ (r : Response). r.frame) (refusal_leaves t x n e))
    go (unnumbered p e) = inr (ap number_of e)

-- An AUT is tied to the arguments of the latest request that was accepted: over every list of exported calls on the memory of a fresh tool, refused ones
-- included, an octet after it sends nothing, or AUT as `Authenticates` says, read off the calls' arguments and results.
pub exported_aut_tied : (h : List Export) (o : ℕ) (lent : OctetLoan)
    → SendsNothing lent (octet_outcome o (left_in fresh_memory h) lent) ⊎ SendsAut (log_in fresh_memory h fresh_log) o lent (octet_outcome o (left_in fresh_memory h) lent)
unfolding octet_outcome
exported_aut_tied h o lent = rw (memory_holds h, (fresh_follow h).log) (pick (aut_tied (map call_of h) o (length lent.frame)) (frame_unnumbered t x))
  where
    t : Tool
    t = left_after fresh (map call_of h)

    x : Call
    x = call.octet_call o (length lent.frame)

    l : Log
    l = log_after fresh (map call_of h) fresh_log

    pick : ((after t x).frame ≡ []) ⊎ Authenticates l o (after t x).frame → ((after t x).frame ≡ []) ⊎ (number_of (after t x).answer ≡ none)
        → SendsNothing lent (octet_shown (after t x) (left_in fresh_memory h) lent) ⊎ SendsAut l o lent (octet_shown (after t x) (left_in fresh_memory h) lent)
    pick (inl e) n = inl (shows_nothing (after t x) (left_in fresh_memory h) lent e)
    pick (inr a) (inl e) = inl (shows_nothing (after t x) (left_in fresh_memory h) lent e)
    pick (inr a) (inr z) = inr (shows_aut (after t x) (left_in fresh_memory h) lent l o a z)
