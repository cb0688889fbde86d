-- When a request runs: after one that was sent and waits, and not after one that is done; with none running, frames are dropped.
use Prim.Native.Nat.{ℕ}
use mathlib.Core.Path.{◌≡◌, refl, sym, ap, ◌∙◌}
use mathlib.Core.Bool.{Bool, true, false, cond}
use Rattle.octets.proofs.Impossible.{impossible}
use Rattle.numbers.specs.Answer.{Answer, given, refused}
use Rattle.numbers.specs.Table.{broken_rule, session_ended}
use Rattle.receiver.specs.declared.Receiver.{Receiver}
use Rattle.receiver.specs.Receiving.{Reception, awaiting, skipping, partial, on_gap}
use Rattle.receiver.specs.Receiver.{reception_of}
use Rattle.wake.specs.declared.Request.{Request}
use Rattle.wake.specs.declared.Request.TheVariants.{Enq, Trf, Rec, Trb, Ib}
use Rattle.tool.specs.declared.Tool.{Tool}
use Rattle.tool.specs.Answers.{Progress, nothing, sent, done, is_done}
use Rattle.tool.specs.Parts.{idle, with_receiver, Response, responding, silent, refusing, over}
use Rattle.tool.specs.Soundness.{sound}
use Rattle.tool.specs.Requests.{Asking, progress_of, running}
use Rattle.tool.specs.Events.{after_step, heard_as, after_gap, after_session_end, Call, octet_call, gap, session_end, after}
use Rattle.tool.proofs.Courses.{moved, Course, stays, asks, passes, drops, ends, fails, echoes, course}

-- what an answer says of the request: it waits for a reply, or it has ended
pub record Says (r : Response) : Type 0 where
  pub waits : r.answer ≡ given sent → idle r.tool.phase ≡ false
  pub over : r.answer ≡ given done → idle r.tool.phase ≡ true

says_of : {r s : Response} → r ≡ s → Says s → Says r
says_of e k = rw e k

running-says : (r : Request) (q : Asking) (t : Tool) → (progress_of r ≡ sent → idle (running r q t).phase ≡ false) × (progress_of r ≡ done → idle (running r q t).phase ≡ true)
running-says Enq q t = (λ e. refl, λ e. impossible (cc))
running-says Trf q t = (λ e. refl, λ e. impossible (cc))
running-says Rec q t = (λ e. refl, λ e. impossible (cc))
running-says Trb q t = (λ e. impossible (cc), λ e. refl)
running-says Ib q t = (λ e. impossible (cc), λ e. refl)

given_alike : (p q : Progress) → given p ≡ given q → p ≡ q
given_alike p q e = cc

Course-says : (t : Tool) (x : Call) (r : Response) → Course t x r → Says r
Course-says t x r (stays n s e) = says_of e (record { waits = λ q. impossible (cc); over = λ q. impossible (cc) })
Course-says t x r (asks q l z p a e) =
    let k = running-says q.request q t in
    says_of e (record { waits = λ b. k.0 (given_alike _ _ b); over = λ b. k.1 (given_alike _ _ b) })
Course-says t x r (passes v e) = says_of e (record { waits = λ q. impossible (cc); over = λ q. impossible (cc) })
Course-says t x r (drops v n f e) = says_of e (record { waits = λ q. impossible (cc); over = λ q. impossible (cc) })
Course-says t x r (ends v i d e) = says_of e (record { waits = λ q. impossible (cc); over = λ q. refl })
Course-says t x r (fails v i n f e) = says_of e (record { waits = λ q. impossible (cc); over = λ q. impossible (cc) })
Course-says t x r (echoes v c s u w h e) = says_of e (record { waits = λ q. refl; over = λ q. impossible (cc) })

-- after "sent" a request runs, after "done" none does: broadcast and initialise, which are told "done", are done once sent
pub says : (t : Tool) (x : Call) → Says (after t x)
says t x = Course-says t x (after t x) (course t x)

-- nothing but the receiver has changed, nothing is sent or handed out, and no request has ended
pub record Dropped (t : Tool) (r : Response) : Type 0 where
  pub response : r ≡ responding (with_receiver r.tool.receiver t) r.answer
  pub unended : r.answer ≡ given done → ⊥

dropped : {t : Tool} {r : Response} (c : Receiver) (a : Answer Progress) → (a ≡ given done → ⊥) → r ≡ responding (with_receiver c t) a → Dropped t r
dropped c a n e = rw e (record { response = refl; unended = n })

Course-drops : (t : Tool) (o l : ℕ) (r : Response) → idle t.phase ≡ true → Course t (octet_call o l) r → Dropped t r
Course-drops t o l r i (stays n s e) = dropped t.receiver (refused n) (λ q. impossible (cc)) e
Course-drops t o l r i (asks q b z p a e) = impossible (cc)
Course-drops t o l r i (passes v e) = dropped _ (given nothing) (λ q. impossible (cc)) e
Course-drops t o l r i (drops v n f e) = dropped _ (refused n) (λ q. impossible (cc)) e
Course-drops t o l r i (ends v w d e) = let z : false ≡ true = sym w ∙ i in impossible (cc)
Course-drops t o l r i (fails v w n f e) = let z : false ≡ true = sym w ∙ i in impossible (cc)
Course-drops t o l r i (echoes v c s u w h e) = let z : false ≡ true = sym (ap idle h.phase) ∙ i in impossible (cc)

-- "with no request running, frames are dropped"
pub idle-drops : (t : Tool) (o l : ℕ) → idle t.phase ≡ true → Dropped t (after t (octet_call o l))
idle-drops t o l i = Course-drops t o l (after t (octet_call o l)) i (course t (octet_call o l))

-- a gap and a session end end no request without a number
pub gap_undone : (t : Tool) → is_done (after t gap).answer ≡ false
unfolding after after_gap heard_as on_gap
gap_undone t = go (sound t) (reception_of t.receiver)
  where
    go : (s : Bool) (h : Reception) → is_done (cond s (heard_as (on_gap h).outcome (after_step (on_gap h) t)) (refusing t broken_rule)).answer ≡ false
    go true awaiting = refl
    go true skipping = refl
    go true (partial s) = refl
    go false h = refl

pub session_end_undone : (t : Tool) → is_done (after t session_end).answer ≡ false
unfolding after after_session_end
session_end_undone t = go (sound t) (idle t.phase)
  where
    go : (s i : Bool) → is_done (cond s (cond i (silent (moved session_end t)) (over (moved session_end t) session_ended)) (refusing t broken_rule)).answer ≡ false
    go true true = refl
    go true false = refl
    go false i = refl
