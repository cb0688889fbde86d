-- A tool that memory can hold: sound, with arrays as long as their types say and a count that fits an octet. Every call gives such a tool back.
use Prim.Native.Nat.{ℕ, ◌+◌, ◌≤◌, ◌<◌}
use mathlib.Core.Path.{◌≡◌, ap, ◌∙◌}
use mathlib.Core.Bool.{Bool, true, false, cond, ◌&&◌}
use mathlib.Core.List.{List}
use native.Mathlib.Omega.{arith}
use lib.Dec.{ltb, lit≤}
use lib.ListN.{length}
use Rattle.octets.proofs.Splice.{length-fronted}
use Rattle.receiver.specs.declared.Receiver.{Receiver}
use Rattle.receiver.specs.Receiver.{reception_of}
use Rattle.receiver.proofs.Soundness.{holding_narrow}
use Rattle.receiver_memory.specs.Receiver.{most_held}
use Rattle.wake.specs.declared.Last.{Last}
use Rattle.wake.specs.declared.WakeUps.{WakeUps}
use Rattle.wake.specs.declared.Request.{Request}
use Rattle.wake.specs.declared.Request.TheVariants.{Enq, Trf, Rec, Trb, Ib}
use Rattle.wake.specs.Clauses.{enq_or_trf, most_exchanges}
use Rattle.wake.specs.Rule as wake
use Rattle.tool.specs.declared.Phase.{Phase}
use Rattle.tool.specs.declared.Tool.{Tool}
use Rattle.frame.specs.Sizes.{address_width}
use Rattle.tool.specs.Parts.{last_of, fresh, in_phase, with_receiver, with_waking, Response}
use Rattle.tool.specs.Requests.{Asking, limit_of, waiting, running}
use Rattle.tool.specs.Events.{Call, after}
use Rattle.tool.proofs.Admission.{Lent}
use Rattle.tool.proofs.Courses.{rule, moved, Course, stays, asks, passes, drops, ends, fails, echoes, course}
use Rattle.tool.proofs.StaysSound.{Whole, fresh_whole, next_sound, moved_whole, after_whole}
use Rattle.tool_memory.proofs.Shape.{Shaped, fresh_shaped}

record Fits (t : Tool) : Type 0 where
  pub shaped : Shaped t
  pub narrow : t.receiver.count.0 < 256

-- a tool with one of its parts another
module _ (t : Tool) (f : Fits t) where
  phase_fits : (p : Phase) → Fits (in_phase p t)
  phase_fits p = let s = f.shaped in record { shaped = record { ads = s.ads; key = s.key; na1 = s.na1; sent = s.sent; station = s.station; octets = s.octets }; narrow = f.narrow }

  waking_fits : (w : WakeUps) → length w.station ≡ address_width → Fits (with_waking w t)
  waking_fits w e = let s = f.shaped in record { shaped = record { ads = s.ads; key = s.key; na1 = s.na1; sent = s.sent; station = e; octets = s.octets }; narrow = f.narrow }

  receiver_fits : (r : Receiver) → length r.octets ≡ most_held → r.count.0 < 256 → Fits (with_receiver r t)
  receiver_fits r e h = let s = f.shaped in record { shaped = record { ads = s.ads; key = s.key; na1 = s.na1; sent = s.sent; station = s.station; octets = e }; narrow = h }

  waiting_fits : (p : Phase) (ads : List ℕ) (adp : ℕ) → length ads ≡ address_width → Fits (waiting p ads adp t)
  waiting_fits p ads adp e = let s = f.shaped in record { shaped = record { ads = e; key = s.key; na1 = s.na1; sent = s.sent; station = s.station; octets = s.octets }; narrow = f.narrow }

asked_station : (last : Last) (w : WakeUps) (r : Request) (ads : List ℕ) → length ads ≡ address_width → length w.station ≡ address_width → length (wake.asked last w r ads).station ≡ address_width
unfolding wake.asked
asked_station last w r ads a e = go (enq_or_trf r)
  where
    go : (b : Bool) → length (cond b (wake.calling last w ads) (wake.otherwise w)).station ≡ address_width
    go true = a
    go false = e

succeeded_station : (last : Last) (w : WakeUps) → length w.station ≡ address_width → length (wake.succeeded last w).station ≡ address_width
unfolding wake.succeeded
succeeded_station last w e = go (wake.last_enq_trf last && ltb w.successes.0 most_exchanges)
  where
    go : (b : Bool) → length (cond b (wake.with_successes (w.successes.0 + 1) w) w).station ≡ address_width
    go true = e
    go false = e

-- a request that was sent
running_fits : (r : Request) (q : Asking) (l : ℕ) (t : Tool) → Lent q.ads q.key q.na1 l → length q.content ≤ limit_of r → Fits t → Fits (running r q t)
running_fits Enq q l t p h f = waiting_fits t f _ q.ads q.adp p.address
running_fits Trf q l t p h f = waiting_fits t f _ q.ads q.adp p.address
running_fits Rec q l t p h f =
    let s = f.shaped in
    record {
      shaped = record { ads = p.address; key = p.secret; na1 = p.first; sent = length-fronted q.content t.sent (omega (arith, s.sent)) ∙ s.sent; station = s.station; octets = s.octets };
      narrow = f.narrow;
    }
running_fits Trb q l t p h f = phase_fits t f _
running_fits Ib q l t p h f = phase_fits t f _

same_waking : (r : Request) (q : Asking) (t : Tool) → length t.waking.station ≡ address_width → length (wake.asked (last_of t.phase) t.waking r q.ads).station ≡ address_width → Fits (running r q t)
    → Fits (with_waking (wake.asked (last_of t.phase) t.waking r q.ads) (running r q t))
same_waking r q t e a f = waking_fits (running r q t) f (wake.asked (last_of t.phase) t.waking r q.ads) a

moved_fits : (x : Call) (t : Tool) → Whole t → Fits t → Fits (moved x t)
moved_fits x t k f = receiver_fits t f _ (moved_whole x t k).long (holding_narrow (rule x (reception_of t.receiver)).next t.receiver (next_sound x t k) f.narrow)

given_back : {r s : Response} → r ≡ s → Fits s.tool → Fits r.tool
given_back e f = rw (ap (λ (s : Response). s.tool) e) f

course_fits : (t : Tool) (x : Call) (r : Response) → Whole t → Fits t → Course t x r → Fits r.tool
course_fits t x r k f (stays m s e) = given_back e f
course_fits t x r k f (asks q l z p a e) =
    given_back e
    (same_waking q.request q t f.shaped.station (asked_station (last_of t.phase) t.waking q.request q.ads p.address f.shaped.station) (running_fits q.request q l t p a.within f))
course_fits t x r k f (passes v e) = given_back e (moved_fits x t k f)
course_fits t x r k f (drops v m g e) = given_back e (moved_fits x t k f)
course_fits t x r k f (ends v i d e) =
    given_back e (waking_fits _ (phase_fits _ (moved_fits x t k f) _) (wake.succeeded (last_of t.phase) t.waking) (succeeded_station (last_of t.phase) t.waking f.shaped.station))
course_fits t x r k f (fails v i m g e) = given_back e (phase_fits _ (moved_fits x t k f) _)
course_fits t x r k f (echoes v c s u w h e) = given_back e (phase_fits _ (moved_fits x t k f) _)

pub record Storable (t : Tool) : Type 0 where
  pub whole : Whole t
  pub shaped : Shaped t
  pub narrow : t.receiver.count.0 < 256

pub fresh_storable : Storable fresh
fresh_storable = record { whole = fresh_whole; shaped = fresh_shaped; narrow = lit≤ tt }

pub after_storable : (t : Tool) (x : Call) → Storable t → Storable (after t x).tool
after_storable t x s =
    let f = course_fits t x (after t x) s.whole (record { shaped = s.shaped; narrow = s.narrow }) (course t x) in
    record { whole = after_whole t x s.whole; shaped = f.shaped; narrow = f.narrow }
