-- A tool that a call gives back stays sound, so no call refuses it with 12.
use Prim.Native.Nat.{◌≤◌}
use mathlib.Core.Path.{◌≡◌, refl, sym, ap, ◌∙◌}
use mathlib.Core.Bool.{true, false}
use mathlib.Core.List.{List, [], ◌∷◌}
use lib.Dec.{lit≤}
use lib.ListN.{length}
use Rattle.octets.proofs.Impossible.{impossible}
use Rattle.numbers.specs.Answer.{number_of}
use Rattle.numbers.specs.Table.{broken_rule}
use Rattle.receiver.specs.Receiver.{most_held, reception_of}
use Rattle.receiver.proofs.Soundness.{SoundReception, fresh-sound, reception_sound, holding-sound, holding_long, holding_reception}
use Rattle.receiver.proofs.Follows.{Keeps, octet_keeps, gap_keeps, session_end_keeps}
use Rattle.wake.specs.declared.Request.{Request}
use Rattle.wake.specs.declared.Request.TheVariants.{Enq, Trf, Rec, Trb, Ib}
use Rattle.tool.specs.declared.Tool.{Tool}
use Rattle.frame.specs.Sizes.{most_programmed}
use Rattle.tool.specs.Parts.{fresh, Response}
use Rattle.tool.specs.Soundness.{sent_length, Sound}
use Rattle.tool.specs.Requests.{Asking, limit_of, running}
use Rattle.tool.specs.Events.{Call, ask, octet_call, gap, session_end, after}
use Rattle.tool.specs.Log.{left_after}
use Rattle.tool.proofs.Sound.{sound_test}
use Rattle.tool.proofs.Courses.{rule, moved, Course, stays, asks, passes, drops, ends, fails, echoes, course}
use Rattle.tool.proofs.Refusals.{unsound_if_12, by_number}

-- a sound tool whose receiver's array is as long as its type says
pub record Whole (t : Tool) : Type 0 where
  pub sound : Sound t
  pub long : length t.receiver.octets ≡ most_held

pub fresh_whole : Whole fresh
fresh_whole = record { sound = record { sent = lit≤ tt; receiver = fresh-sound }; long = refl }

-- another tool with the same receiver
like : (t u : Tool) → u.receiver ≡ t.receiver → sent_length u.phase ≤ most_programmed → Whole t → Whole u
like t u e h k = record { sound = record { sent = h; receiver = rw e k.sound.receiver }; long = rw e k.long }

given_back : {r s : Response} → r ≡ s → Whole s.tool → Whole r.tool
given_back e k = rw (ap (λ (s : Response). s.tool) e) k

rule_keeps : (x : Call) → Keeps (rule x)
rule_keeps (ask q l) = λ h s. s
rule_keeps (octet_call o l) = octet_keeps o
rule_keeps gap = gap_keeps
rule_keeps session_end = session_end_keeps

-- the receiver's step
module _ (x : Call) (t : Tool) (k : Whole t) where
  pub next_sound : SoundReception (rule x (reception_of t.receiver)).next
  next_sound = rule_keeps x (reception_of t.receiver) (reception_sound t.receiver k.sound.receiver k.long)

  pub moved_whole : Whole (moved x t)
  moved_whole =
      let h = (rule x (reception_of t.receiver)).next in
      record {
        sound = record { sent = k.sound.sent; receiver = holding-sound h t.receiver next_sound };
        long = holding_long h t.receiver next_sound k.long;
      }

  pub moved_reception : reception_of (moved x t).receiver ≡ (rule x (reception_of t.receiver)).next
  moved_reception = holding_reception (rule x (reception_of t.receiver)).next t.receiver next_sound

running_fits : (r : Request) (q : Asking) (t : Tool) → length q.content ≤ limit_of r → sent_length t.phase ≤ most_programmed → sent_length (running r q t).phase ≤ most_programmed
running_fits Enq q t w h = lit≤ tt
running_fits Trf q t w h = lit≤ tt
running_fits Rec q t w h = w
running_fits Trb q t w h = lit≤ tt
running_fits Ib q t w h = lit≤ tt

same_receiver : (r : Request) (q : Asking) (t : Tool) → (running r q t).receiver ≡ t.receiver
same_receiver Enq q t = refl
same_receiver Trf q t = refl
same_receiver Rec q t = refl
same_receiver Trb q t = refl
same_receiver Ib q t = refl

course_whole : (t : Tool) (x : Call) (r : Response) → Whole t → Course t x r → Whole r.tool
course_whole t x r k (stays m s e) = given_back e k
course_whole t x r k (asks q l z p a e) = given_back e (like t _ (same_receiver q.request q t) (running_fits q.request q t a.within k.sound.sent) k)
course_whole t x r k (passes v e) = given_back e (moved_whole x t k)
course_whole t x r k (drops v m f e) = given_back e (moved_whole x t k)
course_whole t x r k (ends v i d e) = given_back e (like (moved x t) _ refl (lit≤ tt) (moved_whole x t k))
course_whole t x r k (fails v i m f e) = given_back e (like (moved x t) _ refl (lit≤ tt) (moved_whole x t k))
course_whole t x r k (echoes v c s u w h e) = given_back e (like (moved x t) _ refl (lit≤ tt) (moved_whole x t k))

-- every call gives back a sound tool for a sound tool
pub after_whole : (t : Tool) (x : Call) → Whole t → Whole (after t x).tool
after_whole t x k = course_whole t x (after t x) k (course t x)

pub never_12 : (t : Tool) (x : Call) → Whole t → number_of (after t x).answer ≡ broken_rule → ⊥
never_12 t x k e =
    let z : true ≡ false = sym (sound_test t k.sound) ∙ unsound_if_12 t x (by_number t x broken_rule refl e) in
    impossible (cc)

-- the tool that calls leave of a fresh one
pub left_whole : (t : Tool) (h : List Call) → Whole t → Whole (left_after t h)
unfolding left_after
left_whole t [] k = k
left_whole t (x ∷ h) k = left_whole (after t x).tool h (after_whole t x k)

-- "a card .. that .. a step .. gave back is never refused with 12", of a tool: after every list of calls on a fresh tool, refused ones included
pub fresh_never_12 : (h : List Call) (x : Call) → number_of (after (left_after fresh h) x).answer ≡ broken_rule → ⊥
fresh_never_12 h x = never_12 (left_after fresh h) x (left_whole fresh h fresh_whole)
