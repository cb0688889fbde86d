-- What a refusal leaves is 01's table; 12 is given to tools alone that are not sound, and 21 to programming requests alone with a weak key.
use Prim.Native.Nat.{ℕ}
use mathlib.Core.Path.{◌≡◌, refl, sym, ap, ◌∙◌}
use mathlib.Core.Bool.{false}
use lib.Dec.{eqb}
use borrow.Author.Tests.{ne_eqb}
use Rattle.octets.proofs.Impossible.{impossible}
use Rattle.numbers.specs.Answer.{Answer, given, refused, number_of}
use Rattle.numbers.specs.Table.{none, broken_rule, weak_key}
use Rattle.receiver.specs.declared.Receiver.{Receiver}
use Rattle.tool.specs.declared.Tool.{Tool}
use Rattle.tool.specs.Answers.{Progress, nothing, sent, done}
use Rattle.tool.specs.Parts.{with_receiver, ended, Response, refusing}
use Rattle.tool.specs.Soundness.{sound}
use Rattle.tool.specs.Requests.{progress_of}
use Rattle.tool.specs.Events.{Call, after}
use Rattle.tool.specs.Leaving.{Effect, keeps_all, receiver_only, all_over, effect_of, left_as}
use Rattle.tool.proofs.Courses.{AsksWeakly, Course, stays, asks, passes, drops, ends, fails, echoes, course}

answer_of : {r s : Response} → r ≡ s → r.answer ≡ s.answer
answer_of e = ap (λ (s : Response). s.answer) e

-- an answer without a number is none with one
unrefused : {X : Type 0} {r s : Response} (p : Progress) (n : ℕ) → r ≡ s → s.answer ≡ given p → r.answer ≡ refused n → X
unrefused p n e g q =
    let z : given p ≡ refused n = sym g ∙ sym (answer_of e) ∙ q in
    impossible (cc)

same_number : {r s : Response} {m n : ℕ} → r ≡ s → s.answer ≡ refused m → r.answer ≡ refused n → m ≡ n
same_number {m = m} {n = n} e g q =
    let z : refused m ≡ refused n = sym g ∙ sym (answer_of e) ∙ q in
    cc

-- the response r of the tool t, where it is a refusal, leaves what the table says, sends nothing and hands nothing out
abbrev Leaves : Tool → Response → Type 0
Leaves t r = (n : ℕ) → r.answer ≡ refused n → r ≡ refusing (left_as (effect_of n) t r.tool.receiver) n

leaves : (t u : Tool) (m : ℕ) (r : Response) → r ≡ refusing u m → u ≡ left_as (effect_of m) t u.receiver → Leaves t r
leaves t u m r e k n a =
    let q : m ≡ n = same_number e refl a in
    rw (e, ← q) (ap (λ (v : Tool). refusing v m) k)

module _ (t : Tool) (c : Receiver) (n : ℕ) where
  keeps_all_lem : effect_of n ≡ keeps_all → t ≡ left_as (effect_of n) t c
  unfolding left_as
  keeps_all_lem e = rw e

  receiver_only_lem : effect_of n ≡ receiver_only → with_receiver c t ≡ left_as (effect_of n) t c
  unfolding left_as
  receiver_only_lem e = rw e

  is_over : effect_of n ≡ all_over → ended (with_receiver c t) ≡ left_as (effect_of n) t c
  unfolding left_as
  is_over e = rw e

course_leaves : (t : Tool) (x : Call) (r : Response) → Course t x r → Leaves t r
course_leaves t x r (stays m s e) = leaves t t m r e (keeps_all_lem t t.receiver m s.all)
course_leaves t x r (asks q l z p a e) = λ n b. unrefused (progress_of q.request) n e refl b
course_leaves t x r (passes v e) = λ n b. unrefused nothing n e refl b
course_leaves t x r (drops v m f e) = leaves t _ m r e (receiver_only_lem t _ m f)
course_leaves t x r (ends v i d e) = λ n b. unrefused done n e refl b
course_leaves t x r (fails v i m f e) = leaves t _ m r e (is_over t _ m f)
course_leaves t x r (echoes v c s u w h e) = λ n b. unrefused sent n e refl b

-- what every refusal of every call leaves: 01's table, with nothing sent, nothing handed out and no wake-up
pub refusal_leaves : (t : Tool) (x : Call) (n : ℕ) → (after t x).answer ≡ refused n → after t x ≡ refusing (left_as (effect_of n) t (after t x).tool.receiver) n
refusal_leaves t x = course_leaves t x (after t x) (course t x)

-- 12 is given to tools alone that are not sound
course_unsound : (t : Tool) (x : Call) (r : Response) → Course t x r → r.answer ≡ refused broken_rule → sound t ≡ false
course_unsound t x r (stays m s e) b = s.unsound (same_number e refl b)
course_unsound t x r (asks q l z p a e) b = unrefused (progress_of q.request) broken_rule e refl b
course_unsound t x r (passes v e) b = unrefused nothing broken_rule e refl b
course_unsound t x r (drops v m f e) b = let z : receiver_only ≡ effect_of broken_rule = sym f ∙ ap effect_of (same_number e refl b) in impossible (cc)
course_unsound t x r (ends v i d e) b = unrefused done broken_rule e refl b
course_unsound t x r (fails v i m f e) b = let z : all_over ≡ effect_of broken_rule = sym f ∙ ap effect_of (same_number e refl b) in impossible (cc)
course_unsound t x r (echoes v c s u w h e) b = unrefused sent broken_rule e refl b

pub unsound_if_12 : (t : Tool) (x : Call) → (after t x).answer ≡ refused broken_rule → sound t ≡ false
unsound_if_12 t x = course_unsound t x (after t x) (course t x)

-- 21 is given to programming requests alone with a weak key
course_weak : (t : Tool) (x : Call) (r : Response) → Course t x r → r.answer ≡ refused weak_key → AsksWeakly x
course_weak t x r (stays m s e) b = s.weak (same_number e refl b)
course_weak t x r (asks q l z p a e) b = unrefused (progress_of q.request) weak_key e refl b
course_weak t x r (passes v e) b = unrefused nothing weak_key e refl b
course_weak t x r (drops v m f e) b = let z : receiver_only ≡ effect_of weak_key = sym f ∙ ap effect_of (same_number e refl b) in impossible (cc)
course_weak t x r (ends v i d e) b = unrefused done weak_key e refl b
course_weak t x r (fails v i m f e) b = let z : all_over ≡ effect_of weak_key = sym f ∙ ap effect_of (same_number e refl b) in impossible (cc)
course_weak t x r (echoes v c s u w h e) b = unrefused sent weak_key e refl b

pub asks_weakly_if_21 : (t : Tool) (x : Call) → (after t x).answer ≡ refused weak_key → AsksWeakly x
asks_weakly_if_21 t x = course_weak t x (after t x) (course t x)

-- every call answers with a number, or without one
pub data Plain (a : Answer Progress) : Type 0 where
  numbered : (n : ℕ) → a ≡ refused n → eqb n none ≡ false → Plain a
  unnumbered : (p : Progress) → a ≡ given p → Plain a

effect_numbered : (n : ℕ) (f : Effect) → effect_of n ≡ f → (effect_of none ≡ f → ⊥) → eqb n none ≡ false
effect_numbered n f e d = ne_eqb n none (λ z. d (sym (ap effect_of z) ∙ e))

Course-plain : (t : Tool) (x : Call) (r : Response) → Course t x r → Plain r.answer
Course-plain t x r (stays m s e) = numbered m (answer_of e) s.numbered
Course-plain t x r (asks q l z p a e) = unnumbered (progress_of q.request) (answer_of e)
Course-plain t x r (passes v e) = unnumbered nothing (answer_of e)
Course-plain t x r (drops v m f e) = numbered m (answer_of e) (effect_numbered m receiver_only f (λ z. impossible (cc)))
Course-plain t x r (ends v i d e) = unnumbered done (answer_of e)
Course-plain t x r (fails v i m f e) = numbered m (answer_of e) (effect_numbered m all_over f (λ z. impossible (cc)))
Course-plain t x r (echoes v c s u w h e) = unnumbered sent (answer_of e)

plain_number : (a : Answer Progress) (n : ℕ) → Plain a → eqb n none ≡ false → number_of a ≡ n → a ≡ refused n
plain_number a n (numbered m e z) f q = e ∙ ap refused (sym (ap number_of e) ∙ q)
plain_number a n (unnumbered p e) f q =
    let z : eqb none none ≡ false = rw (← (sym (ap number_of e) ∙ q)) at f in
    impossible (cc)

-- the answer by its number
pub by_number : (t : Tool) (x : Call) (n : ℕ) → eqb n none ≡ false → number_of (after t x).answer ≡ n → (after t x).answer ≡ refused n
by_number t x n = plain_number (after t x).answer n (Course-plain t x (after t x) (course t x))

pub plain : (t : Tool) (x : Call) → Plain (after t x).answer
plain t x = Course-plain t x (after t x) (course t x)
