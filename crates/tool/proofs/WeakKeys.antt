-- Weak keys at the tool (02, E5): 21 is given to programming requests alone, and the key that a tool keeps is no reason for 12.
use Prim.Native.Nat.{ℕ}
use mathlib.Core.Path.{◌≡◌, refl}
use mathlib.Core.Bool.{true, false≢true}
use mathlib.Core.List.{List}
use Rattle.des.specs.WeakKeys.{weak}
use Rattle.numbers.specs.Answer.{refused}
use Rattle.numbers.specs.Table.{weak_key}
use Rattle.wake.specs.declared.Request.{Request}
use Rattle.wake.specs.declared.Request.TheVariants.{Enq, Trf, Rec, Trb, Ib}
use Rattle.tool.specs.declared.Tool.{Tool}
use Rattle.tool.specs.Soundness.{sound}
use Rattle.tool.specs.Requests.{Asking, weakly_keyed, keeping}
use Rattle.tool.specs.Events.{Call, ask, octet_call, gap, session_end, after}
use Rattle.tool.proofs.Courses.{AsksWeakly}
use Rattle.tool.proofs.Refusals.{asks_weakly_if_21}

-- no key that a tool keeps is a reason for 12
pub any_key_sound : (t : Tool) (key : List ℕ) → sound (keeping key t.na1 t.sent t) ≡ sound t
unfolding sound
any_key_sound t key = refl

-- the call is a programming request with a weak key
pub record ProgramsWeakly (x : Call) : Type 0 where
  pub asking : Asking
  pub buffer_length : ℕ
  pub asks : x ≡ ask asking buffer_length
  pub programs : asking.request ≡ Rec
  pub weak : weak asking.key ≡ true

weakly_keyed_lem : (r : Request) (key : List ℕ) → weakly_keyed r key ≡ true → (r ≡ Rec) × (weak key ≡ true)
weakly_keyed_lem Rec key e = (refl, e)
weakly_keyed_lem Enq key e = absurd (false≢true e)
weakly_keyed_lem Trf key e = absurd (false≢true e)
weakly_keyed_lem Trb key e = absurd (false≢true e)
weakly_keyed_lem Ib key e = absurd (false≢true e)

asks_weakly : (x : Call) → AsksWeakly x → ProgramsWeakly x
asks_weakly (ask q l) e =
    let both = weakly_keyed_lem q.request q.key e in
    record { asking = q; buffer_length = l; asks = refl; programs = both.0; weak = both.1 }
asks_weakly (octet_call o l) e = absurd e
asks_weakly gap e = absurd e
asks_weakly session_end e = absurd e

-- 21 is given to a programming request with a weak key and to nothing else, so to no octet, gap or session end
pub weak_alone : (t : Tool) (x : Call) → (after t x).answer ≡ refused weak_key → ProgramsWeakly x
weak_alone t x e = asks_weakly x (asks_weakly_if_21 t x e)
