-- The test for 12 says what `Sound` says, and a receiver is sound exactly by the reception that it holds.
use Prim.Native.Nat.{ℕ, ◌<◌}
use mathlib.Core.Path.{◌≡◌, refl, sym, ◌∙◌}
use mathlib.Core.Bool.{Bool, true, false, cond, ◌||◌}
use mathlib.Core.List.{List}
use native.Mathlib.Decide.{dec_lt}
use native.Mathlib.Omega.{arith}
use lib.Dec.{eqb}
use lib.ListN.{length, get_or, take}
use lib.Seq.{get_or-take, length-take-le}
use borrow.Author.Tests.{eq-eqb, ne_eqb, eqb-true, lt-ltb, ltb-true}
use Rattle.octets.proofs.Splice.{length-fronted, take-fronted}
use Rattle.numbers.specs.Answer.{Answer, given, refused, refused_at}
use Rattle.numbers.specs.declared.Octets.{Octets}
use Rattle.frame.specs.Checks.{stated_by}
use Rattle.receiver.specs.declared.Receiver.{Receiver}
use Rattle.receiver.specs.Receiving.{Reception, awaiting, skipping, partial}
use Rattle.receiver.specs.Receiver.{most_held, Unfinished, Sound, sound, fresh, stated_n, fewer, reception_of, holding}
use Rattle.octets.proofs.Impossible.{impossible}
use Rattle.receiver.proofs.Fronts.{front_first}
use Rattle.receiver.proofs.Stated.{stated_whole, stated_range}

fewer_unfinished : (n k : ℕ) (s : Answer Octets) → stated_by k ≡ s → fewer n s ≡ true → Unfinished n k
fewer_unfinished n k (given w) e t =
    let g = stated_range k w e in
    record { least = g.least; most = g.most; short = omega (arith, ltb-true n w.0 t, g.whole) }
fewer_unfinished n k (refused number) e t = impossible (cc)
fewer_unfinished n k (refused_at number offset) e t = impossible (cc)

test_partly : (b : Bool) (n k : ℕ) → (b || (eqb n 0 || fewer n (stated_by k))) ≡ true → b ≡ false → 0 < n → Unfinished n k
test_partly true n k e f p = impossible (cc)
test_partly false n k e f p = fewer_unfinished n k (stated_by k) refl (rw (ne_eqb n 0 (λ z. omega arith)) at e)

partly_test : (b : Bool) (n k : ℕ) → (b ≡ false → 0 < n → Unfinished n k) → (b || (eqb n 0 || fewer n (stated_by k))) ≡ true
partly_test true n k c = refl
partly_test false n k c = go (dec_lt 0 n)
  where
    go : Dec (0 < n) → (eqb n 0 || fewer n (stated_by k)) ≡ true
    go (yes p) =
        let d = c refl p in
        rw (ne_eqb n 0 (λ z. omega arith), stated_whole k d.least d.most, lt-ltb n k d.short)
    go (no q) = rw (eq-eqb n 0 (omega arith))

pub test_sound : (r : Receiver) → sound r ≡ true → Sound r
unfolding sound
test_sound r e = record { partly = test_partly r.skipping r.count.0 (stated_n r) e }

pub sound_test : (r : Receiver) → Sound r → sound r ≡ true
unfolding sound
sound_test r s = partly_test r.skipping r.count.0 (stated_n r) s.partly

none_partly : {X : Type 0} (n : ℕ) → n ≡ 0 → 0 < n → X
none_partly n z p = let f : ⊥ = omega arith in absurd f

pub fresh-sound : Sound fresh
fresh-sound = record { partly = λ e. none_partly 0 refl }

pub fresh-awaiting : reception_of fresh ≡ awaiting
unfolding reception_of
fresh-awaiting = refl

-- an empty receiver skips nothing and holds no octet
empty_none : (r : Receiver) → reception_of r ≡ awaiting → (r.skipping ≡ false) × (r.count.0 ≡ 0)
unfolding reception_of
empty_none r = go r.skipping refl (eqb r.count.0 0) refl
  where
    go : (b : Bool) → r.skipping ≡ b → (t : Bool) → eqb r.count.0 0 ≡ t → cond b skipping (cond t awaiting (partial (take r.count.0 r.octets))) ≡ awaiting
        → (r.skipping ≡ false) × (r.count.0 ≡ 0)
    go true p t q e = impossible (cc)
    go false p true q e = (p, eqb-true _ _ q)
    go false p false q e = impossible (cc)

-- so a gap between frames leaves it as it is
pub still_awaiting : (r : Receiver) → reception_of r ≡ awaiting → holding awaiting r ≡ r
unfolding holding
still_awaiting r e =
    let empty = empty_none r e in
    λ i. record { skipping = sym empty.0 i; count = record { 0 = sym empty.1 i }; octets = r.octets }

pub empty_sound : (r : Receiver) → reception_of r ≡ awaiting → Sound r
empty_sound r e = record { partly = λ s. none_partly r.count.0 (empty_none r e).1 }

-- The octets of a partly received frame that 12 does not refuse.
pub record Partly (s : List ℕ) : Type 0 where
  pub some : 0 < length s
  pub unfinished : Unfinished (length s) (get_or s 0 0)

abbrev pub SoundReception : Reception → Type 0
SoundReception awaiting = Unit {0}
SoundReception skipping = Unit {0}
SoundReception (partial s) = Partly s

front_partly : (n : ℕ) (l : List ℕ) → length l ≡ most_held → 0 < n → Unfinished n (get_or l 0 0) → Partly (take n l)
front_partly n l e p c =
    let w : length (take n l) ≡ n = length-take-le n l (omega (arith, c.short, c.most)) in
    let f : get_or (take n l) 0 0 ≡ get_or l 0 0 = get_or-take n l 0 0 p in
    record { some = rw w p; unfinished = rw (w, f) c }

pub reception_sound : (r : Receiver) → Sound r → length r.octets ≡ most_held → SoundReception (reception_of r)
unfolding reception_of
reception_sound r s l = go r.skipping r.count.0 s.partly
  where
    go : (b : Bool) (n : ℕ) → (b ≡ false → 0 < n → Unfinished n (stated_n r)) → SoundReception (cond b skipping (cond (eqb n 0) awaiting (partial (take n r.octets))))
    go true n c = tt
    go false n c = some (dec_lt 0 n)
      where
        some : Dec (0 < n) → SoundReception (cond (eqb n 0) awaiting (partial (take n r.octets)))
        some (yes p) = rw (ne_eqb n 0 (λ z. omega arith)) (front_partly n r.octets l p (c refl p))
        some (no q) = rw (eq-eqb n 0 (omega arith)) tt

-- a receiver that is given a sound reception is sound, keeps its array's length and a count that fits an octet, and holds that reception
pub holding-sound : (h : Reception) (r : Receiver) → SoundReception h → Sound (holding h r)
unfolding holding
holding-sound awaiting r t = record { partly = λ e. none_partly 0 refl }
holding-sound skipping r t = record { partly = λ e p. impossible (cc) }
holding-sound (partial s) r t =
    record { partly = λ e p. rw (front_first s r.octets t.some) t.unfinished }

pub holding_long : (h : Reception) (r : Receiver) → SoundReception h → length r.octets ≡ most_held → length (holding h r).octets ≡ most_held
unfolding holding
holding_long awaiting r t l = l
holding_long skipping r t l = l
holding_long (partial s) r t l = length-fronted s r.octets (omega (arith, t.unfinished)) ∙ l

pub holding_narrow : (h : Reception) (r : Receiver) → SoundReception h → r.count.0 < 256 → (holding h r).count.0 < 256
unfolding holding
holding_narrow awaiting r t l = omega arith
holding_narrow skipping r t l = l
holding_narrow (partial s) r t l = omega (arith, t.unfinished)

pub holding_reception : (h : Reception) (r : Receiver) → SoundReception h → reception_of (holding h r) ≡ h
unfolding holding reception_of
holding_reception awaiting r t = refl
holding_reception skipping r t = refl
holding_reception (partial s) r t =
    rw (ne_eqb (length s) 0 (λ z. omega (arith, t.some)), take-fronted s r.octets)
