-- A walk over the octets of a history, call by call.
use Prim.Native.Nat.{ℕ, zero, suc, ◌+◌, ◌-◌, ◌≤◌, ◌<◌}
use mathlib.Core.Bool.{Bool, true, false, cond}
use mathlib.Core.List.{List, [], ◌∷◌}
use mathlib.Core.Path.{◌≡◌, refl, sym, ap, ◌∙◌}
use native.Mathlib.Omega.{arith}
use lib.ListN.{length, take, drop, get_or, length-drop}
use lib.Seq.{take_all}
use Rattle.std.proofs.Common.{◌==◌}
use borrow.Author.Tests.{eqb-true, eqb-false, leb-true, lt-leb}
use Rattle.card.specs.declared.Card.{Card}
use Rattle.card.specs.Events.{gap, after}
use Rattle.history.specs.declared.calls.Head.{Head}
use Rattle.history.specs.Claim.{run}
use Rattle.history.specs.Encoding.{head_width, whole_at, whole_head, cut_head, head_at, call_of, call_at, size_at, calls_within, calls_of}

-- what a pattern of the code has of the octets behind the first n
pub behind : (n : ℕ) (h : List ℕ) → (take (length h - n) (drop n h) ≡ drop n h) × (length (take (length h - n) (drop n h)) ≡ length h - n)
behind n h =
    let all = take_all (length h - n) (drop n h) (omega (arith, length-drop n h)) in
    (all, ap length all ∙ length-drop n h)

-- octets that end before the call that they begin with
pub cut_call : (h : List ℕ) → length h < head_width + get_or h 3 0 → call_at h ≡ gap
unfolding call_at head_at call_of
cut_call h cut = rw (lt-leb _ _ cut)

-- a call takes no more octets than there are, and an octet or more where there is one
pub size_within : (h : List ℕ) → size_at h ≤ length h
unfolding head_at
size_within h = by (whole_at h) refl
  where
    by : (b : Bool) → whole_at h ≡ b → (cond b (whole_head h) (cut_head h)).size.0 ≤ length h
    by true e = leb-true _ _ e
    by false e = omega arith

pub head_within : (h : List ℕ) (x : Head) → x ≡ head_at h → x.size.0 ≤ length h
head_within h x e = omega (arith, ap (λ (y : Head). y.size.0) e, size_within h)

pub some_taken : (h : List ℕ) → 0 < length h → (0 < size_at h) × (size_at h ≤ length h)
unfolding head_at
some_taken h p = (by (whole_at h), size_within h)
  where
    by : (b : Bool) → 0 < (cond b (whole_head h) (cut_head h)).size.0
    by true = omega arith
    by false = p

-- the code's test of whether octets are left
pub some_left : (h : List ℕ) → false ≡ (length h == 0) → 0 < length h
some_left h e = let some : length h ≡ 0 → ⊥ = eqb-false (length h) 0 (sym e) in omega arith

pub none_left : (h : List ℕ) → true ≡ (length h == 0) → length h ≡ 0
none_left h e = eqb-true (length h) 0 (sym e)

-- so the octets behind it are fewer
pub fewer_left : (h rest : List ℕ) → 0 < length h → rest ≡ drop (size_at h) h → length rest < length h
fewer_left h rest p e = omega (arith, (some_taken h p).0, ap length e, length-drop (size_at h) h)

pub calls_none : (n : ℕ) → calls_within n [] ≡ []
unfolding calls_within
calls_none zero = refl
calls_none (suc n) = refl

-- more calls than octets are never read
calls_enough : (n m : ℕ) (h : List ℕ) → length h ≤ n → length h ≤ m → calls_within n h ≡ calls_within m h
unfolding calls_within
calls_enough n m [] p q = calls_none n ∙ sym (calls_none m)
calls_enough zero m (x ∷ h) p q = let z : ⊥ = omega arith in absurd z
calls_enough (suc n) zero (x ∷ h) p q = let z : ⊥ = omega arith in absurd z
calls_enough (suc n) (suc m) (x ∷ h) p q =
    let fewer = fewer_left (x ∷ h) _ (omega arith) refl in
    ap (λ l. call_at (x ∷ h) ∷ l) (calls_enough n m (drop (size_at (x ∷ h)) (x ∷ h)) (omega arith) (omega arith))

-- the calls of a history are its first call and then those of the octets behind it
pub calls_next : (h : List ℕ) → 0 < length h → calls_of h ≡ call_at h ∷ calls_of (drop (size_at h) h)
unfolding calls_within
calls_next [] p = let z : ⊥ = omega arith in absurd z
calls_next (x ∷ h) p =
    let fewer = fewer_left (x ∷ h) _ p refl in
    ap (λ l. call_at (x ∷ h) ∷ l) (calls_enough (length h) _ (drop (size_at (x ∷ h)) (x ∷ h)) (omega arith) (omega arith))

pub run_next : (c : Card) (h rest : List ℕ) → 0 < length h → rest ≡ drop (size_at h) h → run c (calls_of h) ≡ run (after c (call_at h)).card (calls_of rest)
unfolding run
run_next c h rest p e = rw (calls_next h p, e)

pub run_end : (c : Card) (h : List ℕ) → length h ≡ 0 → run c (calls_of h) ≡ c
unfolding run
run_end c [] p = rw (calls_none 0)
run_end c (x ∷ h) p = let z : ⊥ = omega arith in absurd z
