-- A walk over the octets of a history, call by call.
use Prim.Native.Nat.{ℕ, zero, suc, ◌+◌, ◌≤◌, ◌<◌}
use mathlib.Core.Bool.{Bool, true, false, cond}
use mathlib.Core.List.{List, [], ◌∷◌}
use mathlib.Core.Path.{◌≡◌, refl, sym, ap, ◌∙◌}
use native.Mathlib.Omega.{arith}
use lib.Dec.{leb}
use lib.ListN.{length, drop, get_or, length-drop, drop_of_length-le}
use lib.Seq.{drop-drop}
use borrow.Author.Tests.{leb-true, le-leb, lt-leb}
use Rattle.card.specs.Events.{gap}
use Rattle.history.specs.Encoding.{size_at}
use Rattle.history.proofs.Decoding.{cut_call, size_within}
use Rattle.memory_history.specs.Claim.{lent_outcome, run}
use Rattle.memory_history.specs.Encoding.{room_width, room_at, memory_call_at, memory_size_at, memory_calls_within, memory_calls_of}

no_second : (h : List ℕ) → length h < 2 → get_or h 1 0 ≡ 0
no_second [] p = refl
no_second (x ∷ []) p = refl
no_second (x ∷ y ∷ h) p = let z : ⊥ = omega arith in absurd z

-- octets that are too few for a room
module _ (h : List ℕ) (cut : length h < room_width) where
  none_behind : drop room_width h ≡ []
  none_behind = drop_of_length-le h {i = room_width} (omega arith)

  pub cut_memory_call : (room : ℕ) → room ≡ get_or h 0 0 → record { room = room; call = gap } ≡ memory_call_at h
  unfolding memory_call_at
  cut_memory_call room e =
      let low : room ≡ room_at h = omega (arith, e, no_second h cut) in
      rw (none_behind, cut_call [] (omega arith), low)

  pub cut_memory_rest : drop (memory_size_at h) h ≡ []
  unfolding memory_size_at
  cut_memory_rest = rw (lt-leb room_width (length h) cut) (drop_of_length-le h {i = length h} (omega arith))

-- octets that have a room
module _ (h : List ℕ) (there : room_width ≤ length h) where
  pub whole_memory_rest : drop (memory_size_at h) h ≡ drop (size_at (drop room_width h)) (drop room_width h)
  unfolding memory_size_at
  whole_memory_rest = rw (le-leb room_width (length h) there) (sym (drop-drop (size_at (drop room_width h)) room_width h))

-- a call takes an octet or more, and no more than there are
pub some_taken : (h : List ℕ) → 0 < length h → (0 < memory_size_at h) × (memory_size_at h ≤ length h)
unfolding memory_size_at
some_taken h p = by (leb room_width (length h)) refl
  where
    by : (b : Bool) → leb room_width (length h) ≡ b
        → let size = cond b (room_width + size_at (drop room_width h)) (length h) in (0 < size) × (size ≤ length h)
    by true e = (omega arith, omega (arith, size_within (drop room_width h), length-drop room_width h, leb-true room_width (length h) e))
    by false e = (p, omega arith)

pub fewer_left : (h rest : List ℕ) → 0 < length h → rest ≡ drop (memory_size_at h) h → length rest < length h
fewer_left h rest p e = omega (arith, (some_taken h p).0, ap length e, length-drop (memory_size_at h) h)

pub calls_none : (n : ℕ) → memory_calls_within n [] ≡ []
unfolding memory_calls_within
calls_none zero = refl
calls_none (suc n) = refl

-- more calls than octets are never read
calls_enough : (n m : ℕ) (h : List ℕ) → length h ≤ n → length h ≤ m → memory_calls_within n h ≡ memory_calls_within m h
unfolding memory_calls_within
calls_enough n m [] p q = calls_none n ∙ sym (calls_none m)
calls_enough zero m (x ∷ h) p q = let z : ⊥ = omega arith in absurd z
calls_enough (suc n) zero (x ∷ h) p q = let z : ⊥ = omega arith in absurd z
calls_enough (suc n) (suc m) (x ∷ h) p q =
    let fewer = fewer_left (x ∷ h) _ (omega arith) refl in
    ap (λ l. memory_call_at (x ∷ h) ∷ l) (calls_enough n m (drop (memory_size_at (x ∷ h)) (x ∷ h)) (omega arith) (omega arith))

-- the calls of a history are its first call and then those of the octets behind it
calls_next : (h : List ℕ) → 0 < length h → memory_calls_of h ≡ memory_call_at h ∷ memory_calls_of (drop (memory_size_at h) h)
unfolding memory_calls_within
calls_next [] p = let z : ⊥ = omega arith in absurd z
calls_next (x ∷ h) p =
    let fewer = fewer_left (x ∷ h) _ p refl in
    ap (λ l. memory_call_at (x ∷ h) ∷ l) (calls_enough (length h) _ (drop (memory_size_at (x ∷ h)) (x ∷ h)) (omega arith) (omega arith))

pub run_next : (m h rest : List ℕ) → 0 < length h → rest ≡ drop (memory_size_at h) h → run m (memory_calls_of h) ≡ run (lent_outcome m (memory_call_at h)).memory (memory_calls_of rest)
unfolding run
run_next m h rest p e = rw (calls_next h p, e)

pub run_end : (m h : List ℕ) → length h ≡ 0 → run m (memory_calls_of h) ≡ m
unfolding run
run_end m [] p = rw (calls_none 0)
run_end m (x ∷ h) p = let z : ⊥ = omega arith in absurd z
