-- Every history of exported calls is the one that its octets stand for.
use Prim.Native.Nat.{ℕ, zero, suc, ◌+◌, ◌/◌, ◌%◌, ◌≤◌}
use mathlib.Core.List.{List, [], ◌∷◌, ◌++◌}
use mathlib.Core.Path.{◌≡◌, refl, ap₂, ◌∙◌}
use native.Mathlib.Nat.{div-add-mod'}
use native.Mathlib.Omega.{arith}
use lib.ListN.{length, length-append}
use lib.Seq.{drop-append_seam, drop-drop}
use borrow.Author.Tests.{le-leb}
use Rattle.card.specs.Events.{Call, octet_call, gap, session_end, meter_write}
use Rattle.history.specs.Encoding.{call_kind, call_of, call_at, size_at, octets_of_call}
use Rattle.history.proofs.RoundTrip.{call_read, size_read}
use Rattle.memory_history.specs.Claim.{MemoryCall}
use Rattle.memory_history.specs.Encoding.{room_width, room_at, memory_call_at, memory_size_at, memory_calls_within, memory_calls_of, octets_of_memory_call, octets_of_memory_calls}
use Rattle.memory_history.proofs.Decoding.{calls_none}

-- a call by value is read back whole
call_back : (k : Call) (rest : List ℕ) → call_at (octets_of_call k ++ rest) ≡ k
unfolding octets_of_call call_of call_kind
call_back (octet_call o loan) rest = call_read 0 o loan.reply loan.na2 rest
call_back (meter_write t d) rest = call_read 1 t 0 d rest
call_back session_end rest = call_read 2 0 0 [] rest
call_back gap rest = call_read 3 0 0 [] rest

size_back : (k : Call) (rest : List ℕ) → size_at (octets_of_call k ++ rest) ≡ length (octets_of_call k)
unfolding octets_of_call
size_back (octet_call o loan) rest = size_read 0 o loan.reply loan.na2 rest ∙ omega arith
size_back (meter_write t d) rest = size_read 1 t 0 d rest ∙ omega arith
size_back session_end rest = size_read 2 0 0 [] rest ∙ omega arith
size_back gap rest = size_read 3 0 0 [] rest ∙ omega arith

module _ (k : MemoryCall) (rest : List ℕ) where
  abbrev here : List ℕ
  here = k.room % 256 ∷ k.room / 256 ∷ (octets_of_call k.call ++ rest)

  room_read : room_at here ≡ k.room
  room_read = omega (arith, div-add-mod' k.room 256)

  memory_call_read : memory_call_at here ≡ k
  unfolding memory_call_at
  memory_call_read = rw (room_read, call_back k.call rest)

  memory_size_read : memory_size_at here ≡ room_width + length (octets_of_call k.call)
  unfolding memory_size_at
  memory_size_read = rw (le-leb room_width (length here) (omega arith), size_back k.call rest)

  first_back : (n : ℕ) → memory_calls_within (suc n) (octets_of_memory_call k ++ rest) ≡ k ∷ memory_calls_within n rest
  unfolding memory_calls_within octets_of_memory_call
  first_back n =
      rw (memory_call_read, memory_size_read, ← drop-drop (length (octets_of_call k.call)) room_width here, drop-append_seam (octets_of_call k.call) rest)

some_octets : (k : MemoryCall) → 1 ≤ length (octets_of_memory_call k)
unfolding octets_of_memory_call
some_octets k = omega arith

within_back : (h : List MemoryCall) (n : ℕ) → length (octets_of_memory_calls h) ≤ n → memory_calls_within n (octets_of_memory_calls h) ≡ h
unfolding octets_of_memory_calls
within_back [] n p = calls_none n
within_back (k ∷ h) zero p = let z : ⊥ = omega (arith, length-append (octets_of_memory_call k) (octets_of_memory_calls h), some_octets k) in absurd z
within_back (k ∷ h) (suc n) p =
    first_back k (octets_of_memory_calls h) n ∙ ap₂ ◌∷◌ refl (within_back h n (omega (arith, length-append (octets_of_memory_call k) (octets_of_memory_calls h), some_octets k)))

pub memory_octets_back : (h : List MemoryCall) → memory_calls_of (octets_of_memory_calls h) ≡ h
memory_octets_back h = within_back h (length (octets_of_memory_calls h)) (omega arith)
