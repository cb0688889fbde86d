-- Every history is the one that its octets stand for: each call is read back whole, and the next one begins behind it.
use Prim.Native.Nat.{ℕ, zero, suc, ◌+◌, ◌≤◌}
use mathlib.Core.Bool.{true}
use mathlib.Core.List.{List, [], ◌∷◌, ◌++◌}
use mathlib.Core.Path.{◌≡◌, refl, ap₂, ◌∙◌}
use native.Mathlib.Omega.{arith}
use lib.ListN.{length, length-append}
use lib.Seq.{drop-append_seam, drop-drop}
use borrow.Author.Tests.{le-leb}
use Rattle.octets.proofs.Parts.{part_middle}
use Rattle.card.specs.Events.{Call, octet_call, gap, session_end, meter_write}
use Rattle.history.specs.Encoding.{head_width, call_kind, whole_at, text_at, head_at, call_of, call_at, size_at, calls_within, calls_of, packed, octets_of_call, octets_of_calls}
use Rattle.history.proofs.Decoding.{calls_none}

module _ (kind argument reply : ℕ) (text rest : List ℕ) where
  abbrev pub here : List ℕ
  here = packed kind argument reply text ++ rest

  whole : whole_at here ≡ true
  whole = le-leb (head_width + length text) (length here) (omega (arith, length-append text rest))

  text_read : text_at here ≡ text
  unfolding text_at
  text_read = part_middle (kind ∷ argument ∷ reply ∷ length text ∷ []) text rest head_width (head_width + length text) refl refl

  pub call_read : call_at here ≡ call_of (call_kind kind) argument reply text
  unfolding call_at head_at
  call_read = rw (whole, text_read)

  pub size_read : size_at here ≡ head_width + length text
  unfolding head_at
  size_read = rw (whole, size_at)

  first_read : (n : ℕ) → calls_within (suc n) here ≡ call_of (call_kind kind) argument reply text ∷ calls_within n rest
  unfolding calls_within
  first_read n = rw (call_read, size_read, ← drop-drop (length text) head_width here, drop-append_seam text rest)

call_back : (k : Call) (rest : List ℕ) (n : ℕ) → calls_within (suc n) (octets_of_call k ++ rest) ≡ k ∷ calls_within n rest
unfolding octets_of_call call_of call_kind
call_back (octet_call o loan) rest n = first_read 0 o loan.reply loan.na2 rest n
call_back (meter_write t d) rest n = first_read 1 t 0 d rest n
call_back session_end rest n = first_read 2 0 0 [] rest n
call_back gap rest n = first_read 3 0 0 [] rest n

some_octets : (k : Call) → 1 ≤ length (octets_of_call k)
unfolding octets_of_call
some_octets (octet_call o loan) = omega arith
some_octets (meter_write t d) = omega arith
some_octets session_end = omega arith
some_octets gap = omega arith

within_back : (h : List Call) (n : ℕ) → length (octets_of_calls h) ≤ n → calls_within n (octets_of_calls h) ≡ h
unfolding octets_of_calls
within_back [] n p = calls_none n
within_back (k ∷ h) zero p = let z : ⊥ = omega (arith, length-append (octets_of_call k) (octets_of_calls h), some_octets k) in absurd z
within_back (k ∷ h) (suc n) p =
    call_back k (octets_of_calls h) n ∙ ap₂ ◌∷◌ refl (within_back h n (omega (arith, length-append (octets_of_call k) (octets_of_calls h), some_octets k)))

pub octets_back : (h : List Call) → calls_of (octets_of_calls h) ≡ h
octets_back h = within_back h (length (octets_of_calls h)) (omega arith)
