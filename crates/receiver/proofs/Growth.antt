-- One octet more of a partly received frame: what its array holds, and whether the frame is complete.
use Prim.Native.Nat.{ℕ, ◌+◌, ◌≤◌, ◌<◌}
use mathlib.Core.Path.{◌≡◌, ◌∙◌}
use mathlib.Core.Bool.{false}
use mathlib.Core.List.{List, [], ◌∷◌, ◌++◌}
use native.Mathlib.Omega.{arith}
use lib.ListN.{length, take, get_or, set, get_or-append}
use lib.Seq.{get_or-take, length-take-le}
use borrow.Author.Tests.{lt-ltb, le-ltb}
use Rattle.std.proofs.lemmas.List.{length_push}
use Rattle.octets.specs.Splice.{spliced, fronted}
use Rattle.octets.proofs.Splice.{spliced_front, take-fronted}
use Rattle.frame.specs.Sizes.{longest_frame}
use Rattle.receiver.specs.declared.Receiver.{Receiver}
use Rattle.receiver.specs.Receiving.{awaiting, partial, silent_outcome, to, grown, verdict_on}
use Rattle.receiver.specs.Receiver.{held_with, holding, no_frame}
use Rattle.receiver.proofs.Fronts.{front_next, store_next}

pub grown_more : (s : List ℕ) → length s < get_or s 0 0 → grown s ≡ to (partial s) silent_outcome
unfolding grown
grown_more s h = rw (lt-ltb _ _ h)

pub grown_whole : (s : List ℕ) → get_or s 0 0 ≤ length s → grown s ≡ to awaiting (verdict_on s)
unfolding grown
grown_whole s h = rw (le-ltb _ _ h)

-- N stays the first octet
pub first_snoc : (s : List ℕ) (o : ℕ) → 0 < length s → get_or (s ++ (o ∷ [])) 0 0 ≡ get_or s 0 0
first_snoc s o p = get_or-append s (o ∷ []) 0 0 p

-- the first n octets of the array l, with one more
module _ (n : ℕ) (l : List ℕ) (o : ℕ) (within : n ≤ length l) where
  held : length (take n l) ≡ n
  held = length-take-le n l within

  pub length_held : length (take n l ++ (o ∷ [])) ≡ n + 1
  length_held = rw (length_push, held)

  pub first_held : 0 < n → get_or (take n l ++ (o ∷ [])) 0 0 ≡ get_or l 0 0
  first_held p = first_snoc (take n l) o (rw held p) ∙ get_or-take n l 0 0 p

  pub whole_front : take (n + 1) (fronted (take n l ++ (o ∷ [])) no_frame) ≡ take n l ++ (o ∷ [])
  whole_front = rw (← length_held) (take-fronted (take n l ++ (o ∷ [])) no_frame)

  pub whole_stored : n < longest_frame → set (spliced no_frame 0 (take n l)) n o ≡ fronted (take n l ++ (o ∷ [])) no_frame
  whole_stored h =
      rw (spliced_front no_frame (take n l) (rw held (omega arith)), ← front_next (take n l) no_frame o (rw held h), held)

-- the receiver that holds one octet more
abbrev pub stored : Receiver → ℕ → Receiver
stored r o = record { skipping = false; count = record { 0 = r.count.0 + 1 }; octets = set r.octets r.count.0 o }

pub stored_holds : (r : Receiver) (o : ℕ) → r.count.0 < length r.octets → stored r o ≡ holding (partial (held_with r o)) r
unfolding holding
stored_holds r o h =
    let w : r.count.0 ≤ length r.octets = omega arith in
    rw (store_next r.count.0 r.octets o h, length_held r.count.0 r.octets o w)
