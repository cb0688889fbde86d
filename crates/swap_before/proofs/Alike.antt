-- A record is judged as before, unless its kind holds 2.
use Prim.Native.Nat.{ℕ, zero, suc, ◌<◌}
use mathlib.Core.Path.{◌≡◌, refl}
use mathlib.Core.Bool.{Bool, true, false, cond, ◌&&◌}
use mathlib.Core.List.{List}
use mathlib.Core.Logic.{◌⊎◌, inl, inr}
use native.Mathlib.Omega.{arith}
use borrow.Author.Tests.{le-leb, lt-leb}
use lib.Dec.{ltb}
use lib.ListN.{length, get_or, drop}
use lib.Seq.{get_or-drop}
use Rattle.number.specs.Groups.{Front, found, none, front_number}
use Rattle.swap.specs.Record.{known_kind, kind_of, length_limit, fits_kind}
use Rattle.swap.specs.Items.{bad, judged, judged_content, good_address, good_kind, good_content, length_field, limited}
use Rattle.swap_before.specs.Before.{known_before, length_limit_before, fits_before, content_before, judged_before}
use Rattle.swap_before.specs.Meeting.{long_kind}

-- of kinds 0 and 1 data is judged alike
content_alike : (kind : ℕ) (f : Front) (s : List ℕ) → kind < long_kind → content_before kind f s ≡ judged_content (kind_of kind) f s
unfolding content_before judged_content good_content fits_before fits_kind kind_of
content_alike kind none s h = refl
content_alike zero (found n w) s h = refl
content_alike (suc zero) (found n w) s h = refl
content_alike (suc (suc kind)) (found n w) s h = let z : ⊥ = omega arith in absurd z

limit_alike : (kind : ℕ) → kind < long_kind → length_limit (kind_of kind) ≡ length_limit_before
unfolding length_limit kind_of
limit_alike zero h = refl
limit_alike (suc zero) h = refl
limit_alike (suc (suc kind)) h = let z : ⊥ = omega arith in absurd z

known_alike : (kind : ℕ) → kind < long_kind → (known_before kind ≡ true) × (known_kind kind ≡ true)
unfolding known_before known_kind
known_alike kind h = (le-leb kind 1 (omega arith), le-leb kind 2 (omega arith))

unknown_alike : (kind : ℕ) → long_kind < kind → (known_before kind ≡ false) × (known_kind kind ≡ false)
unfolding known_before known_kind
unknown_alike kind h = (lt-leb kind 1 (omega arith), lt-leb kind 2 (omega arith))

module _ (least : ℕ) (s : List ℕ) where
  pub short_alike : get_or s 7 0 < long_kind → judged_before least s ≡ judged least s
  unfolding judged_before judged good_kind length_field
  short_alike h =
      let k = known_alike (get_or s 7 0) h in
      rw (get_or-drop 7 s 0 0, k.0, k.1, limit_alike (get_or s 7 0) h, content_alike (get_or s 7 0) (limited length_limit_before (front_number (drop 8 s))) (drop 8 s) h)

  other_alike : long_kind < get_or s 7 0 → judged_before least s ≡ judged least s
  unfolding judged_before judged good_kind
  other_alike h = let k = unknown_alike (get_or s 7 0) h in rw (get_or-drop 7 s 0 0, k.0, k.1) (go (good_address least s) (ltb 0 (length (drop 7 s))))
    where
      go : (a b : Bool) → cond a (cond (b && false) (content_before (get_or s 7 0) (limited length_limit_before (front_number (drop 8 s))) (drop 8 s)) (bad 7)) (bad 0) ≡ cond a (cond (b && false) (judged_content (kind_of (get_or s 7 0)) (length_field (kind_of (get_or s 7 0)) (drop 8 s)) (drop 8 s)) (bad 7)) (bad 0)
      go false b = refl
      go true false = refl
      go true true = refl

  -- an address that is not good is bad for both
  address_alike : good_address least s ≡ false → judged_before least s ≡ judged least s
  unfolding judged_before judged
  address_alike e = rw e

  pub long_before : good_address least s ≡ true → get_or s 7 0 ≡ long_kind → judged_before least s ≡ bad 7
  unfolding judged_before known_before
  long_before e h = rw (e, h) (go (ltb 0 (length (drop 7 s))))
    where
      go : (b : Bool) → cond (b && false) (content_before long_kind (limited length_limit_before (front_number (drop 8 s))) (drop 8 s)) (bad 7) ≡ bad 7
      go false = refl
      go true = refl

  -- the one way to be judged otherwise than before
  pub record NowLong : Type 0 where
    pub before : judged_before least s ≡ bad 7
    pub address : good_address least s ≡ true
    pub kind : get_or s 7 0 ≡ long_kind

  pub alike_or_long : (judged_before least s ≡ judged least s) ⊎ NowLong
  alike_or_long = go (get_or s 7 0) refl (good_address least s) refl
    where
      go : (kind : ℕ) → get_or s 7 0 ≡ kind → (a : Bool) → good_address least s ≡ a → (judged_before least s ≡ judged least s) ⊎ NowLong
      go zero e a q = inl (short_alike (omega arith))
      go (suc zero) e a q = inl (short_alike (omega arith))
      go (suc (suc zero)) e true q = inr (record { before = long_before q e; address = q; kind = e })
      go (suc (suc zero)) e false q = inl (address_alike q)
      go (suc (suc (suc kind))) e a q = inl (other_alike (omega arith))
