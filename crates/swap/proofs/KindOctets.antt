-- The octet of a kind and the kind of an octet are each other's, and which octets are the long record's.
use Prim.Native.Nat.{ℕ, zero, suc, ◌<◌}
use mathlib.Core.Path.{◌≡◌, refl, ap}
use mathlib.Core.Bool.{Bool, true, false}
use mathlib.Core.Logic.{◌⊎◌, inl, inr}
use native.Mathlib.Omega.{arith}
use lib.Dec.{leb, lit<}
use borrow.Author.Tests.{leb-true}
use Rattle.std.specs.Prelude.{Ok, Err}
use Rattle.swap.specs.declared.kind.Kind.{Kind}
use Rattle.swap.specs.declared.kind.Kind.TheVariants.{Raw, Label, Long}
use Rattle.swap.specs.declared.kind.UnknownKind.{UnknownKind}
use Rattle.swap.specs.Record.{kind_octet, known_kind, kind_of}
use Rattle.swap.specs.Kind.{kind_read}

pub octet_kept : (octet : ℕ) → known_kind octet ≡ true → kind_octet (kind_of octet) ≡ octet
unfolding known_kind kind_of
octet_kept zero h = refl
octet_kept (suc zero) h = refl
octet_kept (suc (suc zero)) h = refl
octet_kept (suc (suc (suc n))) h =
    let k = leb-true (suc (suc (suc n))) 2 h in
    let z : ⊥ = omega arith in
    absurd z

pub kind_kept : (kind : Kind) → (known_kind (kind_octet kind) ≡ true) × (kind_of (kind_octet kind) ≡ kind)
unfolding known_kind kind_of
kind_kept Raw = (refl, refl)
kind_kept Label = (refl, refl)
kind_kept Long = (refl, refl)

not_long : (kind : Kind) → kind_octet kind < 2 → kind ≡ Long → ⊥
not_long kind h e = let z : kind_octet kind ≡ 2 = ap kind_octet e in omega arith

-- a known kind is 0 or 1, or it is the long record's
pub long_or_not : (octet : ℕ) → known_kind octet ≡ true → ((leb octet 1 ≡ true) × (kind_of octet ≡ Long → ⊥)) ⊎ ((leb octet 1 ≡ false) × (kind_of octet ≡ Long))
unfolding known_kind kind_of
long_or_not zero h = inl (refl, not_long Raw (lit< tt))
long_or_not (suc zero) h = inl (refl, not_long Label (lit< tt))
long_or_not (suc (suc zero)) h = inr (refl, refl)
long_or_not (suc (suc (suc n))) h =
    let k = leb-true (suc (suc (suc n))) 2 h in
    let z : ⊥ = omega arith in
    absurd z

-- what reading a kind tells of its octet
pub kind_unknown : (octet : ℕ) (e : UnknownKind) → kind_read octet ≡ Err e → known_kind octet ≡ false
unfolding kind_read
kind_unknown octet e q = go (known_kind octet) refl
  where
    go : (b : Bool) → known_kind octet ≡ b → known_kind octet ≡ false
    go true h = let r = rw h at q in cc
    go false h = h

pub kind_known : (octet : ℕ) (kind : Kind) → kind_read octet ≡ Ok kind → (known_kind octet ≡ true) × (kind ≡ kind_of octet)
unfolding kind_read
kind_known octet kind q = go (known_kind octet) refl
  where
    go : (b : Bool) → known_kind octet ≡ b → (known_kind octet ≡ true) × (kind ≡ kind_of octet)
    go true h = let r = rw h at q in (h, cc)
    go false h = let r = rw h at q in let z : ◌≡◌ {A = ℕ} 0 1 = cc in let y : ⊥ = omega arith in absurd y
