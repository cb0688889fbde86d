-- Weak keys at the card (02, E5): 21 is given for them alone, and a card that holds one gets 12.
use Prim.Native.Nat.{ℕ, zero, suc}
use mathlib.Core.Path.{◌≡◌, refl}
use mathlib.Core.Bool.{Bool, true, false, not, cond, ◌&&◌}
use mathlib.Core.List.{List}
use mathlib.Core.Logic.{inl, inr}
use native.Mathlib.Omega.{arith}
use lib.Dec.{eqb}
use lib.ListN.{length}
use Rattle.des.specs.WeakKeys.{weak}
use Rattle.numbers.specs.Table.{wrong_address, broken_rule, wrong_length, weak_key}
use Rattle.frame.specs.Sizes.{address_width, number_width}
use Rattle.frame.specs.Addresses.{broadcast}
use Rattle.records.specs.declared.Records.{Records}
use Rattle.records.specs.Finding.{used}
use Rattle.records.specs.Setup.{keeps_rules, contents_number}
use Rattle.records.proofs.Refusals.{Judges, contents_judge}
use Rattle.card.specs.declared.Card.{Card}
use Rattle.card.specs.Setup.{fresh, refused_setup, admitted_with, admitted, after_setup}
use Rattle.card.specs.Soundness.{sound}

module _ (address key : List ℕ) (s : Records) where
  -- 21 is given for a weak key and for nothing else
  pub weak_alone : (after_setup address key s).number ≡ weak_key → weak key ≡ true
  unfolding after_setup admitted admitted_with
  weak_alone =
      go (eqb (length address) address_width && eqb (length key) number_width) (broadcast address) (keeps_rules s) (weak key) (contents_number (used s)) (contents_judge (used s))
    where
      -- the number of contents is another
      contents_other : (n : ℕ) → Judges n → (admitted_with n (fresh address key s)).number ≡ weak_key → ⊥
      contents_other zero h e = omega arith
      contents_other (suc n) (inl z) e = omega arith
      contents_other (suc n) (inr h) e = omega (arith, h.1)

      go : (l b k w : Bool) (n : ℕ) → Judges n
          → (cond l
          (cond b (refused_setup wrong_address) (cond k (cond w (refused_setup weak_key) (admitted_with n (fresh address key s))) (refused_setup broken_rule)))
          (refused_setup wrong_length)
          ).number
          ≡ weak_key
          → w ≡ true
      go false b k w n h e = absurd (omega arith)
      go true true k w n h e = absurd (omega arith)
      go true false false w n h e = absurd (omega arith)
      go true false true true n h e = refl
      go true false true false n h e = absurd (contents_other n h e)

-- a card that holds a weak key breaks a setup rule
pub weak_unsound : (c : Card) → weak c.identity.key ≡ true → sound c ≡ false
unfolding sound
weak_unsound c w = rw w (go (broadcast c.identity.address))
  where
    go : (b : Bool) → (not b && false) ≡ false
    go true = refl
    go false = refl
