-- The card that an accepted setup gives, and its book: both are fresh, so they agree.
use Prim.Native.Nat.{ℕ, zero, suc}
use mathlib.Core.Bool.{Bool, true, false, cond, ◌&&◌, and-eq-true_iff}
use mathlib.Core.List.{List}
use mathlib.Core.Path.{◌≡◌, refl}
use native.Mathlib.Omega.{arith}
use lib.Dec.{eqb}
use lib.ListN.{length}
use borrow.Author.Tests.{eqb-true}
use Rattle.des.specs.WeakKeys.{weak}
use Rattle.numbers.specs.Table.{none, wrong_address, broken_rule, wrong_length, weak_key}
use Rattle.frame.specs.Sizes.{address_width, number_width}
use Rattle.frame.specs.Addresses.{broadcast}
use Rattle.records.specs.declared.Records.{Records}
use Rattle.records.specs.Finding.{used}
use Rattle.records.specs.Setup as records
use Rattle.records.specs.Setup.{keeps_rules, contents_number}
use Rattle.records.proofs.Soundness.{sound_means}
use Rattle.receiver.proofs.Soundness.{fresh-awaiting}
use Rattle.card.specs.declared.Card.{Card}
use Rattle.card.specs.Parts.{Response}
use Rattle.card.specs.Setup.{fresh, admitted_with, admitted, after_setup, refused_setup}
use Rattle.history.specs.Book as book
use Rattle.history.specs.Book.{setup_of}
use Rattle.history.specs.Claim.{Arrays}
use Rattle.history.proofs.Notes.{first_noted}
use Rattle.history.proofs.Agreement.{Agrees}

module _ (address key : List ℕ) (given : Records) where
  -- the card of an accepted setup, and what setup's checks say of its arguments
  pub record Accepted (c : Card) : Type 0 where
    pub card : c ≡ fresh address key given
    pub sound : records.Sound given
    pub six : length address ≡ address_width
    pub eight : length key ≡ number_width
    pub own : broadcast address ≡ false
    pub strong : weak key ≡ false

  abbrev Admits : Response → Type 0
  Admits r = r.number ≡ none → Accepted r.card

  refuses : {X : Type 0} (n : ℕ) → suc n ≡ none → X
  refuses n h = let z : ⊥ = omega arith in absurd z

  module _ (six : length address ≡ address_width) (eight : length key ≡ number_width) where
    by_contents : (n : ℕ) → contents_number (used given) ≡ n → weak key ≡ false → keeps_rules given ≡ true → broadcast address ≡ false
        → Admits (admitted_with n (fresh address key given))
    unfolding admitted_with records.sound
    by_contents zero e strong k own h =
        record { card = refl; sound = (sound_means given).0 (rw (k, e)); six = six; eight = eight; own = own; strong = strong }
    by_contents (suc n) e strong k own h = refuses n h

    -- 21, or the number of the contents
    keyed : Bool → Response
    keyed w = cond w (refused_setup weak_key) (admitted_with (contents_number (used given)) (fresh address key given))

    by_key : (x : Bool) → weak key ≡ x → keeps_rules given ≡ true → broadcast address ≡ false → Admits (keyed x)
    unfolding keyed
    by_key true e k own h = refuses _ h
    by_key false e k own h = by_contents (contents_number (used given)) refl e k own h

    by_rules : (x : Bool) → keeps_rules given ≡ x → broadcast address ≡ false → Admits (cond x (keyed (weak key)) (refused_setup broken_rule))
    by_rules true e own h = by_key (weak key) refl e own h
    by_rules false e own h = refuses _ h

    by_address : (x : Bool) → broadcast address ≡ x
        → Admits (cond x (refused_setup wrong_address) (cond (keeps_rules given) (keyed (weak key)) (refused_setup broken_rule)))
    by_address true e h = refuses _ h
    by_address false e h = by_rules (keeps_rules given) refl e h

  by_lengths : (x : Bool) → (eqb (length address) address_width && eqb (length key) number_width) ≡ x → Admits (cond x (admitted address key given) (refused_setup wrong_length))
  unfolding admitted keyed
  by_lengths true e h =
      let both = (and-eq-true_iff (eqb (length address) address_width) (eqb (length key) number_width)).0 e in
      by_address (eqb-true _ _ both.0) (eqb-true _ _ both.1) (broadcast address) refl h
  by_lengths false e h = refuses _ h

  pub setup_accepted : Admits (after_setup address key given)
  unfolding after_setup
  setup_accepted = by_lengths (eqb (length address) address_width && eqb (length key) number_width) refl

  pub fresh_agrees : Arrays given → (c : Card) → Accepted c → Agrees (setup_of address key given) c (book.fresh given)
  fresh_agrees arrays c a =
      rw a.card
      (record {
        station = record { address = refl; key = refl; attributes = refl; contents = first_noted given arrays a.sound; wait = refl };
        reception = fresh-awaiting;
      })
