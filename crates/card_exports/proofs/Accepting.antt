-- Setup accepts whatever breaks none of its rules, and nothing else.
use Prim.Native.Nat.{ℕ, ◌≤◌}
use mathlib.Core.Path.{◌≡◌, refl, ◌∙◌}
use mathlib.Core.Bool.{Bool, true, false, cond}
use mathlib.Core.List.{List}
use native.Mathlib.Omega.{arith}
use lib.Dec.{eqb, leb}
use lib.ListN.{length}
use borrow.Author.Tests.{le-leb, leb-true, eq-eqb, eqb-true}
use Rattle.numbers.specs.Table.{none, wrong_address, broken_rule, wrong_length}
use Rattle.records.specs.Finding.{used}
use Rattle.records.specs.Setup.{keeps_rules, contents_number}
use Rattle.des.specs.WeakKeys.{weak}
use Rattle.frame.specs.Addresses.{broadcast}
use Rattle.card.specs.Setup.{admitted_with, admitted, after_setup}
use Rattle.card_memory.specs.Layout.{address_size, key_size, size}
use Rattle.card_memory.specs.Setup.{entry_records, entry_kinds_known, set_up}
use Rattle.card_exports.specs.Outcome.{refused}
use Rattle.card_exports.specs.Setup.{setup_number, settled, setup_outcome}
use Rattle.card_exports.proofs.Judging.{setup_judged}

pub setup_accepts : (m address key : List ℕ) (count : ℕ) (entries : List ℕ) → size ≤ length m → length address ≡ address_size → length key ≡ key_size → broadcast address ≡ false
    → weak key ≡ false → entry_kinds_known count entries ≡ true → keeps_rules (entry_records count entries) ≡ true → contents_number (used (entry_records count entries)) ≡ none
    → setup_outcome m address key count entries ≡ record { number = none; memory = set_up address key count entries m }
unfolding setup_outcome setup_number admitted admitted_with
setup_accepts m address key count entries long six eight own strong kinds rules contents =
    rw (le-leb size (length m) long, eq-eqb (length address) address_size six, eq-eqb (length key) key_size eight, own, kinds, rules, strong, contents)

-- what a setup that gives no number has tested
pub record Passed (m address key : List ℕ) (count : ℕ) (entries : List ℕ) : Type 0 where
  pub long : size ≤ length m
  pub kinds : entry_kinds_known count entries ≡ true
  pub accepted : (after_setup address key (entry_records count entries)).number ≡ none
  pub memory : (setup_outcome m address key count entries).memory ≡ set_up address key count entries m

-- a number that is judged to be none
judged_none : (x y b : Bool) (n : ℕ) → cond x wrong_length (cond y wrong_address (cond b n broken_rule)) ≡ none → (b ≡ true) × (n ≡ none)
judged_none true y b n e = let z : ⊥ = omega arith in absurd z
judged_none false true b n e = let z : ⊥ = omega arith in absurd z
judged_none false false true n e = (refl, e)
judged_none false false false n e = let z : ⊥ = omega arith in absurd z

module _ (m address key : List ℕ) (count : ℕ) (entries : List ℕ) where
  settled-none : (n : ℕ) (b : Bool) → eqb n none ≡ b → (cond b (record { number = none; memory = set_up address key count entries m }) (refused n m)).number ≡ none → n ≡ none
  settled-none n true t e = eqb-true n none t
  settled-none n false t e = e

  pub setup_passed : (setup_outcome m address key count entries).number ≡ none → Passed m address key count entries
  unfolding setup_outcome
  setup_passed = go (leb size (length m)) refl
    where
      n : ℕ
      n = setup_number address key count entries

      go : (b : Bool) → leb size (length m) ≡ b → (cond b (settled n (set_up address key count entries m) m) (refused wrong_length m)).number ≡ none → Passed m address key count entries
      go false t e = let z : ⊥ = omega arith in absurd z
      go true t e =
          let zero : n ≡ none = settled-none n (eqb n none) refl e in
          let by_value = (after_setup address key (entry_records count entries)).number in
          let both = judged_none (eqb by_value wrong_length) (eqb by_value wrong_address) (entry_kinds_known count entries) by_value (setup_judged address key count entries ∙ zero) in
          record { long = leb-true _ _ t; kinds = both.0; accepted = both.1; memory = rw (t, zero) }
