-- The number of setup by value, with a kind that is none counted as a broken rule, is the number of setup over memory.
use Prim.Native.Nat.{ℕ, zero, suc}
use mathlib.Core.Path.{◌≡◌, refl}
use mathlib.Core.Bool.{Bool, true, false, cond, ◌&&◌}
use mathlib.Core.List.{List}
use mathlib.Core.Logic.{inl, inr}
use native.Mathlib.Omega.{arith}
use lib.Dec.{eqb}
use lib.ListN.{length}
use borrow.Author.Tests.{ne_eqb}
use Rattle.numbers.specs.Table.{wrong_address, broken_rule, wrong_length, weak_key}
use Rattle.records.specs.declared.Records.{Records}
use Rattle.records.specs.Finding.{used}
use Rattle.records.specs.Setup.{keeps_rules, contents_number}
use Rattle.records.proofs.Refusals.{Judges, contents_judge}
use Rattle.des.specs.WeakKeys.{weak}
use Rattle.frame.specs.Addresses.{broadcast}
use Rattle.card.specs.declared.Card.{Card}
use Rattle.card.specs.Parts.{Response}
use Rattle.card.specs.Setup.{fresh, refused_setup, admitted_with, admitted, after_setup}
use Rattle.card_memory.specs.Layout.{address_size, key_size}
use Rattle.card_memory.specs.Setup.{entry_records, entry_kinds_known}
use Rattle.card_exports.specs.Setup.{number_with_kinds, setup_number}

-- a number that is neither 17 nor 6 gives way to 12
judge_yields : (n : ℕ) (b : Bool) → Judges n → number_with_kinds n b ≡ cond b n broken_rule
judge_yields n b (inl e) = rw e
judge_yields n b (inr h) = rw (ne_eqb n wrong_length (λ e. omega (arith, h.1)), ne_eqb n wrong_address (λ e. omega (arith, h.0)))

admitted_number : (n : ℕ) (c : Card) → (admitted_with n c).number ≡ n
unfolding admitted_with
admitted_number zero c = refl
admitted_number (suc n) c = refl

module _ (b : Bool) (address key : List ℕ) (s : Records) where
  -- 21, or the number of the contents
  keyed : Bool → Response
  keyed w = cond w (refused_setup weak_key) (admitted_with (contents_number (used s)) (fresh address key s))

  by_key : (w : Bool) → number_with_kinds (keyed w).number b ≡ cond b (keyed w).number broken_rule
  unfolding keyed
  by_key true = refl
  by_key false = rw (admitted_number (contents_number (used s)) (fresh address key s)) (judge_yields (contents_number (used s)) b (contents_judge (used s)))

  by_rules : (x : Bool) → number_with_kinds (cond x (keyed (weak key)) (refused_setup broken_rule)).number b
      ≡ cond b (cond x (keyed (weak key)) (refused_setup broken_rule)).number broken_rule
  by_rules true = by_key (weak key)
  by_rules false = refl

  by_address : number_with_kinds (admitted address key s).number b ≡ cond (broadcast address) wrong_address (cond b (admitted address key s).number broken_rule)
  unfolding admitted keyed
  by_address = go (broadcast address)
    where
      rules : Response
      rules = cond (keeps_rules s) (keyed (weak key)) (refused_setup broken_rule)

      go : (x : Bool) → number_with_kinds (cond x (refused_setup wrong_address) rules).number b ≡ cond x wrong_address (cond b (cond x (refused_setup wrong_address) rules).number broken_rule)
      go true = refl
      go false = by_rules (keeps_rules s)

  by_lengths : (x : Bool) → number_with_kinds (cond x (admitted address key s) (refused_setup wrong_length)).number b
      ≡ cond x (cond (broadcast address) wrong_address (cond b (admitted address key s).number broken_rule)) wrong_length
  by_lengths true = by_address
  by_lengths false = refl

pub setup_judged : (address key : List ℕ) (count : ℕ) (entries : List ℕ)
    → number_with_kinds (after_setup address key (entry_records count entries)).number (entry_kinds_known count entries) ≡ setup_number address key count entries
unfolding after_setup setup_number
setup_judged address key count entries =
    by_lengths (entry_kinds_known count entries) address key (entry_records count entries) (eqb (length address) address_size && eqb (length key) key_size)
