-- The order of setup's numbers (01, The card; 02, E5): 17, 6, 12, 21, then contents. Each comes whatever those behind it would say.
use Prim.Native.Nat.{ℕ}
use mathlib.Core.Path.{◌≡◌}
use mathlib.Core.Bool.{true, false, ◌&&◌}
use mathlib.Core.List.{List}
use lib.Dec.{eqb}
use lib.ListN.{length}
use borrow.Author.Tests.{eq-eqb}
use Rattle.des.specs.WeakKeys.{weak}
use Rattle.numbers.specs.Table.{wrong_address, broken_rule, wrong_length, weak_key}
use Rattle.frame.specs.Sizes.{address_width, number_width}
use Rattle.frame.specs.Addresses.{broadcast}
use Rattle.records.specs.declared.Records.{Records}
use Rattle.records.specs.Finding.{used}
use Rattle.records.specs.Setup.{keeps_rules, contents_number}
use Rattle.card.specs.Setup.{fresh, refused_setup, admitted_with, admitted, after_setup}

module _ (address key : List ℕ) (s : Records) where
  pub lengths_first : (eqb (length address) address_width && eqb (length key) number_width) ≡ false → after_setup address key s ≡ refused_setup wrong_length
  unfolding after_setup
  lengths_first e = rw e

  module _ (six : length address ≡ address_width) (eight : length key ≡ number_width) where
    pub then_address : broadcast address ≡ true → after_setup address key s ≡ refused_setup wrong_address
    unfolding after_setup admitted
    then_address e = rw (eq-eqb (length address) address_width six, eq-eqb (length key) number_width eight, e)

    module _ (own : broadcast address ≡ false) where
      pub then_rules : keeps_rules s ≡ false → after_setup address key s ≡ refused_setup broken_rule
      unfolding after_setup admitted
      then_rules e = rw (eq-eqb (length address) address_width six, eq-eqb (length key) number_width eight, own, e)

      module _ (rules : keeps_rules s ≡ true) where
        -- "21, in setup right after 12 and before contents"
        pub then_key : weak key ≡ true → after_setup address key s ≡ refused_setup weak_key
        unfolding after_setup admitted
        then_key e = rw (eq-eqb (length address) address_width six, eq-eqb (length key) number_width eight, own, rules, e)

        pub then_contents : weak key ≡ false → after_setup address key s ≡ admitted_with (contents_number (used s)) (fresh address key s)
        unfolding after_setup admitted
        then_contents e = rw (eq-eqb (length address) address_width six, eq-eqb (length key) number_width eight, own, rules, e)
