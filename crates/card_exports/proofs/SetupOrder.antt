-- The order of setup's numbers over memory (01, The card; 02, E5): 17, 6, 12, 21, then contents. Each comes whatever those behind it would say, and leaves
-- the memory.
use Prim.Native.Nat.{ℕ, ◌≤◌, ◌<◌}
use mathlib.Core.Path.{◌≡◌}
use mathlib.Core.Bool.{true, false, ◌&&◌}
use mathlib.Core.List.{List}
use lib.Dec.{eqb}
use lib.ListN.{length}
use borrow.Author.Tests.{le-leb, lt-leb, eq-eqb}
use Rattle.des.specs.WeakKeys.{weak}
use Rattle.numbers.specs.Table.{wrong_address, broken_rule, wrong_length, weak_key}
use Rattle.frame.specs.Addresses.{broadcast}
use Rattle.records.specs.Setup.{keeps_rules}
use Rattle.card.specs.Setup.{admitted}
use Rattle.card_memory.specs.Layout.{address_size, key_size, size}
use Rattle.card_memory.specs.Setup.{entry_records, entry_kinds_known}
use Rattle.card_exports.specs.Outcome.{refused}
use Rattle.card_exports.specs.Setup.{setup_number, setup_outcome}

module _ (m address key : List ℕ) (count : ℕ) (entries : List ℕ) where
  pub memory_first : length m < size → setup_outcome m address key count entries ≡ refused wrong_length m
  unfolding setup_outcome
  memory_first h = rw (lt-leb size (length m) h)

  module _ (long : size ≤ length m) where
    pub then_lengths : (eqb (length address) address_size && eqb (length key) key_size) ≡ false → setup_outcome m address key count entries ≡ refused wrong_length m
    unfolding setup_outcome setup_number
    then_lengths e = rw (le-leb size (length m) long, e)

    module _ (six : length address ≡ address_size) (eight : length key ≡ key_size) where
      pub then_address : broadcast address ≡ true → setup_outcome m address key count entries ≡ refused wrong_address m
      unfolding setup_outcome setup_number
      then_address e = rw (le-leb size (length m) long, eq-eqb (length address) address_size six, eq-eqb (length key) key_size eight, e)

      module _ (own : broadcast address ≡ false) where
        -- a kind that is none breaks a rule, and so does what the records by value break
        pub then_kinds : entry_kinds_known count entries ≡ false → setup_outcome m address key count entries ≡ refused broken_rule m
        unfolding setup_outcome setup_number
        then_kinds e = rw (le-leb size (length m) long, eq-eqb (length address) address_size six, eq-eqb (length key) key_size eight, own, e)

        module _ (kinds : entry_kinds_known count entries ≡ true) where
          pub then_rules : keeps_rules (entry_records count entries) ≡ false → setup_outcome m address key count entries ≡ refused broken_rule m
          unfolding setup_outcome setup_number admitted
          then_rules e = rw (le-leb size (length m) long, eq-eqb (length address) address_size six, eq-eqb (length key) key_size eight, own, kinds, e)

          -- "21, in setup right after 12 and before contents"
          pub then_key : keeps_rules (entry_records count entries) ≡ true → weak key ≡ true → setup_outcome m address key count entries ≡ refused weak_key m
          unfolding setup_outcome setup_number admitted
          then_key e w = rw (le-leb size (length m) long, eq-eqb (length address) address_size six, eq-eqb (length key) key_size eight, own, kinds, e, w)
