-- Setup over lent memory (01, The card).
use Rattle.std.specs.Prelude.{ℕ, Bool, cond, ◌&&◌, List, eqb, leb, length}
use Rattle.numbers.specs.Table.{none, wrong_address, broken_rule, wrong_length}
use Rattle.frame.specs.Addresses.{broadcast}
use Rattle.card.specs.Setup.{admitted}
use Rattle.card_memory.specs.Layout.{address_size, key_size, size}
use Rattle.card_memory.specs.Setup.{entry_records, entry_kinds_known, set_up}
use Rattle.card_exports.specs.Outcome.{Outcome, refused}

-- For the private `judge` alone: the number of setup's answer where a kind that is none counts as a broken rule; 17 and 6 come before.
abbrev pub number_with_kinds : ℕ → Bool → ℕ
number_with_kinds number known = cond (eqb number wrong_length) wrong_length (cond (eqb number wrong_address) wrong_address (cond known number broken_rule))

-- "Setup checks: address is not broadcast (6); at most 32 records, no TAB twice, known kinds, limits in range (12); then each content in turn"; before
-- them 17: "a lent key .. not of 8 octets, an address not of 6"; 21 is `admitted`'s, after 12 (02, E5)
unfoldable pub setup_number : List ℕ → List ℕ → ℕ → List ℕ → ℕ
setup_number address key count entries =
    cond (eqb (length address) address_size && eqb (length key) key_size)
    (cond (broadcast address) wrong_address
    (cond (entry_kinds_known count entries) (admitted address key (entry_records count entries)).number broken_rule))
    wrong_length

abbrev pub settled : ℕ → List ℕ → List ℕ → Outcome
settled number fresh m = cond (eqb number none) (record { number = none; memory = fresh }) (refused number m)

-- a refused setup leaves the memory, and an accepted one does not look at what it held
unfoldable pub setup_outcome : List ℕ → List ℕ → List ℕ → ℕ → List ℕ → Outcome
setup_outcome m address key count entries =
    cond (leb size (length m)) (settled (setup_number address key count entries) (set_up address key count entries m) m) (refused wrong_length m)
