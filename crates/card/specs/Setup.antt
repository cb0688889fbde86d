-- Setup (01, The card).
use Rattle.std.specs.Prelude.{ℕ, zero, suc, cond, ◌&&◌, List, [], ◌∷◌, Result, Ok, Err, eqb, length, replicate}
use Rattle.des.specs.WeakKeys.{weak}
use Rattle.numbers.specs.Table.{wrong_address, broken_rule, wrong_length, weak_key}
use Rattle.frame.specs.Sizes.{address_width, number_width, most_programmed}
use Rattle.frame.specs.Addresses.{broadcast}
use Rattle.records.specs.declared.Records.{Records}
use Rattle.records.specs.Finding.{used}
use Rattle.records.specs.Setup.{keeps_rules, contents_number, empty}
use Rattle.receiver.specs.Receiver as receiver
use Rattle.card.specs.declared.Phase.TheVariants.{Idle}
use Rattle.card.specs.declared.Card.{Card}
use Rattle.card.specs.declared.Answered.{Answered}
use Rattle.card.specs.declared.Refusal.{Refusal}
use Rattle.card.specs.Parts.{Response, telling, silent, answered}

-- "Fresh, as setup leaves a card: receiver empty, no wait, first contents." The octets for a wait are free, and zero.
abbrev pub fresh : List ℕ → List ℕ → Records → Card
fresh address key records =
    record {
      identity = record { address = address; key = key };
      records = records;
      exchange = record { phase = Idle; content = replicate most_programmed 0; na2 = replicate number_width 0 };
      receiver = receiver.fresh;
    }

-- What a refused setup hands back is free but for being sound: address 000000000001, key 0123456789ABCDEF, no records.
abbrev pub bare : Card
bare = fresh (0 ∷ 0 ∷ 0 ∷ 0 ∷ 0 ∷ 1 ∷ []) (0x01 ∷ 0x23 ∷ 0x45 ∷ 0x67 ∷ 0x89 ∷ 0xAB ∷ 0xCD ∷ 0xEF ∷ []) empty

abbrev pub refused_setup : ℕ → Response
refused_setup n = telling bare n

-- "then each content in turn by the rule below" (7, 8, 9)
unfoldable pub admitted_with : ℕ → Card → Response
admitted_with zero c = silent c
admitted_with (suc n) c = refused_setup (suc n)

-- "Setup checks: address is not broadcast (6); at most 32 records, no TAB twice, known kinds, limits in range (12); then each content in turn";
-- 02, E5: "21, in setup right after 12 and before contents"
unfoldable pub admitted : List ℕ → List ℕ → Records → Response
admitted address key records =
    cond (broadcast address) (refused_setup wrong_address)
    (cond (keeps_rules records)
    (cond (weak key) (refused_setup weak_key) (admitted_with (contents_number (used records)) (fresh address key records)))
    (refused_setup broken_rule))

-- 17 is tested first: "a lent key or number not of 8 octets, an address not of 6"
unfoldable pub after_setup : List ℕ → List ℕ → Records → Response
after_setup address key records =
    cond (eqb (length address) address_width && eqb (length key) number_width) (admitted address key records) (refused_setup wrong_length)

-- For the private checks of setup alone: what setup hands back for the card that they give, or for their refusal.
abbrev pub settled : Result Card Refusal → Answered
settled (Ok c) = answered c (Ok tt)
settled (Err refusal) = answered bare (Err refusal)
