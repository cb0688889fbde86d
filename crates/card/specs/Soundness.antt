-- The cards that no call refuses with 12 (01, The card).
use Rattle.std.specs.Prelude.{ℕ, ◌≤◌, ◌≡◌, Bool, false, not, ◌&&◌, leb}
use Rattle.des.specs.WeakKeys.{weak}
use Rattle.frame.specs.Sizes.{most_programmed}
use Rattle.frame.specs.Addresses.{broadcast}
use Rattle.records.specs.Setup as records
use Rattle.receiver.specs.Receiver as receiver
use Rattle.card.specs.declared.Phase.{Phase}
use Rattle.card.specs.declared.Phase.TheVariants.{Idle, Waiting}
use Rattle.card.specs.declared.Card.{Card}

-- how many octets of DATA wait
abbrev pub waiting_length : Phase → ℕ
waiting_length Idle = 0
waiting_length (Waiting adp tab n) = n.0

-- no more DATA waits than a REC can have
abbrev pub within_rec : Phase → Bool
within_rec p = leb (waiting_length p) most_programmed

-- "a card .. that breaks a setup rule, holds a length over its limit or a state mark not in use is refused with 12 ..; so is a partly received
-- frame whose N answer 1 would refuse, or with as many octets as its N states or more." Every state mark of a card by value is in use by its type.
-- That the key is not weak is a setup rule (02, E5).
unfoldable pub sound : Card → Bool
sound c =
    not (broadcast c.identity.address)
    && (not (weak c.identity.key) && (within_rec c.exchange.phase && (receiver.sound c.receiver && records.sound c.records)))

-- the same rules one by one
pub record Sound (c : Card) : Type 0 where
  pub address : broadcast c.identity.address ≡ false
  pub key : weak c.identity.key ≡ false
  pub fits : waiting_length c.exchange.phase ≤ most_programmed
  pub receiver : receiver.Sound c.receiver
  pub records : records.Sound c.records
