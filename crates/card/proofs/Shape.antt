-- What owning a card by value tells of its lists: the arrays' lengths.
use mathlib.Core.List.{List}
use mathlib.Core.Path.{◌≡◌}
use lib.ListN.{length}
use mir.Val.{Val}
use denote.Shadow.{shadow}
use Rattle.frame.specs.Sizes.{most_programmed}
use Rattle.receiver.specs.Receiver.{most_held}
use Rattle.receiver.proofs.Lengths.{octets_length}
use Rattle.records.specs.Sizes.{most_records}
use Rattle.records.proofs.Shape as records
use Rattle.card.specs.declared.Exchange.{Exchange}
use Rattle.card.specs.declared.Card.{Card}
use Rattle.card.specs.contracts.Exchange as exchange
use Rattle.card.specs.contracts.Card as row

pub content_length : (e : Exchange) (vs : List Val) → shadow ((exchange.the_row).own_val e vs) → length e.content ≡ most_programmed
content_length e vs own = own.1.1.1.0.1.0.1

module _ (c : Card) (vs : List Val) (own : shadow ((row.the_row).own_val c vs)) where
  pub waiting_length : length c.exchange.content ≡ most_programmed
  waiting_length = content_length c.exchange _ own.1.1.1.1.0

  pub receiver_length : length c.receiver.octets ≡ most_held
  receiver_length = octets_length c.receiver _ own.1.1.1.1.1.0

  pub records_length : length c.records.each ≡ most_records
  records_length = records.each-length c.records _ own.1.1.1.0
