-- A card is encoded in turn: its wait, the contents of its records, its receiver.
use mathlib.Core.Path.{◌≡◌}
use mathlib.Core.List.{List, [], ◌∷◌}
use Prim.Native.Nat.{ℕ}
use Rattle.octets.specs.Splice.{spliced}
use Rattle.receiver_memory.specs.Puts.{put, put_all}
use Rattle.receiver_memory.specs.Receiver as receiver
use Rattle.receiver_memory.proofs.Puts.{put_all_append}
use Rattle.card.specs.declared.Card.{Card}
use Rattle.card_memory.specs.Layout.{records_at, receiver_at}
use Rattle.card_memory.specs.Encoding.{contents_puts, wait_puts, encoded}

pub encoded_in_turn : (c : Card) (m : List ℕ) → encoded c m ≡ spliced (put_all (contents_puts records_at c.records.each) (put_all (wait_puts c.exchange) m)) receiver_at (receiver.image c.receiver)
unfolding encoded put_all
encoded_in_turn c m = put_all_append (contents_puts records_at c.records.each) (put receiver_at (receiver.image c.receiver) ∷ []) (put_all (wait_puts c.exchange) m)
