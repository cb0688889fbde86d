-- The memory that holds a card, over the memory before: what no call alters and what is free stays as it was.
use Rattle.std.specs.Prelude.{ℕ, ◌+◌, List, [], ◌∷◌, ◌++◌}
use Rattle.records.specs.declared.Record.{Record}
use Rattle.card.specs.declared.Phase.{Phase}
use Rattle.card.specs.declared.Phase.TheVariants.{Idle, Waiting}
use Rattle.card.specs.declared.Exchange.{Exchange}
use Rattle.card.specs.declared.Card.{Card}
use Rattle.receiver_memory.specs.Fields.{narrowed}
use Rattle.receiver_memory.specs.Puts.{Put, put, put_all}
use Rattle.receiver_memory.specs.Receiver as receiver
use Rattle.card_memory.specs.Layout.{wait_mark_at, wait_data_at, na2_at, records_at, length_at, record_size, receiver_at}

-- 01, Numbers handed back: a refusal changes "the mark of the wait .. and nothing else", so an end of the wait writes its mark alone
abbrev pub phase_image : Phase → List ℕ
phase_image Idle = 0 ∷ []
phase_image (Waiting adp tab n) = 1 ∷ adp ∷ tab ∷ narrowed n.0 ∷ []

-- what a write alters of a record: its length and its storage
unfoldable pub contents_image : Record → List ℕ
contents_image r = narrowed r.length.0 ∷ r.storage

-- the contents of records that stand from an offset on
unfoldable pub contents_puts : ℕ → List Record → List Put
contents_puts at [] = []
contents_puts at (r ∷ l) = put (at + length_at) (contents_image r) ∷ contents_puts (at + record_size) l

abbrev pub wait_puts : Exchange → List Put
wait_puts e = put wait_mark_at (phase_image e.phase) ∷ put wait_data_at e.content ∷ put na2_at e.na2 ∷ []

-- all of a card that calls alter, in the layout's order
abbrev pub card_puts : Card → List Put
card_puts c = wait_puts c.exchange ++ (contents_puts records_at c.records.each ++ (put receiver_at (receiver.image c.receiver) ∷ []))

unfoldable pub encoded : Card → List ℕ → List ℕ
encoded c m = put_all (card_puts c) m
