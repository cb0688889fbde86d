-- Demand 3, the claim about a whole history: "each record holds the data of the last write the history grants, or its setup contents if it
-- grants none" (00), "each record that setup gave has the book's length and octets" (01, The card).
use Rattle.std.specs.Prelude.{ℕ, ◌<◌, ◌≡◌, List, [], ◌∷◌, length}
use Rattle.numbers.specs.Table.{none}
use Rattle.records.specs.declared.Record.{Record}
use Rattle.records.specs.declared.Records.{Records}
use Rattle.records.specs.Sizes.{most_records, most_octets}
use Rattle.records.specs.Judging.{contents}
use Rattle.records.specs.Finding.{attributes_of, record_at}
use Rattle.card.specs.declared.Card.{Card}
use Rattle.card.specs.declared.Answered.{Answered}
use Rattle.card.specs.Numbers.{answer_number}
use Rattle.card.specs.Setup.{after_setup}
use Rattle.card.specs.Events.{Call, after}
use Rattle.history.specs.Book.{Book, book_of}

-- "A history is any list of octets, gaps, session ends and meter writes from a fresh card, refused calls included. Each call gets the card
-- that the last one gave back or left; nobody else writes it meanwhile." (00)
unfoldable pub run : Card → List Call → Card
run c [] = c
run c (k ∷ h) = run (after c k).card h

-- "the book's length and octets"
pub record Holds (d : List ℕ) (r : Record) : Type 0 where
  pub long : r.length.0 ≡ length d
  pub octets : contents r ≡ d

-- The card has the records that setup gave, with their attributes, and no others; each holds what the book has noted for its TAB.
pub record Kept (given : Records) (c : Card) (b : Book) : Type 0 where
  pub attributes : attributes_of c.records ≡ attributes_of given
  pub each : (i : ℕ) → i < given.count → Holds (b.noted (record_at given i).attributes.tab) (record_at c.records i)

-- What the types of a value's arrays say: how many records, and how many octets of storage each. A list by itself does not say it.
pub record Arrays (s : Records) : Type 0 where
  pub each : length s.each ≡ most_records
  pub storage : (i : ℕ) → i < most_records → length (record_at s i).storage ≡ most_octets

-- What setup and then a history give: setup's number, the card after the history, and the claim where setup accepts.
pub record Replayed (address key : List ℕ) (given : Records) (h : List Call) (r : Answered) : Type 0 where
  pub number : answer_number r.answer ≡ (after_setup address key given).number
  pub card : r.card ≡ run (after_setup address key given).card h
  pub kept : answer_number r.answer ≡ none → Kept given r.card (book_of address key given h)
