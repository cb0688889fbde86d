-- Histories of exported calls over lent card memory (00, demand 3; 01, The card: "program is written in C").
use Rattle.std.specs.Prelude.{ℕ, ◌<◌, ◌≡◌, true, cond, List, [], ◌∷◌, ◌++◌, leb, length, take, drop, get_or}
use Rattle.numbers.specs.Table.{none, broken_rule}
use Rattle.card.specs.Events.{Call}
use Rattle.history.specs.Book.{book_of}
use Rattle.history.specs.Claim.{Kept}
use Rattle.card_memory.specs.Layout.{records_size, size}
use Rattle.card_memory.specs.Decoding.{decoded}
use Rattle.card_memory.specs.Setup.{entry_records}
use Rattle.card_exports.specs.Outcome.{Outcome, sound_memory, call_outcome}
use Rattle.card_exports.specs.Setup.{setup_outcome}
use Rattle.card_exports.specs.Leaving.{StaysAt}

-- a call with its arguments, and how many octets of the memory are lent to it, from its front on; all of them where there are fewer
pub record MemoryCall : Type 0 where
  pub room : ℕ
  pub call : Call

-- the number of an exported call, and the memory that it leaves: what is not lent stays
unfoldable pub lent_outcome : List ℕ → MemoryCall → Outcome
lent_outcome m k =
    record {
      number = (call_outcome (take k.room m) k.call).number;
      memory = (call_outcome (take k.room m) k.call).memory ++ drop k.room m;
    }

-- "Each call gets the card that the last one gave back or left; nobody else writes it meanwhile." (00)
unfoldable pub run : List ℕ → List MemoryCall → List ℕ
run m [] = m
run m (k ∷ h) = run (lent_outcome m k).memory h

-- "Refused with 17: no step" (01, the book): a call that lends less memory than a card has is none; what else 17 refuses the book reads from the call
unfoldable pub made : List MemoryCall → List Call
made [] = []
made (k ∷ h) = cond (leb size k.room) (k.call ∷ made h) (made h)

-- what setup was given, where it accepts it over a memory of octets; the entries have the length that their type says
pub record Accepted (before address key : List ℕ) (count : ℕ) (entries : List ℕ) : Type 0 where
  pub number : (setup_outcome before address key count entries).number ≡ none
  pub entered : length entries ≡ records_size
  pub octets : (i : ℕ) → get_or before i 0 < 256

-- What holds of the memory after every history. Each record that setup gave has the book's length and octets, in the memory as its layout says. The memory is
-- as long as it was and sound, so that no next call is refused with 12. And a next call that is refused leaves what its number says.
pub record KeptInMemory (before address key : List ℕ) (count : ℕ) (entries : List ℕ) (h : List MemoryCall) (m : List ℕ) : Type 0 where
  pub kept : Kept (entry_records count entries) (decoded m) (book_of address key (entry_records count entries) (made h))
  pub long : length m ≡ length before
  pub sound : sound_memory m ≡ true
  pub unbroken : (k : MemoryCall) → (lent_outcome m k).number ≡ broken_rule → ⊥
  pub leaves : (k : MemoryCall) → ((lent_outcome m k).number ≡ none → ⊥) → (j : ℕ) → StaysAt k.call (lent_outcome m k).number j → get_or (lent_outcome m k).memory j 0 ≡ get_or m j 0

-- What setup and then a history give: setup's number, the memory after the history, and the claim where setup accepts.
pub record Replayed (before address key : List ℕ) (count : ℕ) (entries : List ℕ) (h : List MemoryCall) (number : ℕ) (after : List ℕ) : Type 0 where
  pub told : number ≡ (setup_outcome before address key count entries).number
  pub memory : after ≡ run (setup_outcome before address key count entries).memory h
  pub kept : number ≡ none → KeptInMemory before address key count entries h after
