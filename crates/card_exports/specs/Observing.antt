-- Reading a record's data by TAB, for a display: 17 for the memory, then 12, then 10.
use Rattle.std.specs.Prelude.{ℕ, cond, List, leb, length}
use Rattle.octets.specs.Splice.{spliced}
use Rattle.numbers.specs.Table.{none, broken_rule, wrong_length}
use Rattle.numbers.specs.Answer.{Answer, given, refused, refused_at}
use Rattle.records.specs.Judging.{contents}
use Rattle.records.specs.Finding.{attributes_of, find, record_at}
use Rattle.card.specs.declared.Card.{Card}
use Rattle.card_memory.specs.Layout.{size}
use Rattle.card_memory.specs.Decoding.{decoded}
use Rattle.card_exports.specs.Outcome.{sound_memory}

-- the number, the lent array afterwards, and what stands in the cell for the length of the data
pub record Shown : Type 0 where
  pub number : ℕ
  pub shown : List ℕ
  pub length : ℕ

abbrev pub unshown : ℕ → List ℕ → ℕ → Shown
unshown number before cell = record { number = number; shown = before; length = cell }

-- the record's data over the front of the array, whose other octets are kept; with no such record the length is 0
unfoldable pub shown_for : Answer ℕ → Card → List ℕ → Shown
shown_for (refused n) c before = unshown n before 0
shown_for (refused_at n offset) c before = unshown n before 0
shown_for (given i) c before =
    record { number = none; shown = spliced before 0 (contents (record_at c.records i)); length = length (contents (record_at c.records i)) }

-- "everything" stays at 17 and 12, the cell included
unfoldable pub read_outcome : List ℕ → ℕ → List ℕ → ℕ → Shown
read_outcome m tab before cell =
    cond (leb size (length m))
    (cond (sound_memory m) (shown_for (find (attributes_of (decoded m).records) tab) (decoded m) before) (unshown broken_rule before cell))
    (unshown wrong_length before cell)
