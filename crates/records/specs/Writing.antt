-- Writes: which are granted, and what a granted one changes (01, The card).
use Rattle.std.specs.Prelude.{ℕ, Bool, true, cond, List, ◌≡◌, get_or, set}
use Rattle.octets.specs.Splice.{fronted}
use Rattle.numbers.specs.Table.{not_open}
use Rattle.numbers.specs.Answer.{Answer, given, refused, refused_at, number_of, when_given}
use Rattle.records.specs.declared.Attributes.{Attributes}
use Rattle.records.specs.declared.Record.{Record}
use Rattle.records.specs.declared.Records.{Records}
use Rattle.records.specs.declared.Cause.TheVariants.{Meter, Programmed, Transferred, Broadcast}
use Rattle.records.specs.declared.Cause.{Cause}
use Rattle.records.specs.declared.Written.{Written}
use Rattle.records.specs.Numbers.{answer_number}
use Rattle.records.specs.Judging.{length_of, acceptable}
use Rattle.records.specs.Finding.{attributes_of, blank_attributes, record_at, find}

-- "open to that command (11)"; "A meter write tests 10 and then the data"
abbrev pub opens : Cause → Attributes → Bool
opens Meter a = true
opens (Programmed adp) a = a.programming
opens (Transferred adp) a = a.transfer
opens (Broadcast adp) a = a.transfer

-- the record is open to the write (11) and accepts the data (7, 8, 9)
unfoldable pub grant_at : Attributes → Cause → List ℕ → ℕ → Answer ℕ
grant_at a cause d i = cond (opens cause a) (when_given (acceptable a d) (λ characters. given i)) (refused not_open)

-- the index of the record that a write is granted for, which exists (10)
unfoldable pub grant : List Attributes → Cause → ℕ → List ℕ → Answer ℕ
grant l cause t d = when_given (find l t) (λ i. grant_at (get_or l i blank_attributes) cause d i)

-- the record with d for its contents, the octets of its storage after them kept
abbrev pub hold : Record → List ℕ → Record
hold r d = record { attributes = r.attributes; length = length_of d; storage = fronted d r.storage }

abbrev pub store : Records → ℕ → List ℕ → Records
store s i d = record { count = s.count; each = set s.each i (hold (record_at s i) d) }

unfoldable pub store_when : Records → List ℕ → Answer ℕ → Records
store_when s d (given i) = store s i d
store_when s d (refused n) = s
store_when s d (refused_at n offset) = s

-- the records after a write, and its number
pub record Outcome : Type 0 where
  pub records : Records
  pub number : ℕ

-- a granted write changes the length and the octets of one record, and a refused one nothing
abbrev pub write : Records → Cause → ℕ → List ℕ → Outcome
write s cause t d =
    record { records = store_when s d (grant (attributes_of s) cause t d); number = number_of (grant (attributes_of s) cause t d) }

pub record Writes (outcome : Outcome) (written : Written) : Type 0 where
  pub records : written.records ≡ outcome.records
  pub number : answer_number written.answer ≡ outcome.number
