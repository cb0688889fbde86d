-- Reading a whole file: its records, or the start of its first bad item (01, Swap file).
use Rattle.std.specs.Prelude.{Result, Ok, Err, ℕ, zero, suc, ◌+◌, cond, List, [], ◌∷◌, ltb, length, take, drop}
use Rattle.numbers.specs.Counts.{in_octets}
use Rattle.numbers.specs.Answer.{Answer, given, refused_at}
use Rattle.numbers.specs.Table.{faulty_file}
use Rattle.number.specs.Groups.{Front, found, none, front_number}
use Rattle.swap.specs.declared.file.RecordCount.{RecordCount}
use Rattle.swap.specs.declared.file.Fault.{Fault}
use Rattle.swap.specs.Record.{Record, rank_of, count_limit, file_limit}
use Rattle.swap.specs.Items.{judged, bad, good, front_record, limited}

pub data FileListing : Type 0 where
  faulty : ℕ → FileListing
  listed : List Record → FileListing

unfoldable pub preceded : Record → FileListing → FileListing
preceded r (faulty o) = faulty o
preceded r (listed rs) = listed (r ∷ rs)

-- so many records, each above the one before, from an offset on; 01, Swap file: "Nothing follows the last record"
unfoldable pub read_records : ℕ → ℕ → ℕ → List ℕ → FileListing
read_records zero least at [] = listed []
read_records zero least at (o ∷ s) = faulty at
read_records (suc k) least at s =
    elim (judged least s) [
      | bad o ↦ faulty (at + o)
      | good w n ↦ preceded (front_record w n s) (read_records k (suc (rank_of (take 7 s))) (at + (8 + w + n)) (drop (8 + w + n) s))
    ]

unfoldable pub read_counted : Front → List ℕ → FileListing
read_counted none s = faulty 0
read_counted (found n w) s = read_records n 0 w (drop w s)

-- 01, Swap file: "65,536 for a file too long (tested first)", whatever stands in it
unfoldable pub read_file : List ℕ → FileListing
read_file s = cond (ltb file_limit (length s)) (faulty file_limit) (read_counted (limited count_limit (front_number s)) s)

abbrev pub in_record_count : ℕ → RecordCount
in_record_count count = record { 0 = count }

-- the number and values of each case
abbrev pub answer_of_verdict : Result RecordCount Fault → Answer RecordCount
answer_of_verdict (Ok count) = given count
answer_of_verdict (Err fault) = refused_at faulty_file fault.0

-- 01, Swap file: "A fault is 18 with an offset"; an accepted file has its count of records
abbrev pub answer_of_listing : FileListing → Answer RecordCount
answer_of_listing (faulty o) = refused_at faulty_file (in_octets o)
answer_of_listing (listed rs) = given (in_record_count (length rs))

unfoldable pub verdict_of : List ℕ → Answer RecordCount
verdict_of s = answer_of_listing (read_file s)
