-- A record added to a list that the writer takes, in its place (01, Swap file: "Records rise strictly by ADS then TAB").
use Rattle.std.specs.Prelude.{Result, Ok, Err, ℕ, zero, suc, ◌+◌, ◌*◌, ◌/◌, cond, List, ◌++◌, leb, length, take, drop}
use Rattle.numbers.specs.Counts.{in_octets}
use Rattle.numbers.specs.Answer.{Answer, given, refused, refused_at}
use Rattle.octets.specs.Splice.{fronted}
use Rattle.numbers.specs.Table.{faulty_file}
use Rattle.swap.specs.declared.file.RecordCount.{RecordCount}
use Rattle.swap.specs.declared.file.Fault.{Fault}
use Rattle.swap.specs.Record.{Record, rank_of, count_limit, file_limit}
use Rattle.swap.specs.Reading.{verdict_of, in_record_count}
use Rattle.swap_write.specs.Heads.{head_size, head_of, head_length, file_of}
use Rattle.swap_list.specs.declared.RecordList.{RecordList}
use Rattle.swap_list.specs.declared.place.Place.{Place}

-- the arrays that are lent with a list: as many heads as a file has records, and as much data as a file has
abbrev pub heads_size : ℕ
heads_size = head_size * count_limit

abbrev pub contents_size : ℕ
contents_size = file_limit

abbrev pub empty : RecordList
empty = record { records = in_record_count 0; octets = in_octets 0 }

-- the record that a call gives, its kind by the octet
abbrev pub record_of : List ℕ → ℕ → ℕ → List ℕ → Record
record_of ads tab kind content = record { ads = ads; tab = tab; kind = kind; content = content }

abbrev pub further : ℕ → ℕ → Place → Place
further head from p = record { head = head + p.head; from = from + p.from }

-- the place among so many heads: after those at the front that have no higher rank, and their data
unfoldable pub place_among : ℕ → ℕ → List ℕ → Place
place_among zero rank heads = record { head = 0; from = 0 }
place_among (suc k) rank heads =
    cond (leb (rank_of (take 7 heads)) rank) (further head_size (head_length heads) (place_among k rank (drop head_size heads))) (record { head = 0; from = 0 })

unfoldable pub place_of : ℕ → List ℕ → Place
place_of rank heads = place_among (length heads / head_size) rank heads

-- s with a piece before its element at an offset; after all of them where the offset is past the end
unfoldable pub inserted : List ℕ → ℕ → List ℕ → List ℕ
inserted s at piece = take at s ++ piece ++ drop at s

-- the heads with a head in its place, by its first seven octets: ADS and TAB
unfoldable pub heads_with : List ℕ → List ℕ → List ℕ
heads_with head heads = inserted heads (place_of (rank_of (take 7 head)) heads).head head

-- the data with that of the head in its place
unfoldable pub contents_with : List ℕ → List ℕ → List ℕ → List ℕ → List ℕ
contents_with head content heads contents = inserted contents (place_of (rank_of (take 7 head)) heads).from content

-- the answer, and the lent arrays after the call
pub record Outcome : Type 0 where
  pub answer : Answer RecordList
  pub heads : List ℕ
  pub contents : List ℕ

-- the number and values of each case
abbrev pub answer_of_added : Result RecordList Fault → Answer RecordList
answer_of_added (Ok list) = given list
answer_of_added (Err fault) = refused_at faulty_file fault.0

-- new heads and contents go to the front of the arrays where their file is accepted; else both arrays stay
unfoldable pub judged_adding : Answer RecordCount → List ℕ → List ℕ → List ℕ → List ℕ → Outcome
judged_adding (given count) new_heads new_contents heads contents =
    record { answer = given (record { records = count; octets = in_octets (length new_contents) }); heads = fronted new_heads heads; contents = fronted new_contents contents }
judged_adding (refused n) new_heads new_contents heads contents = record { answer = refused n; heads = heads; contents = contents }
judged_adding (refused_at n offset) new_heads new_contents heads contents = record { answer = refused_at n offset; heads = heads; contents = contents }

-- by what the reader says of the file that the writer would make of them
unfoldable pub taken_over : List ℕ → List ℕ → List ℕ → List ℕ → Outcome
taken_over new_heads new_contents heads contents = judged_adding (verdict_of (file_of new_heads new_contents)) new_heads new_contents heads contents

-- a head and its data put into the heads and the data of a list
unfoldable pub adding_head : List ℕ → List ℕ → List ℕ → List ℕ → List ℕ → List ℕ → Outcome
adding_head head content list_heads list_contents heads contents =
    taken_over (heads_with head list_heads) (contents_with head content list_heads list_contents) heads contents

-- a list has the front parts of the arrays: all of an array where it counts more
unfoldable pub adding : RecordList → Record → List ℕ → List ℕ → Outcome
adding list r heads contents = adding_head (head_of r) r.content (take (head_size * list.records.0) heads) (take list.octets.0 contents) heads contents
