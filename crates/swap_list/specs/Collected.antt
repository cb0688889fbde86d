-- Records added one after the other to a list that begins empty, accepted or refused (01, Swap file).
use Rattle.std.specs.Prelude.{ℕ, ◌*◌, ◌≡◌, List, [], ◌∷◌, length, take}
use Rattle.numbers.specs.Counts.{in_octets}
use Rattle.numbers.specs.Answer.{Answer, given, refused, refused_at}
use Rattle.swap.specs.declared.file.RecordCount.{RecordCount}
use Rattle.swap.specs.Record.{Record}
use Rattle.swap.specs.Encoding.{encode, Within}
use Rattle.swap.specs.Reading.{verdict_of, in_record_count}
use Rattle.swap_write.specs.Heads.{head_size, heads_of, contents_of, file_of}
use Rattle.swap_list.specs.declared.RecordList.{RecordList}
use Rattle.swap_list.specs.Adding.{empty, adding}
use Rattle.swap_list.specs.Ordered.{placed}

-- a list, and the two arrays that are lent with it
pub record Lent : Type 0 where
  pub list : RecordList
  pub heads : List ℕ
  pub contents : List ℕ

-- before the first add, whatever the arrays hold
abbrev pub begun : List ℕ → List ℕ → Lent
begun heads contents = record { list = empty; heads = heads; contents = contents }

-- the list for the next call: the one given back, or the same where the add was refused
abbrev pub list_after : RecordList → Answer RecordList → RecordList
list_after list (given next) = next
list_after list (refused n) = list
list_after list (refused_at n offset) = list

unfoldable pub after_add : Lent → Record → Lent
after_add l r =
    let o = adding l.list r l.heads l.contents in
    record { list = list_after l.list o.answer; heads = o.heads; contents = o.contents }

unfoldable pub after_adds : Lent → List Record → Lent
after_adds l [] = l
after_adds l (r ∷ rs) = after_adds (after_add l r) rs

-- 01, Swap file: records that would make a faulty file are refused; else the record is kept, in its place
abbrev pub kept_by : Answer RecordCount → Record → List Record → List Record
kept_by (given count) r rs = placed r rs
kept_by (refused n) r rs = rs
kept_by (refused_at n offset) r rs = rs

unfoldable pub kept : List Record → Record → List Record
kept rs r = kept_by (verdict_of (encode (placed r rs))) r rs

-- the records kept of those offered, from the records alone
unfoldable pub kept_of : List Record → List Record → List Record
kept_of rs [] = rs
kept_of rs (r ∷ more) = kept_of (kept rs r) more

-- what a list has at the front of its arrays
abbrev pub heads_in : Lent → List ℕ
heads_in l = take (head_size * l.list.records.0) l.heads

abbrev pub contents_in : Lent → List ℕ
contents_in l = take l.list.octets.0 l.contents

-- the list holds exactly these records: rising by ADS then TAB and within all other rules, each with its own kind and data, and the writer's file for it is their encoding
pub record Holds (l : Lent) (rs : List Record) : Type 0 where
  pub within : Within rs
  pub counts : l.list ≡ record { records = in_record_count (length rs); octets = in_octets (length (contents_of rs)) }
  pub heads : heads_in l ≡ heads_of rs
  pub contents : contents_in l ≡ contents_of rs
  pub file : file_of (heads_in l) (contents_in l) ≡ encode rs

-- the records that the calls accepted, in the order of the calls
abbrev pub accepted_by : Answer RecordList → Record → List Record → List Record
accepted_by (given next) r rs = r ∷ rs
accepted_by (refused n) r rs = rs
accepted_by (refused_at n offset) r rs = rs

unfoldable pub accepted : Lent → List Record → List Record
accepted l [] = []
accepted l (r ∷ rs) = accepted_by (adding l.list r l.heads l.contents).answer r (accepted (after_add l r) rs)

-- records put into their places one after the other
unfoldable pub in_order : List Record → List Record → List Record
in_order rs [] = rs
in_order rs (r ∷ more) = in_order (placed r rs) more
