-- What a C program gets of the swap file's calls: 01's number, and each lent cell and octet afterwards.
use Rattle.std.specs.Prelude.{ℕ, Bool, true, false, List}
use Rattle.numbers.specs.Answer.{Answer, given, refused, refused_at}
use Rattle.numbers.specs.Table.{none}
use Rattle.swap.specs.declared.file.RecordCount.{RecordCount}
use Rattle.swap.specs.Record.{kind_octet}
use Rattle.swap.specs.declared.cursor.Cursor.{Cursor}
use Rattle.swap.specs.Cursor.{Standing, record_here, file_end, ads_of}
use Rattle.numbers.specs.declared.Octets.{Octets}
use Rattle.swap_list.specs.declared.RecordList.{RecordList}
use Rattle.swap_list.specs.Adding as list

pub record Verdict : Type 0 where
  pub number : ℕ
  pub records : ℕ
  pub offset : ℕ

-- 0 with the count of records, or 18 with the offset; the other cell as it was
unfoldable pub judged_as : Answer RecordCount → ℕ → ℕ → Verdict
judged_as (given count) records offset = record { number = none; records = count.0; offset = offset }
judged_as (refused n) records offset = record { number = n; records = records; offset = offset }
judged_as (refused_at n o) records offset = record { number = n; records = records; offset = o.0 }

pub record Started : Type 0 where
  pub number : ℕ
  pub at : ℕ
  pub left : ℕ
  pub offset : ℕ

-- 0 with the cursor, or 18 with the offset; the other cells as they were
unfoldable pub started_as : Answer Cursor → ℕ → ℕ → ℕ → Started
started_as (given c) at left offset = record { number = none; at = c.at.0; left = c.left.0; offset = offset }
started_as (refused n) at left offset = record { number = n; at = at; left = left; offset = offset }
started_as (refused_at n o) at left offset = record { number = n; at = at; left = left; offset = o.0 }

-- the number and the cells of a call that asks for a record: the cursor, the mark, and where the record stands
pub record Shown : Type 0 where
  pub number : ℕ
  pub at : ℕ
  pub left : ℕ
  pub found : Bool
  pub ads : List ℕ
  pub tab : ℕ
  pub kind : ℕ
  pub from : ℕ
  pub length : ℕ

-- the cells as they were, but for the mark
abbrev pub nothing : ℕ → Shown → Shown
nothing number b =
    record { number = number; at = b.at; left = b.left; found = false; ads = b.ads; tab = b.tab; kind = b.kind; from = b.from; length = b.length }

-- a record of the file s with the cursor after it; the end is 0 with no record; at a number too only the mark changes
unfoldable pub shown : Answer Standing → List ℕ → Shown → Shown
shown (given file_end) s b = nothing none b
shown (refused n) s b = nothing n b
shown (refused_at n offset) s b = nothing n b
shown (given (record_here e after)) s b =
    record {
      number = none;
      at = after.at.0;
      left = after.left.0;
      found = true;
      ads = ads_of s e;
      tab = e.tab;
      kind = kind_octet e.kind;
      from = e.from.0;
      length = e.length.0;
    }

pub record Written : Type 0 where
  pub number : ℕ
  pub buffer : List ℕ
  pub length : ℕ
  pub offset : ℕ

-- 0 with the length, 18 with the offset, or 17; a cell that is not named as it was
unfoldable pub written_as : Answer Octets → List ℕ → ℕ → ℕ → Written
written_as (given octets) buffer length offset = record { number = none; buffer = buffer; length = octets.0; offset = offset }
written_as (refused n) buffer length offset = record { number = n; buffer = buffer; length = length; offset = offset }
written_as (refused_at n o) buffer length offset = record { number = n; buffer = buffer; length = length; offset = o.0 }

pub record Added : Type 0 where
  pub number : ℕ
  pub heads : List ℕ
  pub contents : List ℕ
  pub records : ℕ
  pub octets : ℕ
  pub offset : ℕ

unfoldable pub counts_as : Answer RecordList → List ℕ → List ℕ → ℕ → ℕ → ℕ → Added
counts_as (given next) heads contents records octets offset =
    record { number = none; heads = heads; contents = contents; records = next.records.0; octets = next.octets.0; offset = offset }
counts_as (refused n) heads contents records octets offset =
    record { number = n; heads = heads; contents = contents; records = records; octets = octets; offset = offset }
counts_as (refused_at n o) heads contents records octets offset =
    record { number = n; heads = heads; contents = contents; records = records; octets = octets; offset = o.0 }

-- 0 with the next list's counts, or 18 with the offset and the counts as they were
unfoldable pub added_as : list.Outcome → ℕ → ℕ → ℕ → Added
added_as o records octets offset = counts_as o.answer o.heads o.contents records octets offset
