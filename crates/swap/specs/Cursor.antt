-- Reading a file record by record (01, Swap file), with what a cursor that is not one of the file's answers.
use Rattle.std.specs.Prelude.{Option, Some, None, Result, Ok, Err, ℕ, ◌+◌, ◌-◌, ◌≡◌, cond, List, [], ◌∷◌, leb, eqb, length, get_or, take, drop, replicate}
use Rattle.numbers.specs.Counts.{in_octets}
use Rattle.numbers.specs.Answer.{Answer, given, refused, refused_at}
use Rattle.numbers.specs.Table.{faulty_file}
use Rattle.number.specs.Groups.{encoded}
use Rattle.swap.specs.declared.kind.Kind.{Kind}
use Rattle.swap.specs.declared.item.Entry.{Entry}
use Rattle.swap.specs.declared.file.Fault.{Fault}
use Rattle.swap.specs.declared.cursor.Cursor.{Cursor}
use Rattle.swap.specs.declared.cursor.NoRecord.{NoRecord}
use Rattle.swap.specs.Record.{Record, kind_octet, kind_of}
use Rattle.swap.specs.Encoding.{records_octets}
use Rattle.swap.specs.Items.{Judged, bad, good, judged, judged_content, length_field}
use Rattle.swap.specs.Reading.{FileListing, faulty, listed, read_file, in_record_count}

-- what was judged of the octets s from an offset on, with its place in the file
unfoldable pub placed_item : ℕ → Kind → List ℕ → Judged → Result Entry Fault
placed_item at kind s (bad o) = Err (record { 0 = in_octets (at + o) })
placed_item at kind s (good w n) = Ok (record { at = in_octets at; tab = get_or s 6 0; kind = kind; from = in_octets (at + 8 + w); length = in_octets n })

-- the items of a record from an offset on
unfoldable pub item_at : ℕ → List ℕ → ℕ → Result Entry Fault
item_at least s at = placed_item at (kind_of (get_or (drop at s) 7 0)) (drop at s) (judged least (drop at s))

-- its length and data
unfoldable pub content_at : Kind → List ℕ → ℕ → Result Entry Fault
content_at kind s at = placed_item at kind (drop at s) (judged_content kind (length_field kind (drop (at + 8) s)) (drop (at + 8) s))

-- the cursor of a file with so many records, after the first of them
unfoldable pub cursor_after : ℕ → List Record → Cursor
cursor_after count passed = record { at = in_octets (length (encoded count) + length (records_octets passed)); left = in_record_count (count - length passed) }

-- the number and values of each case
abbrev pub answer_of_started : Result Cursor Fault → Answer Cursor
answer_of_started (Ok c) = given c
answer_of_started (Err fault) = refused_at faulty_file fault.0

abbrev pub started : FileListing → Answer Cursor
started (faulty o) = refused_at faulty_file (in_octets o)
started (listed rs) = given (cursor_after (length rs) [])

-- the cursor of the first record; 01, Swap file, of a file that the reader refuses: "A fault is 18 with an offset"
unfoldable pub start_of : List ℕ → Answer Cursor
start_of s = started (read_file s)

-- what stands at a cursor: a record with the cursor after it, or the end
pub data Standing : Type 0 where
  record_here : Entry → Cursor → Standing
  file_end : Standing

-- 01, Numbers handed back: 18 where no record of the file stands; a record and the end have no number
abbrev pub answer_of_next : Result (Option (Entry × Cursor)) NoRecord → Answer Standing
answer_of_next (Ok (Some found)) = given (record_here found.0 found.1)
answer_of_next (Ok None) = given file_end
answer_of_next (Err no_record) = refused faulty_file

unfoldable pub followed : ℕ → Result Entry Fault → Answer Standing
followed left (Err fault) = refused faulty_file
followed left (Ok e) = given (record_here e (record { at = in_octets (e.from.0 + e.length.0); left = in_record_count (left - 1) }))

-- the record that stands at a cursor, judged by its own items alone: 18 where none does
unfoldable pub next_at : List ℕ → Cursor → Answer Standing
next_at s c = cond (eqb c.left.0 0) (given file_end) (followed c.left.0 (item_at 0 s c.at.0))

-- a cursor that starting on a file gave, or a record of the file after it
pub data Led (s : List ℕ) : Cursor → Type 0 where
  begun : {c : Cursor} → start_of s ≡ given c → Led s c
  moved : {c after : Cursor} {e : Entry} → Led s c → next_at s c ≡ given (record_here e after) → Led s after

-- the ADS and the data of an entry: zeros, and no octets, where the file has no such part
unfoldable pub ads_of : List ℕ → Entry → List ℕ
ads_of s e = cond (leb (e.at.0 + 6) (length s)) (take 6 (drop e.at.0 s)) (replicate 6 0)

unfoldable pub content_of : List ℕ → Entry → List ℕ
content_of s e = cond (leb (e.from.0 + e.length.0) (length s)) (take e.length.0 (drop e.from.0 s)) []

-- an entry of a file stands for this record
pub record Shows (s : List ℕ) (e : Entry) (r : Record) : Type 0 where
  pub ads : ads_of s e ≡ r.ads
  pub tab : e.tab ≡ r.tab
  pub kind : kind_octet e.kind ≡ r.kind
  pub content : content_of s e ≡ r.content

-- at a cursor a file gives this record, and another cursor after it; answer is what stands at a cursor, or what is searched for from there on
pub record GivesNext (answer : List ℕ → Cursor → Answer Standing) (s : List ℕ) (c : Cursor) (r : Record) (after : Cursor) : Type 0 where
  pub entry : Entry
  pub here : answer s c ≡ given (record_here entry after)
  pub shows : Shows s entry r

-- from a cursor on a file gives these records one after the other, and then the end
pub data GivesAll (answer : List ℕ → Cursor → Answer Standing) (s : List ℕ) : Cursor → List Record → Type 0 where
  ended : {c : Cursor} → answer s c ≡ given file_end → GivesAll answer s c []
  further : {c after : Cursor} {r : Record} {rs : List Record} → GivesNext answer s c r after → GivesAll answer s after rs → GivesAll answer s c (r ∷ rs)
