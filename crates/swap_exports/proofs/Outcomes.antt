-- Each way out of the calls, against the definition.
use Prim.Native.Nat.{ℕ}
use mathlib.Core.Path.{◌≡◌, ap, ◌∙◌}
use mathlib.Core.Bool.{true}
use mathlib.Core.List.{List}
use Rattle.numbers.specs.declared.Octets.{Octets}
use Rattle.numbers.specs.Answer.{Answer, given, refused, refused_at}
use Rattle.numbers.specs.Table.{none, faulty_file}
use Rattle.swap.specs.declared.file.RecordCount.{RecordCount}
use Rattle.swap.specs.declared.item.Entry.{Entry}
use Rattle.swap.specs.declared.cursor.Cursor.{Cursor}
use Rattle.swap.specs.declared.cursor.NoRecord.{NoRecord}
use Rattle.swap.specs.Record.{kind_octet}
use Rattle.swap.specs.Cursor.{Standing, answer_of_next, ads_of}
use Rattle.swap_list.specs.declared.RecordList.{RecordList}
use Rattle.std.specs.Prelude.{Option, Some, None, Result, Ok, Err}
use Rattle.swap.specs.declared.file.Fault.{Fault}
use Rattle.swap_list.specs.Adding.{Outcome, answer_of_added}
use Rattle.swap_exports.specs.Reports.{judged_as, started_as, Shown, nothing, shown, written_as, counts_as, added_as}

module _ (a : Answer RecordCount) (records offset : ℕ) where
  pub judged_given : (c : RecordCount) → given c ≡ a → record { number = none; records = c.0; offset = offset } ≡ judged_as a records offset
  unfolding judged_as
  judged_given c e = rw (← e)

  pub judged_refused : (n : ℕ) (o : Octets) → refused_at n o ≡ a → record { number = n; records = records; offset = o.0 } ≡ judged_as a records offset
  unfolding judged_as
  judged_refused n o e = rw (← e)

module _ (a : Answer Cursor) (at left offset : ℕ) where
  pub started_first : (c : Cursor) → given c ≡ a → record { number = none; at = c.at.0; left = c.left.0; offset = offset } ≡ started_as a at left offset
  unfolding started_as
  started_first c e = rw (← e)

  pub started_fault : (n : ℕ) (o : Octets) → refused_at n o ≡ a → record { number = n; at = at; left = left; offset = o.0 } ≡ started_as a at left offset
  unfolding started_as
  started_fault n o e = rw (← e)

module _ (a : Result (Option (Entry × Cursor)) NoRecord) (s : List ℕ) (b : Shown) where
  pub shown_end : a ≡ Ok None → nothing none b ≡ shown (answer_of_next a) s b
  unfolding shown
  shown_end e = rw e

  pub shown-none : (no_record : NoRecord) → a ≡ Err no_record → nothing faulty_file b ≡ shown (answer_of_next a) s b
  unfolding shown
  shown-none no_record e = rw e

  pub shown_record : (entry : Entry) (after : Cursor) (its : List ℕ) (octet : ℕ) → a ≡ Ok (Some (entry, after)) → its ≡ ads_of s entry → octet ≡ kind_octet entry.kind → record { number = none; at = after.at.0; left = after.left.0; found = true; ads = its; tab = entry.tab; kind = octet; from = entry.from.0; length = entry.length.0 } ≡ shown (answer_of_next a) s b
  unfolding shown
  shown_record entry after its octet e i k = rw (e, i, k)

-- the answer that was shown is the definition's
pub shown_same : (k m : Answer Standing) (s : List ℕ) (b x : Shown) → x ≡ shown k s b → k ≡ m → x ≡ shown m s b
shown_same k m s b x e p = e ∙ ap (λ (n : Answer Standing). shown n s b) p

module _ (a : Answer Octets) (b t : List ℕ) (length offset : ℕ) (left : b ≡ t) where
  pub written_whole : (octets : Octets) → given octets ≡ a → record { number = none; buffer = b; length = octets.0; offset = offset } ≡ written_as a t length offset
  unfolding written_as
  written_whole octets e = rw (← e, left)

  pub written_fault : (n : ℕ) (o : Octets) → refused_at n o ≡ a → record { number = n; buffer = b; length = length; offset = o.0 } ≡ written_as a t length offset
  unfolding written_as
  written_fault n o e = rw (← e, left)

  pub written_short : (n : ℕ) → refused n ≡ a → record { number = n; buffer = b; length = length; offset = offset } ≡ written_as a t length offset
  unfolding written_as
  written_short n e = rw (← e, left)

module _ (x : Outcome) (heads contents : List ℕ) (records octets offset : ℕ) (answer : Result RecordList Fault) (is : record { answer = answer_of_added answer; heads = heads; contents = contents } ≡ x) where
  pub added_kept : (list : RecordList) → answer ≡ Ok list → record { number = none; heads = heads; contents = contents; records = list.records.0; octets = list.octets.0; offset = offset } ≡ added_as x records octets offset
  unfolding added_as counts_as
  added_kept list e = rw (← is, e)

  pub added_fault : (o : Fault) → answer ≡ Err o → record { number = faulty_file; heads = heads; contents = contents; records = records; octets = octets; offset = o.0.0 } ≡ added_as x records octets offset
  unfolding added_as counts_as
  added_fault o e = rw (← is, e)
