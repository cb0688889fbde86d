-- What reading a record by its TAB shows after a history: the data that the book has noted.
use Prim.Native.Nat.{ℕ, ◌<◌}
use mathlib.Core.Path.{◌≡◌, ap, ◌∙◌}
use mathlib.Core.List.{List}
use native.Mathlib.Omega.{arith}
use lib.ListN.{length}
use borrow.Author.Tests.{le-leb}
use Rattle.octets.specs.Splice.{spliced}
use Rattle.numbers.specs.Table.{none}
use Rattle.numbers.specs.Answer as answer
use Rattle.records.specs.declared.Attributes.{Attributes}
use Rattle.records.specs.Finding.{attributes_of, record_at, find}
use Rattle.records.proofs.InUse.{used_count}
use Rattle.records.proofs.Places.{found_own}
use Rattle.history.specs.Book.{book_of}
use Rattle.card_memory.specs.Layout.{record_places, size}
use Rattle.card_memory.specs.Decoding.{decoded}
use Rattle.card_memory.specs.Setup.{entry_records}
use Rattle.card_memory.proofs.RecordRuns.{length_records}
use Rattle.card_exports.specs.Observing.{shown_for, read_outcome}
use Rattle.card_exports.specs.Setup.{setup_outcome}
use Rattle.card_exports.proofs.Accepting.{setup_passed}
use Rattle.memory_history.specs.Claim.{MemoryCall, run, made, Accepted}
use Rattle.memory_history.proofs.History.{by_value, memory_kept}

module _ (before address key : List ℕ) (count : ℕ) (entries : List ℕ) (accepted : Accepted before address key count entries) (h : List MemoryCall) (i : ℕ) (inside : i < count) where
  abbrev left : List ℕ
  left = run (setup_outcome before address key count entries).memory h

  abbrev tab : ℕ
  tab = (record_at (entry_records count entries) i).attributes.tab

  abbrev noted : List ℕ
  noted = (book_of address key (entry_records count entries) (made h)).noted tab

  found : find (attributes_of (decoded left).records) tab ≡ answer.given i
  found =
      let given = entry_records count entries in
      let rules = (by_value before address key count entries accepted).sound.rules in
      ap (λ (l : List Attributes). find l tab) (memory_kept before address key count entries accepted h).kept.attributes
      ∙ found_own given rules i (omega (arith, used_count given (length_records record_places 0 entries) rules))

  pub memory_read : (lent : List ℕ) (cell : ℕ) → read_outcome left tab lent cell ≡ record { number = none; shown = spliced lent 0 noted; length = length noted }
  unfolding read_outcome shown_for
  memory_read lent cell =
      let k = memory_kept before address key count entries accepted h in
      let p = setup_passed before address key count entries accepted.number in
      rw (le-leb size (length left) (omega (arith, k.long, p.long)), k.sound, found, (k.kept.each i inside).octets)
