-- What `put_frame` gives and leaves, case by case.
use Prim.Native.Nat.{ℕ, ◌+◌, ◌≤◌, ◌<◌}
use mathlib.Core.Path.{◌≡◌, refl, sym, ap, ◌∙◌}
use mathlib.Core.List.{List}
use native.Mathlib.Nat.{add-zero}
use lib.ListN.{length}
use borrow.Author.Tests.{le-leb, lt-leb}
use Rattle.octets.specs.Splice.{spliced}
use Rattle.octets.proofs.Splice.{spliced_nothing}
use Rattle.frame.specs.declared.codes.Command.{Command}
use Rattle.numbers.specs.Answer.{given, refused}
use Rattle.frame.specs.Content.{fields_of, data_of}
use Rattle.frame.specs.declared.checks.Fault.{Fault}
use Rattle.frame.specs.declared.content.Reading.{Reading}
use Rattle.frame.specs.Checks.{fault_number, inspected, fields_in, FrameRead, answer_of_reading, read_of}
use Rattle.std.specs.Prelude.{Result, Ok, Err}
use Rattle.frame_text.specs.Words.{most_words, words_of, words_as, frame_words, frame_end, frame_over}

abbrev pub Outcome : List ℕ → ℕ → List ℕ → ℕ → List ℕ → Type 0
Outcome m at s r b = (r ≡ frame_end m at s) × (b ≡ frame_over m at s)

module _ (m : List ℕ) (at : ℕ) (s : List ℕ) where
  pub no_room : length m < at + most_words → Outcome m at s at m
  unfolding frame_end frame_over
  no_room h = rw (lt-leb (at + most_words) (length m) h) (refl, refl)

  pub no_frame : (number : ℕ) → at + most_words ≤ length m → inspected s ≡ refused number → Outcome m at s at m
  unfolding frame_end frame_over frame_words words_as
  no_frame number h e =
      rw (le-leb (at + most_words) (length m) h, e) (sym (add-zero at), sym (spliced_nothing m at))

  pub good_frame : (c : Command) (r : ℕ) (b : List ℕ) → at + most_words ≤ length m → inspected s ≡ given c
      → (r ≡ at + length (words_of c (fields_of c s) (data_of c s))) × (b ≡ spliced m at (words_of c (fields_of c s) (data_of c s))) → Outcome m at s r b
  unfolding frame_end frame_over frame_words words_as
  good_frame c r b h e p = rw (le-leb (at + most_words) (length m) h, e) p

-- what `frame::read` answers, as the checks and the fields of a frame
module _ (s : List ℕ) (answer : Result Reading Fault) where
  pub read_bad : (fault : Fault) → answer_of_reading answer ≡ read_of s → answer ≡ Err fault → inspected s ≡ refused (fault_number fault)
  unfolding read_of
  read_bad fault read e = sym (ap (λ (r : FrameRead). r.verdict) read) ∙ ap (λ (a : Result Reading Fault). (answer_of_reading a).verdict) e

  pub read_good : (reading : Reading) → answer_of_reading answer ≡ read_of s → answer ≡ Ok reading → (inspected s ≡ given reading.command) × (reading.fields ≡ fields_of reading.command s)
  unfolding read_of fields_in
  read_good reading read e =
      let verdict : inspected s ≡ given reading.command = sym (ap (λ (r : FrameRead). r.verdict) read) ∙ ap (λ (a : Result Reading Fault). (answer_of_reading a).verdict) e in
      (verdict, sym (ap (λ (a : Result Reading Fault). (answer_of_reading a).fields) e) ∙ ap (λ (r : FrameRead). r.fields) read ∙ rw verdict)
