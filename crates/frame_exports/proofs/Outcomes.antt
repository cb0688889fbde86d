-- The outcomes of the exported calls, case by case.
use Prim.Native.Nat.{ℕ, ◌≤◌, ◌<◌}
use mathlib.Core.Path.{◌≡◌, sym, ap, ◌∙◌}
use mathlib.Core.List.{List}
use borrow.Author.Tests.{le-leb, lt-leb}
use lib.ListN.{length}
use Rattle.std.specs.Prelude.{Result, Ok, Err}
use Rattle.octets.specs.Splice.{spliced}
use Rattle.frame.specs.declared.codes.Command.{Command}
use Rattle.frame.specs.declared.codes.UnknownCommand.{UnknownCommand}
use Rattle.frame.specs.declared.builder.Refusal.{Refusal}
use Rattle.frame.specs.declared.checks.Fault.{Fault}
use Rattle.frame.specs.declared.content.Fields.{Fields}
use Rattle.frame.specs.declared.content.Reading.{Reading}
use Rattle.frame.specs.Sizes.{longest_frame}
use Rattle.frame.specs.Codes.{code_of, answer_of_lookup, command_of}
use Rattle.frame.specs.Content.{fields_of, data_of}
use Rattle.frame.specs.Checks.{fault_number, inspected, fields_in, FrameRead, answer_of_reading, read_of}
use Rattle.frame.specs.Building.{refusal_number, answer_of_built, built}
use Rattle.numbers.specs.Table.{unknown_command, wrong_length}
use Rattle.numbers.specs.Answer.{given, refused}
use Rattle.numbers.specs.declared.Octets.{Octets}
use Rattle.frame_exports.specs.Exported.{Shown, unwritten, written_as, build_for, build_outcome, unshown, shown_as, read_outcome}

module _ (b : List ℕ) (code : ℕ) (f : Fields) (d : List ℕ) (before : ℕ) where
  pub build_short : length b < longest_frame → unwritten wrong_length b before ≡ build_outcome b code f d before
  unfolding build_outcome
  build_short h = rw (lt-leb longest_frame (length b) h)

  module _ (found : Result Command UnknownCommand) (named : answer_of_lookup found ≡ command_of code) where
    pub build_unknown : (unknown : UnknownCommand) → longest_frame ≤ length b → found ≡ Err unknown → unwritten unknown_command b before ≡ build_outcome b code f d before
    unfolding build_outcome build_for
    build_unknown unknown h e = rw (le-leb longest_frame (length b) h, ← named, e)

    module _ (c : Command) (answer : Result Octets Refusal) (after : List ℕ) (capacity : longest_frame ≤ length b) (known : found ≡ Ok c) (answered : answer_of_built answer ≡ (built b c f d).answer) (left : after ≡ (built b c f d).buffer) where
      pub build_framed : (octets : Octets) → answer ≡ Ok octets → record { number = 0; buffer = after; length = octets.0 } ≡ build_outcome b code f d before
      unfolding build_outcome build_for written_as
      build_framed octets e = rw (le-leb longest_frame (length b) capacity, ← named, known, ← answered, ← left, e)

      pub build_refused : (refusal : Refusal) (number : ℕ) → answer ≡ Err refusal → number ≡ refusal_number refusal → unwritten number after before ≡ build_outcome b code f d before
      unfolding build_outcome build_for written_as
      build_refused refusal number e n = rw (le-leb longest_frame (length b) capacity, ← named, known, ← answered, ← left, e, n)

module _ (s : List ℕ) (answer : Result Reading Fault) (read : answer_of_reading answer ≡ read_of s) (before : Shown) where
  pub read_bad : (fault : Fault) (number : ℕ) → answer ≡ Err fault → number ≡ fault_number fault → unshown number before ≡ read_outcome s before
  unfolding read_of read_outcome shown_as
  read_bad fault number e n =
      let verdict : inspected s ≡ refused (fault_number fault) = sym (ap (λ (r : FrameRead). r.verdict) read) ∙ ap (λ (a : Result Reading Fault). (answer_of_reading a).verdict) e in
      rw (verdict, n)

  module _ (reading : Reading) (good : answer ≡ Ok reading) where
    verdict_good : inspected s ≡ given reading.command
    unfolding read_of
    verdict_good = sym (ap (λ (r : FrameRead). r.verdict) read) ∙ ap (λ (a : Result Reading Fault). (answer_of_reading a).verdict) good

    pub fields_good : reading.fields ≡ fields_of reading.command s
    unfolding read_of fields_in
    fields_good = sym (ap (λ (a : Result Reading Fault). (answer_of_reading a).fields) good) ∙ ap (λ (r : FrameRead). r.fields) read ∙ rw verdict_good

    pub read_good : (code : ℕ) (content part : List ℕ) → code ≡ code_of reading.command → part ≡ data_of reading.command s → content ≡ spliced before.content 0 part → record { number = 0; code = code; fields = reading.fields; content = content; length = length part } ≡ read_outcome s before
    unfolding read_outcome shown_as
    read_good code content part k p n = rw (verdict_good, k, fields_good, n, p)
