-- What a C program gets of building and of reading a frame: 01's number, and each lent octet afterwards.
use Rattle.std.specs.Prelude.{ℕ, List, cond, leb, length}
use Rattle.octets.specs.Splice.{spliced}
use Rattle.numbers.specs.Table.{none, wrong_length}
use Rattle.numbers.specs.Answer.{Answer, given, refused, refused_at}
use Rattle.numbers.specs.declared.Octets.{Octets}
use Rattle.frame.specs.declared.codes.Command.{Command}
use Rattle.frame.specs.declared.content.Fields.{Fields}
use Rattle.frame.specs.Sizes.{longest_frame}
use Rattle.frame.specs.Codes.{code_of, command_of}
use Rattle.frame.specs.Content.{fields_of, data_of}
use Rattle.frame.specs.Checks.{inspected}
use Rattle.frame.specs.Building.{built}

abbrev pub fields_from : List ℕ → ℕ → List ℕ → List ℕ → ℕ → List ℕ → Fields
fields_from ads adp za1 za2 tab announced = record { ads = ads; adp = adp; za1 = za1; za2 = za2; tab = tab; announced = announced }

pub record Written : Type 0 where
  pub number : ℕ
  pub buffer : List ℕ
  pub length : ℕ

abbrev pub unwritten : ℕ → List ℕ → ℕ → Written
unwritten number b before = record { number = number; buffer = b; length = before }

-- 0 with the frame's length, or the refusal's number with the length as it was
unfoldable pub written_as : Answer Octets → List ℕ → ℕ → Written
written_as (given octets) b before = record { number = none; buffer = b; length = octets.0 }
written_as (refused number) b before = unwritten number b before
written_as (refused_at number offset) b before = unwritten number b before

unfoldable pub build_for : Answer Command → List ℕ → Fields → List ℕ → ℕ → Written
build_for (given c) b f d before = written_as (built b c f d).answer (built b c f d).buffer before
build_for (refused number) b f d before = unwritten number b before
build_for (refused_at number offset) b f d before = unwritten number b before

-- 17 first; then 4, "known command", for a code that names none; then as the builder
unfoldable pub build_outcome : List ℕ → ℕ → Fields → List ℕ → ℕ → Written
build_outcome b code f d before = cond (leb longest_frame (length b)) (build_for (command_of code) b f d before) (unwritten wrong_length b before)

-- what is lent for a frame's fields, with the number
pub record Shown : Type 0 where
  pub number : ℕ
  pub code : ℕ
  pub fields : Fields
  pub content : List ℕ
  pub length : ℕ

-- a good frame's command, fields and DATA, with DATA over the front of what is lent for it; or a number, and all as it was
abbrev pub unshown : ℕ → Shown → Shown
unshown number before =
    record { number = number; code = before.code; fields = before.fields; content = before.content; length = before.length }

unfoldable pub shown_as : Answer Command → List ℕ → Shown → Shown
shown_as (given c) s before =
    record { number = none; code = code_of c; fields = fields_of c s; content = spliced before.content 0 (data_of c s); length = length (data_of c s) }
shown_as (refused number) s before = unshown number before
shown_as (refused_at number offset) s before = unshown number before

unfoldable pub read_outcome : List ℕ → Shown → Shown
read_outcome s before = shown_as (inspected s) s before
