-- The command codes of 004 Annex D, Table D.1, that are used without DLMS. They are the commands that 01 names under Frames.
use Rattle.std.specs.Prelude.{ℕ, List, [], ◌∷◌, Result, Ok, Err, cond, eqb}
use Rattle.numbers.specs.Table.{unknown_command}
use Rattle.numbers.specs.Answer.{Answer, given, refused}
use Rattle.frame.specs.declared.codes.Command.{Command}
use Rattle.frame.specs.declared.codes.Command.TheVariants.{Enq, Dat, Rec, Ech, Aut, Eos, Aso, Rso, Ib, Drj, Arj, Trf, Trb, Tra, Pre, Sel}
use Rattle.frame.specs.declared.codes.UnknownCommand.{UnknownCommand}

unfoldable pub code_of : Command → ℕ
code_of Enq = 0x01
code_of Dat = 0x02
code_of Rec = 0x03
code_of Ech = 0x04
code_of Aut = 0x05
code_of Eos = 0x06
code_of Aso = 0x07
code_of Rso = 0x08
code_of Ib = 0x09
code_of Drj = 0x0A
code_of Arj = 0x0B
code_of Trf = 0x0C
code_of Trb = 0x0D
code_of Tra = 0x0E
code_of Pre = 0x10
code_of Sel = 0x11

abbrev pub commands : List Command
commands = Enq ∷ Dat ∷ Rec ∷ Ech ∷ Aut ∷ Eos ∷ Aso ∷ Rso ∷ Ib ∷ Drj ∷ Arj ∷ Trf ∷ Trb ∷ Tra ∷ Pre ∷ Sel ∷ []

abbrev pub answer_of_lookup : Result Command UnknownCommand → Answer Command
answer_of_lookup (Ok c) = given c
answer_of_lookup (Err unknown) = refused unknown_command

-- the first of these commands that has this code
unfoldable pub among : List Command → ℕ → Answer Command
among [] code = refused unknown_command
among (c ∷ cs) code = cond (eqb (code_of c) code) (given c) (among cs code)

-- 01, Receiving: "known command (4)"
unfoldable pub command_of : ℕ → Answer Command
command_of code = among commands code
