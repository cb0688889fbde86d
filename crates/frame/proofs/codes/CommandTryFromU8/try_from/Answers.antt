-- Any other code is none of the sixteen.
use Rattle.frame.specs.declared.codes.Command.{Command}
use Rattle.frame.specs.declared.codes.Command.TheVariants.{Enq, Dat, Rec, Ech, Aut, Eos, Aso, Rso, Ib, Drj, Arj, Trf, Trb, Tra, Pre, Sel}
use Rattle.frame.specs.Codes.{code_of}
use Rattle.frame.proofs.CodeTable.{missing}
use Rattle.frame.proofs.codes.CommandTryFromU8.try_from.Goals as goal
use mathlib.Core.Path.{◌≡◌, sym}
use native.Mathlib.Omega.{arith}

pub returns-in_default : goal.returns-in_default
unfolding code_of
returns-in_default c = sym (missing _ none)
  where
    none : (d : Command) → code_of d ≡ c.args.code → ⊥
    none Enq e = omega arith
    none Dat e = omega arith
    none Rec e = omega arith
    none Ech e = omega arith
    none Aut e = omega arith
    none Eos e = omega arith
    none Aso e = omega arith
    none Rso e = omega arith
    none Ib e = omega arith
    none Drj e = omega arith
    none Arj e = omega arith
    none Trf e = omega arith
    none Trb e = omega arith
    none Tra e = omega arith
    none Pre e = omega arith
    none Sel e = omega arith
