-- The names in the order of their codes, three letters for each.
use Prim.Native.Nat.{ℕ, ◌+◌, ◌*◌}
use mathlib.Core.Path.{◌≡◌, refl}
use mathlib.Core.List.{List, [], ◌∷◌}
use Rattle.octets.specs.Part.{part_of}
use Rattle.frame.specs.declared.codes.Command.{Command}
use Rattle.frame.specs.declared.codes.Command.TheVariants.{Enq, Dat, Rec, Ech, Aut, Eos, Aso, Rso, Ib, Drj, Arj, Trf, Trb, Tra, Pre, Sel}
use Rattle.frame.specs.Codes.{code_of}
use Rattle.frame.proofs.CodeTable.{codes_differ}
use Rattle.frame_text.specs.Names.{name_of}

-- the letters of all names; IB has two, and 00 and 0F name no command
abbrev pub names : List ℕ
names =
    32 ∷ 32 ∷ 32 ∷ 69 ∷ 78 ∷ 81 ∷ 68 ∷ 65 ∷ 84 ∷ 82 ∷ 69 ∷ 67 ∷ 69 ∷ 67 ∷ 72 ∷ 65 ∷ 85 ∷ 84 ∷ 69 ∷ 79 ∷ 83 ∷ 65 ∷ 83 ∷ 79 ∷ 82 ∷ 83 ∷ 79 ∷ 73 ∷ 66 ∷ 32 ∷ 68 ∷ 82 ∷ 74 ∷ 65 ∷ 82 ∷ 74 ∷ 84 ∷ 82 ∷ 70 ∷ 84 ∷ 82 ∷ 66 ∷ 84 ∷ 82 ∷ 65 ∷ 32 ∷ 32 ∷ 32 ∷ 80 ∷ 82 ∷ 69 ∷ 83 ∷ 69 ∷ 76 ∷ []

pub name_of_three : (c : Command) → (code_of c ≡ 9 → ⊥) → part_of names (3 * code_of c) (3 * code_of c + 3) ≡ name_of c
unfolding part_of code_of name_of
name_of_three Enq n = refl
name_of_three Dat n = refl
name_of_three Rec n = refl
name_of_three Ech n = refl
name_of_three Aut n = refl
name_of_three Eos n = refl
name_of_three Aso n = refl
name_of_three Rso n = refl
name_of_three Ib n = absurd (n refl)
name_of_three Drj n = refl
name_of_three Arj n = refl
name_of_three Trf n = refl
name_of_three Trb n = refl
name_of_three Tra n = refl
name_of_three Pre n = refl
name_of_three Sel n = refl

pub name_of_two : (c : Command) → code_of c ≡ 9 → part_of names (3 * code_of c) (3 * code_of c + 2) ≡ name_of c
unfolding part_of code_of name_of
name_of_two c e = rw (codes_differ c Ib e)
