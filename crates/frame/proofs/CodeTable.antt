-- The code table: every command is found under its own code, and nothing else is found.
use Prim.Native.Nat.{ℕ, zero, suc}
use mathlib.Core.Path.{◌≡◌, refl, sym, ap, ◌∙◌}
use mathlib.Core.List.{List, [], ◌∷◌}
use mathlib.Core.Bool.{Bool, true, false, cond}
use lib.Dec.{eqb}
use borrow.Author.Tests.{ne_eqb, eqb-true}
use Rattle.numbers.specs.Table.{unknown_command}
use Rattle.numbers.specs.Answer.{Answer, given, refused, refused_at}
use Rattle.frame.specs.declared.codes.Command.{Command}
use Rattle.frame.specs.declared.codes.Command.TheVariants.{Enq, Dat, Rec, Ech, Aut, Eos, Aso, Rso, Ib, Drj, Arj, Trf, Trb, Tra, Pre, Sel}
use Rattle.frame.specs.Codes.{code_of, commands, among, command_of}

pub found : (c : Command) → command_of (code_of c) ≡ given c
unfolding code_of among command_of
found Enq = refl
found Dat = refl
found Rec = refl
found Ech = refl
found Aut = refl
found Eos = refl
found Aso = refl
found Rso = refl
found Ib = refl
found Drj = refl
found Arj = refl
found Trf = refl
found Trb = refl
found Tra = refl
found Pre = refl
found Sel = refl

pub found_by_code : (n : ℕ) (c : Command) → command_of n ≡ given c → code_of c ≡ n
unfolding among command_of
found_by_code n c = go commands
  where
    pick : (d : Command) (cs : List Command) (t : Bool) → eqb (code_of d) n ≡ t → (among cs n ≡ given c → code_of c ≡ n) → cond t (given d) (among cs n) ≡ given c → code_of c ≡ n
    pick d cs true h rest e =
        let same : c ≡ d = cc in
        ap code_of same ∙ eqb-true (code_of d) n h
    pick d cs false h rest e = rest e

    go : (cs : List Command) → among cs n ≡ given c → code_of c ≡ n
    go [] e = cc
    go (d ∷ cs) e = pick d cs (eqb (code_of d) n) refl (go cs) e

pub codes_differ : (c d : Command) → code_of c ≡ code_of d → c ≡ d
codes_differ c d e =
    let same : given c ≡ given d = sym (found c) ∙ ap command_of e ∙ found d in
    cc

pub missing : (n : ℕ) → ((c : Command) → code_of c ≡ n → ⊥) → command_of n ≡ refused unknown_command
unfolding among command_of
missing n none = go commands
  where
    go : (cs : List Command) → among cs n ≡ refused unknown_command
    go [] = refl
    go (c ∷ cs) = rw (ne_eqb (code_of c) n (none c)) (go cs)

-- the codes below n under which a command is found, the highest first
pub codes_found : ℕ → List ℕ
codes_found zero = []
codes_found (suc n) = at n (command_of n) (codes_found n)
  where
    at : ℕ → Answer Command → List ℕ → List ℕ
    at n (given c) l = n ∷ l
    at n (refused k) l = l
    at n (refused_at k o) l = l

-- of the 256 codes exactly these sixteen are known: 0F, 12, 13 and E0 to FF are not
pub sixteen : codes_found 256 ≡ 0x11 ∷ 0x10 ∷ 0x0E ∷ 0x0D ∷ 0x0C ∷ 0x0B ∷ 0x0A ∷ 0x09 ∷ 0x08 ∷ 0x07 ∷ 0x06 ∷ 0x05 ∷ 0x04 ∷ 0x03 ∷ 0x02 ∷ 0x01 ∷ []
unfolding codes_found code_of among command_of
sixteen = refl
