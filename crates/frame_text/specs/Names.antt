-- The commands' names: 004, Annex D, Table D.1.
use Rattle.std.specs.Prelude.{ℕ, List, [], ◌∷◌}
use Rattle.frame.specs.declared.codes.Command.{Command}
use Rattle.frame.specs.declared.codes.Command.TheVariants.{Enq, Dat, Rec, Ech, Aut, Eos, Aso, Rso, Ib, Drj, Arj, Trf, Trb, Tra, Pre, Sel}
use Rattle.frame_text.specs.Letters.{A, B, C, D, E, F, H, I, J, L, N, O, P, Q, R, S, T, U}

unfoldable pub name_of : Command → List ℕ
name_of Enq = E ∷ N ∷ Q ∷ []
name_of Dat = D ∷ A ∷ T ∷ []
name_of Rec = R ∷ E ∷ C ∷ []
name_of Ech = E ∷ C ∷ H ∷ []
name_of Aut = A ∷ U ∷ T ∷ []
name_of Eos = E ∷ O ∷ S ∷ []
name_of Aso = A ∷ S ∷ O ∷ []
name_of Rso = R ∷ S ∷ O ∷ []
name_of Ib = I ∷ B ∷ []
name_of Drj = D ∷ R ∷ J ∷ []
name_of Arj = A ∷ R ∷ J ∷ []
name_of Trf = T ∷ R ∷ F ∷ []
name_of Trb = T ∷ R ∷ B ∷ []
name_of Tra = T ∷ R ∷ A ∷ []
name_of Pre = P ∷ R ∷ E ∷ []
name_of Sel = S ∷ E ∷ L ∷ []
