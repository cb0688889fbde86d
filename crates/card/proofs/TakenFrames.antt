-- The frames that a card takes, by their commands.
use mathlib.Core.Path.{◌≡◌, refl}
use mathlib.Core.Bool.{Bool, true, false}
use mathlib.Core.List.{List}
use Prim.Native.Nat.{ℕ}
use Rattle.std.specs.Prelude.{Some, None}
use Rattle.octets.specs.Part.{same}
use Rattle.octets.proofs.Impossible.{impossible}
use Rattle.frame.specs.Addresses.{broadcast}
use Rattle.frame.specs.declared.codes.Command.{Command}
use Rattle.frame.specs.declared.codes.Command.TheVariants.{Enq, Dat, Rec, Ech, Aut, Eos, Aso, Rso, Ib, Drj, Arj, Trf, Trb, Tra, Pre, Sel}
use Rattle.card.specs.declared.taking.Taken.{Taken}
use Rattle.card.specs.declared.taking.Taken.TheVariants as taking
use Rattle.card.specs.Taking.{taken_if, taken_for}

module _ (own ads : List ℕ) where
  pub not_taken : (k : Command) → (k ≡ Enq → ⊥) → (k ≡ Rec → ⊥) → (k ≡ Aut → ⊥) → (k ≡ Trf → ⊥) → (k ≡ Trb → ⊥) → (k ≡ Ib → ⊥) → None ≡ taken_for own k ads
  unfolding taken_for
  not_taken Enq enq rec aut trf trb ib = absurd (enq refl)
  not_taken Rec enq rec aut trf trb ib = absurd (rec refl)
  not_taken Aut enq rec aut trf trb ib = absurd (aut refl)
  not_taken Trf enq rec aut trf trb ib = absurd (trf refl)
  not_taken Trb enq rec aut trf trb ib = absurd (trb refl)
  not_taken Ib enq rec aut trf trb ib = absurd (ib refl)
  not_taken Dat enq rec aut trf trb ib = refl
  not_taken Ech enq rec aut trf trb ib = refl
  not_taken Eos enq rec aut trf trb ib = refl
  not_taken Aso enq rec aut trf trb ib = refl
  not_taken Rso enq rec aut trf trb ib = refl
  not_taken Drj enq rec aut trf trb ib = refl
  not_taken Arj enq rec aut trf trb ib = refl
  not_taken Tra enq rec aut trf trb ib = refl
  not_taken Pre enq rec aut trf trb ib = refl
  not_taken Sel enq rec aut trf trb ib = refl

another : {X : Type 0} (b : Bool) (t : Taken) → (t ≡ taking.Rec → ⊥) → taken_if b t ≡ Some taking.Rec → X
another true t n h = absurd (n (cc))
another false t n h = impossible (cc)

-- what is taken for a REC is one
module _ (own ads : List ℕ) where
  pub taken_rec : (k : Command) → taken_for own k ads ≡ Some taking.Rec → k ≡ Rec
  unfolding taken_for
  taken_rec Rec h = refl
  taken_rec Enq h = another (same ads own) taking.Enq (λ e. impossible (cc)) h
  taken_rec Aut h = another (same ads own) taking.Aut (λ e. impossible (cc)) h
  taken_rec Trf h = another (same ads own) taking.Trf (λ e. impossible (cc)) h
  taken_rec Trb h = another (broadcast ads) taking.Trb (λ e. impossible (cc)) h
  taken_rec Ib h = another (broadcast ads) taking.Ib (λ e. impossible (cc)) h
  taken_rec Dat h = impossible (cc)
  taken_rec Ech h = impossible (cc)
  taken_rec Eos h = impossible (cc)
  taken_rec Aso h = impossible (cc)
  taken_rec Rso h = impossible (cc)
  taken_rec Drj h = impossible (cc)
  taken_rec Arj h = impossible (cc)
  taken_rec Tra h = impossible (cc)
  taken_rec Pre h = impossible (cc)
  taken_rec Sel h = impossible (cc)
