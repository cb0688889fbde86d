-- What well-formed and ill-formed text is answered, and what an answer tells of the text.
use mathlib.Core.Path.{◌≡◌, refl, ap}
use mathlib.Core.Bool.{Bool, true, false, cond}
use mathlib.Core.List.{List}
use Prim.Native.Nat.{ℕ}
use native.Mathlib.Omega.{arith}
use Rattle.numbers.specs.declared.Octets.{Octets}
use Rattle.label.specs.Utf8.{well_formed_octets, well_formed}
use Rattle.numbers.specs.Table.{ill_formed}
use Rattle.numbers.specs.Counts.{in_octets}
use Rattle.numbers.specs.Answer.{given, refused_at}
use Rattle.label.specs.Fitting.{judged}

pub judged-well_formed : {Values : Type 0} (text : List ℕ) (values : Values) → well_formed text ≡ true → judged text values ≡ given values
unfolding judged
judged-well_formed text values w = rw w

pub judged-ill_formed : {Values : Type 0} (text : List ℕ) (values : Values) → well_formed text ≡ false → judged text values ≡ refused_at ill_formed (in_octets (well_formed_octets text))
unfolding judged
judged-ill_formed text values w = rw w

pub judged-given : {Values : Type 0} (text : List ℕ) (values found : Values) → given found ≡ judged text values → (well_formed text ≡ true) × (found ≡ values)
unfolding judged
judged-given {Values} text values found e = told (well_formed text) refl e
  where
    told : (b : Bool) → well_formed text ≡ b → given found ≡ cond b (given values) (refused_at ill_formed (in_octets (well_formed_octets text))) → (well_formed text ≡ true) × (found ≡ values)
    told true w e = (w, cc)
    told false w e = let z : ◌≡◌ {A = ℕ} 0 1 = cc in absurd (omega arith)

pub judged_refused : {Values : Type 0} (text : List ℕ) (values : Values) (number : ℕ) (at : Octets) → refused_at number at ≡ judged text values
    → (well_formed text ≡ false) × (number ≡ ill_formed) × (at.0 ≡ well_formed_octets text)
unfolding judged
judged_refused text values number at e = told (well_formed text) refl e
  where
    told : (b : Bool) → well_formed text ≡ b → refused_at number at ≡ cond b (given values) (refused_at ill_formed (in_octets (well_formed_octets text)))
        → (well_formed text ≡ false) × (number ≡ ill_formed) × (at.0 ≡ well_formed_octets text)
    told true w e = let z : ◌≡◌ {A = ℕ} 0 1 = cc in absurd (omega arith)
    told false w e = let same : at ≡ in_octets (well_formed_octets text) = cc in (w, cc, ap (λ (o : Octets). o.0) same)
