-- What measuring a text tells of its being well-formed.
use Rattle.std.proofs.Common.{ℕ, List, Bool, true, false, ◌≡◌, refl, sym, arith, Result, Ok, Err, is_ok}
use Rattle.label.specs.Utf8.{well_formed}
use Rattle.numbers.specs.Answer.{given, refused_at}
use Rattle.label.specs.Fitting.{answer_of_text, measured, judged}
use Rattle.label.specs.declared.IllFormed.{IllFormed}
use Rattle.numbers.specs.declared.Octets.{Octets}
use Rattle.numbers.specs.declared.Characters.{Characters}

pub measured_well : (text : List ℕ) (count : Characters) → given count ≡ measured text → true ≡ well_formed text
unfolding measured judged
measured_well text count e = go (well_formed text) refl
  where
    go : (b : Bool) → well_formed text ≡ b → true ≡ well_formed text
    go true h = sym h
    go false h = let r = rw h at e in let z : ◌≡◌ {A = ℕ} 0 1 = cc in let y : ⊥ = omega arith in absurd y

pub measured_ill : (text : List ℕ) (n : ℕ) (offset : Octets) → refused_at n offset ≡ measured text → false ≡ well_formed text
unfolding measured judged
measured_ill text n offset e = go (well_formed text) refl
  where
    go : (b : Bool) → well_formed text ≡ b → false ≡ well_formed text
    go false h = sym h
    go true h = let r = rw h at e in let z : ◌≡◌ {A = ℕ} 0 1 = cc in let y : ⊥ = omega arith in absurd y

pub measured_ok : (text : List ℕ) (told : Result Characters IllFormed) → answer_of_text told ≡ measured text → is_ok told ≡ well_formed text
measured_ok text (Ok count) e = measured_well text count e
measured_ok text (Err fault) e = measured_ill text _ _ e
