-- One step of the search for a station's record: each answer at a cursor, against the definition.
use Prim.Native.Nat.{ℕ, zero, suc}
use mathlib.Core.Path.{◌≡◌, refl, sym, ap, ◌∙◌}
use mathlib.Core.Bool.{true, false}
use mathlib.Core.List.{List}
use native.Mathlib.Omega.{arith}
use borrow.Author.Tests.{eq-eqb}
use Rattle.numbers.specs.Answer.{given, refused}
use Rattle.numbers.specs.Table.{faulty_file}
use Rattle.swap.specs.declared.item.Entry.{Entry}
use Rattle.swap.specs.declared.cursor.Cursor.{Cursor}
use Rattle.swap.specs.declared.station.Asked.{Asked}
use Rattle.swap.specs.Cursor.{record_here, file_end, next_at}
use Rattle.swap.specs.Station.{chosen, first_of, wanted_entry, next_asked}
use Rattle.swap.proofs.Walking.{next_left}

module _ (asked : Asked) (ads s : List ℕ) (c : Cursor) where
  pub first_end : next_at s c ≡ given file_end → given file_end ≡ next_asked asked ads s c
  unfolding next_asked first_of chosen
  first_end h = go c.left.0
    where
      go : (k : ℕ) → given file_end ≡ first_of k (wanted_entry asked ads s) s c
      go zero = refl
      go (suc k) = rw h

  pub first_none : next_at s c ≡ refused faulty_file → refused faulty_file ≡ next_asked asked ads s c
  unfolding next_asked first_of chosen next_at
  first_none h = go c.left.0 refl
    where
      go : (k : ℕ) → c.left.0 ≡ k → refused faulty_file ≡ first_of k (wanted_entry asked ads s) s c
      go zero p =
          let r : given file_end ≡ refused faulty_file = rw (eq-eqb c.left.0 0 p) at h in
          let z : ◌≡◌ {A = ℕ} 0 1 = cc in
          let y : ⊥ = omega arith in
          absurd y
      go (suc k) p = rw h

  module _ (e : Entry) (after : Cursor) (h : next_at s c ≡ given (record_here e after)) where
    -- one more record is left than after it
    counted : first_of c.left.0 (wanted_entry asked ads s) s c ≡ first_of (suc after.left.0) (wanted_entry asked ads s) s c
    counted = ap (λ (k : ℕ). first_of k (wanted_entry asked ads s) s c) (next_left s c e after h)

    turn : first_of (suc after.left.0) (wanted_entry asked ads s) s c ≡ chosen (wanted_entry asked ads s) (first_of after.left.0 (wanted_entry asked ads s) s) (given (record_here e after))
    unfolding first_of
    turn = rw h

    pub first_found : wanted_entry asked ads s e ≡ true → given (record_here e after) ≡ next_asked asked ads s c
    unfolding next_asked chosen
    first_found t = sym (counted ∙ turn ∙ rw t)

    pub first_other : wanted_entry asked ads s e ≡ false → next_asked asked ads s c ≡ next_asked asked ads s after
    unfolding next_asked chosen
    first_other t = counted ∙ turn ∙ rw t
