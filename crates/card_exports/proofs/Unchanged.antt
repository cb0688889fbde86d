-- At 12 and 17 everything stays of what is lent, for every memory and every call; a refused setup or reading leaves all that it could write but, with 10, the cell.
use Prim.Native.Nat.{ℕ, ◌≤◌}
use mathlib.Core.Path.{◌≡◌, refl}
use mathlib.Core.Bool.{Bool, true, false, cond, and-eq-true_iff}
use mathlib.Core.List.{List}
use mathlib.Core.Logic.{inl, inr}
use native.Mathlib.Omega.{arith}
use lib.Dec.{eqb, leb}
use lib.ListN.{length}
use borrow.Author.Tests.{leb-true}
use Rattle.numbers.specs.Table.{none, not_open, broken_rule, wrong_length}
use Rattle.numbers.specs.Answer.{Answer, given, refused, refused_at}
use Rattle.records.specs.Finding.{attributes_of, find}
use Rattle.records.proofs.Refusals.{Bounded, find_bounded}
use Rattle.card.specs.Loan.{lending}
use Rattle.card.specs.Soundness.{sound}
use Rattle.card.specs.Events.{Call, octet_call, after, after_octet}
use Rattle.card.proofs.Keeping.{Whole, course}
use Rattle.card_memory.specs.Layout.{size}
use Rattle.card_memory.specs.Decoding.{decoded}
use Rattle.card_memory.specs.Legibility.{legible}
use Rattle.card_memory.specs.Setup.{set_up}
use Rattle.card_memory.proofs.Shape.{decoded_whole}
use Rattle.card_exports.specs.Outcome as outcome
use Rattle.card_exports.specs.Outcome.{Outcome, sound_memory, lent_right, lengths_fit, done, call_outcome, unreplied, replied, octet_outcome}
use Rattle.card_exports.specs.Observing.{unshown, shown_for, read_outcome}
use Rattle.card_exports.specs.Setup.{setup_number, settled, setup_outcome}
use Rattle.card_exports.specs.Leaving.{Unmade}
use Rattle.card_exports.proofs.Refusals.{lent_made}

-- a call that passes the tests for 17 and 12
pub record Passed (m : List ℕ) (k : Call) : Type 0 where
  pub long : size ≤ length m
  pub lent : lent_right k ≡ true
  pub readable : legible m ≡ true
  pub sound : sound (decoded m) ≡ true
  pub whole : Whole (decoded m)

pub call_passed : (m : List ℕ) (k : Call) → lengths_fit m k ≡ true → sound_memory m ≡ true → Passed m k
unfolding sound_memory
call_passed m k e s =
    let fits = (and-eq-true_iff (leb size (length m)) (lent_right k)).0 e in
    let both = (and-eq-true_iff (legible m) (sound (decoded m))).0 s in
    let long = leb-true size (length m) fits.0 in
    record { long = long; lent = fits.1; readable = both.0; sound = both.1; whole = decoded_whole m long both.1 }

-- it gets neither
pub passed_made : (m : List ℕ) (k : Call) → Passed m k → Unmade (after (decoded m) k).number → ⊥
passed_made m k p (inl e) = (course (decoded m) p.whole k).unbroken e
passed_made m k p (inr e) = omega (arith, e, lent_made (decoded m) p.sound k p.lent)

pub call_unmade : (m : List ℕ) (k : Call) → Unmade (call_outcome m k).number → call_outcome m k ≡ record { number = (call_outcome m k).number; memory = m }
unfolding call_outcome
call_unmade m k = go (lengths_fit m k) (sound_memory m) refl refl
  where
    go : (x y : Bool) → lengths_fit m k ≡ x → sound_memory m ≡ y
        → let r = cond x (cond y (done m (after (decoded m) k)) (outcome.refused broken_rule m)) (outcome.refused wrong_length m) in
        Unmade r.number → r ≡ record { number = r.number; memory = m }
    go true true e s u = absurd (passed_made m k (call_passed m k e s) u)
    go true false e s u = refl
    go false y e s u = refl

-- an octet leaves the reply buffer and the cell too
pub octet_unmade : (m : List ℕ) (o : ℕ) (na2 reply : List ℕ) (cell : ℕ) → Unmade (octet_outcome m o na2 reply cell).number → octet_outcome m o na2 reply cell ≡ record { number = (octet_outcome m o na2 reply cell).number; memory = m; reply = reply; length = cell }
unfolding octet_outcome after
octet_unmade m o na2 reply cell = go (lengths_fit m k) (sound_memory m) refl refl
  where
    k : Call
    k = octet_call o (lending na2 reply)

    go : (x y : Bool) → lengths_fit m k ≡ x → sound_memory m ≡ y
        → let r = cond x (cond y (replied m reply (after_octet (decoded m) o (lending na2 reply))) (unreplied broken_rule m reply cell)) (unreplied wrong_length m reply cell) in
        Unmade r.number → r ≡ record { number = r.number; memory = m; reply = reply; length = cell }
    go true true e s u = absurd (passed_made m k (call_passed m k e s) u)
    go true false e s u = refl
    go false y e s u = refl

-- a refused setup leaves the memory, whatever it held
pub setup_unchanged : (m address key : List ℕ) (count : ℕ) (entries : List ℕ) → ((setup_outcome m address key count entries).number ≡ none → ⊥) → (setup_outcome m address key count entries).memory ≡ m
unfolding setup_outcome
setup_unchanged m address key count entries = go (leb size (length m)) (setup_number address key count entries) (set_up address key count entries m)
  where
    by : (b : Bool) (n : ℕ) (fresh : List ℕ) → ((cond b (record { number = none; memory = fresh }) (outcome.refused n m)).number ≡ none → ⊥) → (cond b (record { number = none; memory = fresh }) (outcome.refused n m)).memory ≡ m
    by true n fresh k = absurd (k refl)
    by false n fresh k = refl

    go : (x : Bool) (n : ℕ) (fresh : List ℕ) → ((cond x (settled n fresh m) (outcome.refused wrong_length m)).number ≡ none → ⊥) → (cond x (settled n fresh m) (outcome.refused wrong_length m)).memory ≡ m
    go true n fresh k = by (eqb n none) n fresh k
    go false n fresh k = refl

-- a refused reading leaves the array, and 17 and 12 the cell too
module _ (m : List ℕ) (t : ℕ) (before : List ℕ) (cell : ℕ) where
  pub read_unchanged : ((read_outcome m t before cell).number ≡ none → ⊥) → (read_outcome m t before cell).shown ≡ before
  unfolding read_outcome shown_for
  read_unchanged = go (leb size (length m)) (sound_memory m) (find (attributes_of (decoded m).records) t)
    where
      go : (x y : Bool) (f : Answer ℕ) → let r = cond x (cond y (shown_for f (decoded m) before) (unshown broken_rule before cell)) (unshown wrong_length before cell) in (r.number ≡ none → ⊥) → r.shown ≡ before
      go true true (refused n) k = refl
      go true true (refused_at n offset) k = refl
      go true true (given i) k = absurd (k refl)
      go true false f k = refl
      go false y f k = refl

  pub read_unmade : Unmade (read_outcome m t before cell).number → read_outcome m t before cell ≡ record { number = (read_outcome m t before cell).number; shown = before; length = cell }
  unfolding read_outcome shown_for
  read_unmade = go (leb size (length m)) (sound_memory m) (find (attributes_of (decoded m).records) t) (find_bounded (attributes_of (decoded m).records) t)
    where
      never : (n : ℕ) → n ≤ not_open → Unmade n → ⊥
      never n h (inl e) = omega arith
      never n h (inr e) = omega arith

      go : (x y : Bool) (f : Answer ℕ) → Bounded f
          → let r = cond x (cond y (shown_for f (decoded m) before) (unshown broken_rule before cell)) (unshown wrong_length before cell) in Unmade r.number → r ≡ record { number = r.number; shown = before; length = cell }
      go true true (refused n) h u = absurd (never n h.1 u)
      go true true (refused_at n offset) h u = absurd h
      go true true (given i) h u = absurd (never none (omega arith) u)
      go true false f h u = refl
      go false y f h u = refl
