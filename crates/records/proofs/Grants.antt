-- What a granted read or write means: the record exists and is open to it, and accepts the data of a write.
use Prim.Native.Nat.{ℕ}
use mathlib.Core.Bool.{Bool, true, false, cond}
use mathlib.Core.List.{List}
use mathlib.Core.Logic.{◌↔◌}
use mathlib.Core.Path.{◌≡◌, refl, ap, subst}
use lib.ListN.{get_or}
use Rattle.octets.proofs.Impossible.{impossible}
use Rattle.numbers.specs.Table.{none, not_open}
use Rattle.numbers.specs.Answer.{Answer, given, refused, refused_at, number_of, when_given}
use Rattle.numbers.specs.declared.Characters.{Characters}
use Rattle.records.specs.declared.Attributes.{Attributes}
use Rattle.records.specs.declared.Cause.{Cause}
use Rattle.records.specs.Judging.{acceptable}
use Rattle.records.specs.Finding.{blank_attributes, find, find_readable}
use Rattle.records.specs.Writing.{opens, grant, grant_at}
use Rattle.records.proofs.Refusals.{none-given, acceptable_bounded}

pub record Grant (l : List Attributes) (cause : Cause) (t : ℕ) (d : List ℕ) (i : ℕ) : Type 0 where
  pub exists : find l t ≡ given i
  pub opened : opens cause (get_or l i blank_attributes) ≡ true
  pub accepted : number_of (acceptable (get_or l i blank_attributes) d) ≡ none

module _ (l : List Attributes) (cause : Cause) (t : ℕ) (d : List ℕ) (i : ℕ) where
  tested : (j : ℕ) → find l t ≡ given j → (b : Bool) → opens cause (get_or l j blank_attributes) ≡ b → (a : Answer Characters) → acceptable (get_or l j blank_attributes) d ≡ a
      → cond b (when_given a (λ n. given j)) (refused not_open) ≡ given i → Grant l cause t d i
  unfolding when_given
  tested j e true o (given n) a h =
      let same : j ≡ i = cc in
      subst (λ k. Grant l cause t d k) same (record { exists = e; opened = o; accepted = ap (λ (x : Answer Characters). number_of x) a })
  tested j e true o (refused n) a h = impossible (cc)
  tested j e true o (refused_at n offset) a h = impossible (cc)
  tested j e false o answer a h = impossible (cc)

  reached : (f : Answer ℕ) → find l t ≡ f → when_given f (λ j. grant_at (get_or l j blank_attributes) cause d j) ≡ given i → Grant l cause t d i
  unfolding when_given grant_at
  reached (given j) e h = tested j e (opens cause (get_or l j blank_attributes)) refl (acceptable (get_or l j blank_attributes) d) refl h
  reached (refused n) e h = impossible (cc)
  reached (refused_at n offset) e h = impossible (cc)

  grant_of : grant l cause t d ≡ given i → Grant l cause t d i
  unfolding grant
  grant_of h = reached (find l t) refl h

  grant_test : Grant l cause t d i → grant l cause t d ≡ given i
  unfolding grant grant_at when_given
  grant_test g = rw (g.exists, g.opened, (none-given (acceptable (get_or l i blank_attributes) d) (acceptable_bounded (get_or l i blank_attributes) d) g.accepted).1)

  pub granted_means : (grant l cause t d ≡ given i) ↔ Grant l cause t d i
  granted_means = (grant_of, grant_test)

module _ (l : List Attributes) (t i : ℕ) where
  shown : (j : ℕ) → find l t ≡ given j → (b : Bool) → (get_or l j blank_attributes).readable ≡ b → cond b (given j) (refused not_open) ≡ given i
      → (find l t ≡ given i) × ((get_or l i blank_attributes).readable ≡ true)
  shown j e true o h = let same : j ≡ i = cc in subst (λ k. (find l t ≡ given k) × ((get_or l k blank_attributes).readable ≡ true)) same (e, o)
  shown j e false o h = impossible (cc)

  asked : (f : Answer ℕ) → find l t ≡ f → when_given f (λ j. cond (get_or l j blank_attributes).readable (given j) (refused not_open)) ≡ given i
      → (find l t ≡ given i) × ((get_or l i blank_attributes).readable ≡ true)
  unfolding when_given
  asked (given j) e h = shown j e (get_or l j blank_attributes).readable refl h
  asked (refused n) e h = impossible (cc)
  asked (refused_at n offset) e h = impossible (cc)

  pub readable_means : find_readable l t ≡ given i → (find l t ≡ given i) × ((get_or l i blank_attributes).readable ≡ true)
  unfolding find_readable
  readable_means h = asked (find l t) refl h
