-- How wide the fields of a layout can be, so that no offset wraps and no frame is longer than 128 octets.
use Prim.Native.Nat.{ℕ, ◌≤◌, ◌<◌}
use mathlib.Core.Path.{◌≡◌}
use mathlib.Core.Logic.{inl, inr}
use mathlib.Core.Bool.{true, false, ◌&&◌}
use native.Mathlib.Omega.{arith}
use lib.Dec.{lit≤, leb}
use borrow.Author.Tests.{le-leb, lt-leb, lt-ltb, le-ltb, eq-eqb, ne_eqb}
use Rattle.std.specs.Prelude.{Some}
use Rattle.std.specs.Ordering.{partial_le, nat_cmp}
use Rattle.std.proofs.lemmas.Bool.{cases_lt, cases_eq}
use Rattle.octets.specs.Between.{between}
use Rattle.octets.proofs.Bounds.{between_both, between_below, between_above, between_bounds}
use Rattle.frame.specs.declared.codes.Command.{Command}
use Rattle.frame.specs.declared.codes.Command.TheVariants.{Enq, Dat, Rec, Ech, Aut, Eos, Aso, Rso, Ib, Drj, Arj, Trf, Trb, Tra, Pre, Sel}
use Rattle.frame.specs.declared.layout.Presence.{Presence}
use Rattle.frame.specs.declared.layout.Presence.TheVariants.{Absent, Zero, Carried}
use Rattle.frame.specs.declared.layout.Layout.{Layout}
use Rattle.frame.specs.Sizes.{longest_frame, address_width, number_width, tab_width, most_before_data}
use Rattle.frame.specs.Layout.{layout_of, width, places_of, whole_length, within, can_have}

pub width_most : (p : Presence) (n : ℕ) → width p n ≤ n
width_most Absent n = omega arith
width_most Zero n = omega arith
width_most Carried n = omega arith

-- the octets before DATA
pub content_most : (l : Layout) → (places_of l).content.0 ≤ most_before_data
content_most l =
    omega (arith, width_most l.za1 number_width, width_most l.za2 number_width, width_most l.tab tab_width, width_most l.announced address_width)

-- one order of numbers, as a range tests it
at_most : (a b : ℕ) → partial_le (λ x y. Some (nat_cmp x y)) a b ≡ leb a b
at_most a b =
    elim (cases_lt a b) [
      | inl h ↦ rw (lt-ltb a b h, le-leb a b (omega (arith, h)))
      | inr h ↦
          elim (cases_eq a b) [
            | inl e ↦ rw (le-ltb a b h, eq-eqb a b e, le-leb a b (omega (arith, e)))
            | inr n ↦ rw (le-ltb a b h, ne_eqb a b n, lt-leb a b (omega (arith, h, n)))
          ]
    ]

-- what a range with both bounds contains
pub range_between : (least most n : ℕ) → (partial_le (λ x y. Some (nat_cmp x y)) least n && partial_le (λ x y. Some (nat_cmp x y)) n most) ≡ between least most n
unfolding between
range_between least most n = rw (at_most least n, at_most n most)

-- DATA's limits are in order, and the longest frame of any command has 128 octets at most
pub limits : (c : Command) → ((layout_of c).least.0 ≤ (layout_of c).most.0) × (whole_length (layout_of c) (layout_of c).most.0 ≤ longest_frame)
unfolding layout_of
limits Enq = (lit≤ tt, lit≤ tt)
limits Dat = (lit≤ tt, lit≤ tt)
limits Rec = (lit≤ tt, lit≤ tt)
limits Ech = (lit≤ tt, lit≤ tt)
limits Aut = (lit≤ tt, lit≤ tt)
limits Eos = (lit≤ tt, lit≤ tt)
limits Aso = (lit≤ tt, lit≤ tt)
limits Rso = (lit≤ tt, lit≤ tt)
limits Ib = (lit≤ tt, lit≤ tt)
limits Drj = (lit≤ tt, lit≤ tt)
limits Arj = (lit≤ tt, lit≤ tt)
limits Trf = (lit≤ tt, lit≤ tt)
limits Trb = (lit≤ tt, lit≤ tt)
limits Tra = (lit≤ tt, lit≤ tt)
limits Pre = (lit≤ tt, lit≤ tt)
limits Sel = (lit≤ tt, lit≤ tt)

-- `can_have` and `within` as orders of numbers
module _ (l : Layout) (n : ℕ) where
  pub can_have_lem : whole_length l l.least.0 ≤ n → n ≤ whole_length l l.most.0 → can_have l n ≡ true
  unfolding can_have
  can_have_lem h k = between_both (whole_length l l.least.0) (whole_length l l.most.0) n h k

  pub too_short : n < whole_length l l.least.0 → can_have l n ≡ false
  unfolding can_have
  too_short h = between_below (whole_length l l.least.0) (whole_length l l.most.0) n h

  pub too_long : whole_length l l.most.0 < n → can_have l n ≡ false
  unfolding can_have
  too_long h = between_above (whole_length l l.least.0) (whole_length l l.most.0) n h

  pub has_bounds : can_have l n ≡ true → (whole_length l l.least.0 ≤ n) × (n ≤ whole_length l l.most.0)
  unfolding can_have
  has_bounds e = between_bounds (whole_length l l.least.0) (whole_length l l.most.0) n e

  pub within_bounds : within l n ≡ true → (l.least.0 ≤ n) × (n ≤ l.most.0)
  unfolding within
  within_bounds e = between_bounds l.least.0 l.most.0 n e
