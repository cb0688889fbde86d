-- How much DATA a frame can have.
use Prim.Native.Nat.{ℕ, ◌≤◌}
use mathlib.Core.Path.{◌≡◌}
use mathlib.Core.Bool.{true}
use mathlib.Core.List.{List}
use lib.ListN.{length}
use Rattle.frame.specs.declared.codes.Command.{Command}
use Rattle.frame.specs.declared.codes.Command.TheVariants.{Rec}
use Rattle.numbers.specs.Answer.{given}
use Rattle.frame.specs.Sizes.{most_programmed}
use Rattle.frame.specs.Checks.{inspected}
use Rattle.frame.specs.Layout.{layout_of, within}
use Rattle.frame.specs.Content.{data_of}
use Rattle.frame.proofs.Widths.{within_bounds}
use Rattle.frame.proofs.GoodFrame.{inspected_good}
use Rattle.frame.proofs.RoundTrip.{data_within}
use Rattle.std.specs.Prelude.{Some}
use Rattle.card.specs.declared.taking.Taken.TheVariants as taking
use Rattle.card.specs.Taking.{taken_for}
use Rattle.card.proofs.TakenFrames.{taken_rec}

-- a good frame has an amount that its command can have
pub good_data : (k : Command) (s : List ℕ) → inspected s ≡ given k → within (layout_of k) (length (data_of k s)) ≡ true
good_data k s e = data_within k s (inspected_good s k e)

-- a REC has at most 100 octets
pub rec_data : (n : ℕ) → within (layout_of Rec) n ≡ true → n ≤ most_programmed
unfolding layout_of
rec_data n h = (within_bounds (layout_of Rec) n h).1

-- what a card takes for a REC has as many octets as a REC can have
pub taken_data : (own ads : List ℕ) (k : Command) (n : ℕ) → within (layout_of k) n ≡ true → taken_for own k ads ≡ Some taking.Rec → within (layout_of Rec) n ≡ true
taken_data own ads k n h e = rw (taken_rec own ads k e) at h
