-- Building and reading undo each other, at what the builder leaves in a lent buffer.
use Prim.Native.Nat.{ℕ, ◌-◌, ◌≤◌, ◌<◌}
use mathlib.Core.Path.{◌≡◌, refl}
use mathlib.Core.List.{List}
use mathlib.Core.Bool.{true, false}
use native.Mathlib.Omega.{arith}
use lib.ListN.{length, get_or, take}
use borrow.Author.Tests.{le-leb, lt-leb}
use Rattle.octets.proofs.Splice.{take-fronted}
use Rattle.octets.proofs.Bounds.{between_both}
use Rattle.octets.proofs.Parts.{length_part}
use Rattle.numbers.specs.Table.{too_long, wrong_length}
use Rattle.numbers.specs.Counts.{in_octets}
use Rattle.numbers.specs.Answer.{given}
use Rattle.frame.specs.declared.codes.Command.{Command}
use Rattle.frame.specs.declared.content.Fields.{Fields}
use Rattle.frame.specs.Sizes.{longest_frame, crc_width}
use Rattle.frame.specs.Layout.{layout_of, places_of, whole_length, within}
use Rattle.frame.specs.Content.{Shaped, fields_of, data_of, carried, in_zero_field}
use Rattle.frame.specs.Checks.{inspected, read_of, fields_in}
use Rattle.frame.specs.Building.{frame_octets, refused_with, laid_over, built}
use Rattle.frame.proofs.Widths.{has_bounds}
use Rattle.frame.proofs.Writing.{length_octets}
use Rattle.frame.proofs.GoodFrame.{GoodFrame, inspected_good}
use Rattle.frame.proofs.ReadBack.{reads_back, reads_data}
use Rattle.frame.proofs.Rebuilt.{rebuilt}

-- the three outcomes
module _ (b : List ℕ) (c : Command) (f : Fields) (d : List ℕ) where
  pub built_short : length b < longest_frame → built b c f d ≡ refused_with wrong_length b
  unfolding built
  built_short h = rw (lt-leb longest_frame (length b) h)

  pub built_beyond : longest_frame ≤ length b → within (layout_of c) (length d) ≡ false → built b c f d ≡ refused_with too_long b
  unfolding built
  built_beyond h w = rw (le-leb longest_frame (length b) h, w)

  pub built_made : longest_frame ≤ length b → within (layout_of c) (length d) ≡ true → built b c f d ≡ laid_over (frame_octets c f d) b
  unfolding built
  built_made h w = rw (le-leb longest_frame (length b) h, w)

-- a built frame, as long as the answer says, reads back as its command, the fields that the command carries, and DATA
pub built_reads_back : (b : List ℕ) (c : Command) (f : Fields) (d : List ℕ) → Shaped f → longest_frame ≤ length b → within (layout_of c) (length d) ≡ true
    → (let n = whole_length (layout_of c) (length d) in
    let frame = take n (built b c f d).buffer in
    ((built b c f d).answer ≡ given (in_octets n)) × (read_of frame ≡ record { verdict = given c; fields = carried c f }) × (data_of c frame ≡ d))
built_reads_back b c f d long h w =
    let whole = length_octets c f d long in
    rw (built_made b c f d h w, ← whole, take-fronted (frame_octets c f d) b)
    (refl, reads_back c f d long w, reads_data c f d long)

-- what a frame with a possible length has as DATA can be built
pub data_within : (c : Command) (s : List ℕ) → GoodFrame c s → within (layout_of c) (length (data_of c s)) ≡ true
unfolding data_of within
data_within c s g =
    let l = layout_of c in
    let b = has_bounds l (length s) g.checked.long in
    let long : length (data_of c s) ≡ length s - crc_width - (places_of l).content.0 = length_part s (places_of l).content.0 (length s - crc_width) (omega arith) (omega arith) in
    between_both l.least.0 l.most.0 (length (data_of c s)) (omega arith) (omega arith)

-- a good frame whose zero fields hold zero, read and built again, gives the same octets
pub read_builds_again : (b : List ℕ) (c : Command) (s : List ℕ) → inspected s ≡ given c → ((i : ℕ) → get_or s i 0 < 256)
    → ((i : ℕ) → in_zero_field (layout_of c) i ≡ true → get_or s i 0 ≡ 0) → longest_frame ≤ length b
    → built b c (read_of s).fields (data_of c s) ≡ laid_over s b
unfolding read_of fields_in
read_builds_again b c s e octets zero h =
    let g = inspected_good s c e in
    rw (e, built_made b c (fields_of c s) (data_of c s) h (data_within c s g), rebuilt c s g zero octets)
