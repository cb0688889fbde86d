-- A line that was made at the front of an array, taken over with its line feed.
use Prim.Native.Nat.{ℕ, ◌+◌, ◌≤◌}
use mathlib.Core.Path.{◌≡◌, ◌∙◌}
use mathlib.Core.List.{List}
use native.Mathlib.Omega.{arith}
use lib.ListN.{length, take}
use Rattle.octets.specs.Splice.{spliced}
use Rattle.octets.specs.Part.{part_of}
use Rattle.octets.proofs.Splice.{spliced_front, take-fronted, upto_spliced, length-spliced}
use Rattle.octets.proofs.Parts.{part_front}
use Rattle.text.proofs.Writing.{Written, after_fits}
use Rattle.text.specs.Quoted.{quoted}
use Rattle.swap_text.specs.Lines.{line_of}

-- the octets of a line up to where its text ends, with a line feed, as a part of what was laid
pub with_feed : (line : List ℕ) (end r : ℕ) (b : List ℕ) → end + 1 ≤ length line → Written line end (quoted "\n") r b → part_of b 0 r ≡ line_of (take end line)
with_feed line end r b room w =
    let e : r ≡ end + 1 = w.0 ∙ after_fits line end (quoted "\n") room in
    rw (w.1, e)
    (part_front (spliced line end (quoted "\n")) (end + 1) (rw (length-spliced line end (quoted "\n") room) room)
    ∙ upto_spliced line end (quoted "\n") room)

-- a text that fits stands at the front of the array in which it was made, up to the offset after it
pub made : (m t : List ℕ) (r : ℕ) (b : List ℕ) → length t ≤ length m → Written m 0 t r b → (r ≡ length t) × (take r b ≡ t) × (length b ≡ length m)
made m t r b room w =
    let fits : 0 + length t ≤ length m = omega arith in
    let e : r ≡ length t = w.0 ∙ after_fits m 0 t fits ∙ omega arith in
    (e, rw (e, w.1, spliced_front m t room) (take-fronted t m), rw w.1 (length-spliced m 0 t fits))

-- what is taken over of the array is that text, with its line feed
pub taken_over : (buffer : List ℕ) (at : ℕ) (part text : List ℕ) (r : ℕ) (after_it : List ℕ) → Written buffer at (line_of part) r after_it → part ≡ text → Written buffer at (line_of text) r after_it
taken_over buffer at part text r after_it p e = rw e at p
