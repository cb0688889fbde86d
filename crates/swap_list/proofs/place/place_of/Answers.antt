-- `place_of`: what was passed and the place among the heads left make up the place.
use Prim.Native.Nat.{ℕ, ◌+◌, ◌-◌, ◌/◌, ◌^◌, ◌<◌}
use mathlib.Core.Path.{◌≡◌, ap, ◌∙◌}
use mathlib.Core.List.{List}
use native.Mathlib.Omega.{arith}
use lib.ListN.{length, get_or, take, drop}
use lib.Dec.{lit<}
use Rattle.swap.specs.Record.{rank_of}
use Rattle.swap.proofs.Parts.{part_rest}
use Rattle.octets.proofs.Below.{Below-drop}
use Rattle.swap_write.specs.Heads.{head_length}
use Rattle.swap_write.proofs.Judged.{length_small}
use Rattle.swap_list.proofs.Placing.{sought_start, sought_next, sought_here, sought_end}
use Rattle.swap_list.proofs.place.place_of.Goals as goal

-- the head at an offset
module _ (heads : List ℕ) (head : ℕ) where
  rank_there : (r : ℕ) → r ≡ rank_of (take 7 (take (length heads - head) (drop head heads))) → r ≡ rank_of (take 7 (drop head heads))
  rank_there r e = e ∙ ap (λ (t : List ℕ). rank_of (take 7 t)) (part_rest heads head)

  length_there : (n : ℕ) → n ≡ head_length (take (length heads - head) (drop head heads)) → n ≡ head_length (drop head heads)
  length_there n e = e ∙ ap head_length (part_rest heads head)

  length_below : ((i : ℕ) → get_or heads i 0 < 256) → head_length (drop head heads) < 2 ^ 16
  length_below octets = length_small (drop head heads) (Below-drop 256 (lit< tt) head heads octets)

pub loop-passed-init : goal.loop-passed-init
loop-passed-init c =
    let z : length c.args.heads.now / 10 - 0 ≡ length c.args.heads.now / 10 = omega arith in
    rw z (sought_start _ _)

pub returns-then-least-rank : goal.returns-then-least-rank
returns-then-least-rank c = let l = c.loop-passed in
    let hs = c.args.heads.now in
    sought_here hs _ l.place.head l.place.from _ l.invariant (omega arith) (omega (arith, rank_there hs l.place.head c.rank.result c.rank.ensures, c.if-least-rank.true))

pub overflow_add-place-in-loop-passed : goal.overflow_add-place-in-loop-passed
overflow_add-place-in-loop-passed c = let l = c.loop-passed in
    let hs = c.args.heads.now in
    omega (arith, l.invariant.small, l.invariant.heads, length_there hs l.place.head c.head_length.result.0 c.head_length.ensures, length_below hs l.place.head (λ i. (c.type_inv.heads i).fits), c.requires)

pub loop-passed-preserved : goal.loop-passed-preserved
loop-passed-preserved c = let l = c.loop-passed in
    let hs = c.args.heads.now in
    let left : length hs / 10 - (l._passed + 1) ≡ length hs / 10 - l._passed - 1 = omega arith in
    rw (left, length_there hs l.place.head c.head_length.result.0 c.head_length.ensures)
    (sought_next hs _ l.place.head l.place.from _ l.invariant (omega arith) (omega (arith, rank_there hs l.place.head c.rank.result c.rank.ensures, c.if-least-rank.false)) (length_below hs l.place.head (λ i. (c.type_inv.heads i).fits)))

pub returns : goal.returns
returns c = let l = c.loop-passed in
    let z : length c.args.heads.now / 10 - l._passed ≡ 0 = omega arith in
    sought_end _ _ l.place.head l.place.from (rw z at l.invariant)
