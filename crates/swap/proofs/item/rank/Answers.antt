-- `rank`: what is passed of the octets, as a number, stands before what is left.
use Prim.Native.Nat.{ℕ, ◌<◌}
use lib.ListN.{get_or}
use Rattle.swap.proofs.Ranks.{rank_front, rank_next, rank_fits, rank_done}
use native.Mathlib.Omega.{arith}
use Rattle.swap.proofs.item.rank.Goals as goal

pub loop-octet-init : goal.loop-octet-init
loop-octet-init c = rw c.min.ensures (rank_front c.args.octets.now)

pub overflow_mul-number : goal.overflow_mul-number
overflow_mul-number c = let l = c.loop-octet in
    let octets : (j : ℕ) → get_or c.args.octets.now j 0 < 256 = λ j. (c.type_inv.octets j).fits in
    omega (arith, rank_fits c.args.octets.now _ l.number l.octet-index l.invariant octets c.loop-octet-test.true)

pub overflow_add-number : goal.overflow_add-number
overflow_add-number c = let l = c.loop-octet in
    let octets : (j : ℕ) → get_or c.args.octets.now j 0 < 256 = λ j. (c.type_inv.octets j).fits in
    omega (arith, c.from.ensures, rank_fits c.args.octets.now _ l.number l.octet-index l.invariant octets c.loop-octet-test.true)

pub loop-octet-preserved : goal.loop-octet-preserved
loop-octet-preserved c = let l = c.loop-octet in
    rw c.from.ensures (rank_next c.args.octets.now _ l.number l.octet-index l.invariant c.loop-octet-test.true)

pub returns : goal.returns
returns c = let l = c.loop-octet in
    rank_done c.args.octets.now _ l.number l.octet-index l.invariant c.loop-octet-test.false
