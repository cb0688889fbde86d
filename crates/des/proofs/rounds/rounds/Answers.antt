-- `rounds::rounds` meets its contract. The loop's invariant: C0 and D0 are held, each twice, and L and R are the halves of what n rounds give,
-- with round key i in round i in enciphering and 17 - i in deciphering.
-- Assumes nothing.
use mathlib.Core.Path.{◌≡◌}
use mathlib.Core.List.{List}
use Prim.Native.Nat.{ℕ, ◌+◌, ◌*◌, ◌^◌}
use native.Mathlib.Omega.{arith}
use Rattle.des.specs.Des.{bits_of, round_key, rounds}
use Rattle.des.specs.Words.{Word, KeyHeld, order}
use Rattle.des.proofs.Held.{upper, lower}
use Rattle.des.proofs.Feistel.{rounds_more, apart, together, round_apart}
use Rattle.des.proofs.rounds.rounds.Goals.{After-loop-n, After-round_key-k}
use Rattle.des.proofs.rounds.rounds.Goals as goal

-- in round n + 1 the one round key in hand is the round's own
key_in_hand : (c : After-round_key-k)
    → let a = c.args in
    KeyHeld a.key a.deciphering (c.loop-n.n + 1) c.round_key-k.result
key_in_hand c = c.round_key-k.ensures c.args.key c.loop-n.invariant.0

-- LR after sixteen rounds
whole : (c : After-loop-n)
    → let a = c.args in
    Word 64 (rounds (λ i. round_key a.key (order a.deciphering i)) 16 (bits_of 64 a.input)) (c.loop-n.l * 2 ^ 32 + c.loop-n.r)
whole c =
    let l = c.loop-n in
    let e : l.n ≡ 16 = omega arith in
    together _ l.l l.r (rw e at l.invariant.1)

pub twice-c-requires : goal.twice-c-requires
twice-c-requires c = (upper 28 28 c.key_halves-cd.ensures).small

pub twice-d-requires : goal.twice-d-requires
twice-d-requires c = (lower 28 28 c.key_halves-cd.ensures).small

pub loop-n-init : goal.loop-n-init
unfolding rounds
loop-n-init c = let s = c in
    let h = c.key_halves-cd.ensures in (
      record { first = c.twice-c.ensures _ (upper 28 28 h); second = c.twice-d.ensures _ (lower 28 28 h) },
      apart s.args.input s.ranges.input.fits,
    )

pub f-requires : goal.f-requires
f-requires c = c.loop-n.invariant.1.right.small

pub loop-n-preserved : goal.loop-n-preserved
loop-n-preserved c = let a = c.args in
    let l = c.loop-n in
    let K : ℕ → List ℕ = λ i. round_key a.key (order a.deciphering i) in
    let x = rounds K l.n (bits_of 64 a.input) in
    let h = l.invariant.1 in
    let v = rw h.right.same at (c.f.ensures (K (l.n + 1)) (key_in_hand (goal.at.loop-n-preserved c).After-round_key-k)) in (
      l.invariant.0,
      rw (rounds_more K (bits_of 64 a.input) l.n) at (round_apart (K (l.n + 1)) x l.l l.r c.f.result h v),
    )

pub overflow_mul-result : goal.overflow_mul-result
overflow_mul-result c = omega (arith, (whole c).small)

pub overflow_add-result : goal.overflow_add-result
overflow_add-result c = record { fits = (whole c).small }

pub returns : goal.returns
returns c = whole c
