-- `rounds::rounds` meets its contract. The loop's invariant: C0 and D0 are held, each twice, and L and R are the halves of what n rounds give,
-- with round key i in round i in enciphering and 17 - i in deciphering.
-- Assumes nothing.
use Rattle.des.specs.Des.{bits_of, round_key, rounds}
use Rattle.des.specs.Words.{HalvesHeld, order}
use Rattle.des.proofs.Feistel.{HeldApart}
use Rattle.des.proofs.rounds.rounds.Given as goal

abbrev pub invariant-loop-n : goal.invariant-loop-n
invariant-loop-n l = HalvesHeld l.fn.key l.c l.d × HeldApart (rounds (λ i. round_key l.fn.key (order l.deciphering i)) l.n (bits_of 64 l.input)) l.l l.r
