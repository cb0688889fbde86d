-- `rounds::exchanged` meets its contract: the lower half stands before the upper one.
-- Assumes nothing.
use Prim.Native.Nat.{◌+◌, ◌*◌, ◌/◌, ◌%◌, ◌^◌}
use Rattle.des.specs.Des.{bits_of, exchanged}
use Rattle.des.specs.Words.{Word}
use Rattle.des.proofs.Held.{itself, joined, upper, lower}
use Rattle.des.proofs.rounds.exchanged.Goals.{Start}
use Rattle.des.proofs.rounds.exchanged.Goals as goal

-- the halves of the word, the lower one first
halves : (c : Start) → Word 64 (exchanged (bits_of 64 c.args.lr)) (c.args.lr % 2 ^ 32 * 2 ^ 32 + c.args.lr / 2 ^ 32)
unfolding exchanged
halves c = let lr = itself 64 c.args.lr c.ranges.lr.fits in joined (lower 32 32 lr) (upper 32 32 lr)

pub overflow_add-result : goal.overflow_add-result
overflow_add-result c = record { fits = (halves c).small }

pub returns : goal.returns
returns c = halves c
