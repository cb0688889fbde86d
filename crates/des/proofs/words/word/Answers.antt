-- `words::word` meets its contract: each octet after the others, the first one the highest.
-- Assumes nothing.
use native.Mathlib.Omega.{arith}
use borrow.Author.Rules.{elem_Fits}
use Rattle.std.specs.Int.{w8}
use Rattle.des.proofs.Held.{eight_octets}
use Rattle.des.proofs.words.word.Goals as goal

pub returns : goal.returns
returns c = let block = c.well_formed.0 in
    rw c.from_be_bytes.ensures (eight_octets c.args.octets (omega arith) (λ i. (elem_Fits w8 w8 c.args.octets block.0 i block.1.1 tt).fits))
