-- `keys::alike` meets its contract.
-- Assumes nothing.
use Rattle.des.proofs.keys.alike.Goals as goal

pub returns : goal.returns
returns c = rw (c.eq.ensures, c.without_parity-2.ensures, c.without_parity.ensures)
