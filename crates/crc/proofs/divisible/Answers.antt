-- `crc::divisible` meets its contract: octets are divisible exactly if their key is 0.
-- Assumes nothing.
use mathlib.Core.Path.{sym, ap, ◌∙◌}
use Prim.Native.Nat.{ℕ}
use lib.Dec.{eqb}
use Rattle.crc.proofs.Receiver.{divides-check_key}
use Rattle.crc.proofs.divisible.Goals as goal

pub returns : goal.returns
returns c = ap (λ (k : ℕ). eqb k 0) c.check_key.ensures ∙ sym (divides-check_key c.args.s.now)
