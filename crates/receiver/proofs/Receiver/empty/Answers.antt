-- `Receiver::empty` holds nothing and keeps the octets.
use mathlib.Core.Path.{refl}
use Rattle.receiver.specs.Receiver.{holding}
use Rattle.receiver.proofs.Receiver.empty.Goals as goal

pub returns : goal.returns
unfolding holding
returns c = refl
