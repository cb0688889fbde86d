-- `keys::weak` meets its contract: it goes through the four keys in the definition's order.
-- Assumes nothing.
use Rattle.std.proofs.Common.{rules, ◌≡◌}
use Rattle.std.proofs.iter.runs.Made.{chains}
use Rattle.std.specs.List.{list_any}
use Rattle.octets.specs.Part.{same}
use Rattle.des.specs.WeakKeys.{weak_keys, weak, without_parity}
use Rattle.des.proofs.keys.weak.Goals as goal

pub returns : goal.returns
unfolding weak weak_keys
returns c =
    let e : c.any.result ≡ list_any (λ w. same (without_parity c.args.key) (without_parity w)) weak_keys = search (rules, chains) in e
