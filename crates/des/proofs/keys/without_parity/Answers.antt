-- `keys::without_parity` meets its contract: the eight octets of a key, each halved.
-- Assumes nothing.
use mathlib.Core.Path.{◌≡◌, refl, ap₂}
use mathlib.Core.List.{List, [], ◌∷◌, map}
use Prim.Native.Nat.{ℕ, suc, ◌/◌, ◌<◌}
use native.Mathlib.Omega.{arith}
use lib.ListN.{length, get_or}
use Rattle.std.proofs.Common.{rules}
use Rattle.des.specs.WeakKeys.{without_parity}
use Rattle.des.proofs.keys.without_parity.Goals as goal

halved : (s t : List ℕ) → length t ≡ length s → ((i : ℕ) → i < length s → get_or t i 0 ≡ get_or s i 0 / 2) → t ≡ map (λ o. o / 2) s
halved [] [] e h = refl
halved [] (y ∷ t) e h = absurd (omega arith)
halved (x ∷ s) [] e h = absurd (omega arith)
halved (x ∷ s) (y ∷ t) e h = ap₂ (λ (o : ℕ) (os : List ℕ). o ∷ os) (h 0 (omega arith)) (halved s t (omega arith) (λ i k. h (suc i) (omega arith)))

pub returns : goal.returns
unfolding without_parity
returns c = let each = c.map.ensures.items in
    halved c.args.key c.map.result (omega arith) (λ i k. let called = each.at i 0 0 (omega arith) in search (rules, called))
