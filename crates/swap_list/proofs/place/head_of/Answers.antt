-- `head_of`: two copies fill the ten octets.
use Prim.Native.Nat.{ℕ, ◌/◌, ◌%◌, ◌<◌}
use mathlib.Core.Path.{◌≡◌, refl, ap₂, ◌∙◌}
use mathlib.Core.List.{List, [], ◌∷◌, ◌++◌}
use native.Mathlib.Omega.{arith}
use lib.ListN.{length, get_or}
use mir.Syntax.{w16}
use Rattle.std.specs.Int.{to_le_bytes}
use Rattle.swap_list.proofs.Inserting.{headed}
use borrow.Author.Rules.{rules}
use Rattle.swap_list.proofs.place.head_of.Goals as goal

-- the two octets of a number below 2^16
two_octets : (n : ℕ) (octets : List ℕ) → octets ≡ to_le_bytes w16 n → n < 65536 → (get_or octets 0 0 ≡ n % 256) × (get_or octets 1 0 ≡ n / 256)
two_octets n octets e h = rw e (omega arith, omega arith)

pub returns : goal.returns
returns c = let a = c.args in
    let l : length a.ads ≡ 6 = search rules in
    let t = two_octets a.count c.to_le_bytes.result c.to_le_bytes.ensures c.requires in
    headed a.ads _ _ _ l refl c.put.ensures c.put-2.ensures
    ∙ ap₂ (λ (low high : ℕ). a.ads ++ a.tab ∷ a.kind ∷ low ∷ high ∷ []) t.0 t.1
