-- `put_name`: ADS, and TAB where it ends.
use mathlib.Core.Path.{◌≡◌}
use mathlib.Core.List.{[], ◌∷◌}
use lib.ListN.{length}
use native.Mathlib.Omega.{arith}
use Rattle.text.proofs.Hexadecimal.{length_hex}
use Rattle.text.proofs.Writing.{joined}
use Rattle.swap_text.specs.Lines.{name_text}
use borrow.Author.Rules.{rules}
use Rattle.swap_text.proofs.put_name.Goals as goal

pub returns : goal.returns
unfolding name_text
returns c = let a = c.args in
    let six : length a.ads ≡ 6 = search rules in
    joined _ _ _ _ _ _ _ _ (omega (arith, length_hex a.ads, length_hex (a.tab ∷ []), c.requires)) c.put_hex-tab_at.ensures c.put_hex.ensures
