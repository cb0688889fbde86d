-- `put_head` meets its contract: the name, ADS and ADP, each where the last one ends.
use mathlib.Core.List.{[], ◌∷◌}
use lib.ListN.{length-append}
use Rattle.text.proofs.Writing.{joined}
use Rattle.text.proofs.Hexadecimal.{length_hex}
use Rattle.frame.proofs.Shape.{shaped}
use Rattle.frame_text.specs.Words.{head_words}
use Rattle.frame_text.proofs.Lengths.{name_most}
use native.Mathlib.Omega.{arith}
use Rattle.frame_text.proofs.put_head.Goals as goal

pub returns : goal.returns
unfolding head_words
returns c = let f = c.args.fields in
    let shape = shaped f _ c.well_formed.1.1.1.0 in
    joined _ _ _ _ _ _ _ _ (rw length-append (omega (arith, name_most c.args.command, length_hex f.ads, shape.ads_long, length_hex (f.adp ∷ []), c.requires)))
    (joined _ _ _ _ _ _ _ _ (omega (arith, name_most c.args.command, length_hex f.ads, shape.ads_long, c.requires)) (rw c.name_of.ensures at c.put_words-ads_at.ensures) c.put_hex-adp_at.ensures)
    c.put_hex.ensures
