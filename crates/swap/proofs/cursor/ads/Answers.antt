-- `ads`: the six octets from the record's start on, and zeros where they are not there.
use mathlib.Core.Path.{ap, ◌∙◌}
use lib.ListN.{replicate}
use Rattle.octets.specs.Splice.{spliced}
use Rattle.swap.proofs.Parts.{part_rest}
use Rattle.swap.proofs.Cursors.{ads_none, ads_six}
use native.Mathlib.Omega.{arith}
use Rattle.swap.proofs.cursor.ads.Goals as goal

pub returns-then-file-entry : goal.returns-then-file-entry
returns-then-file-entry c = let a = c.args in ads_none a.file.now a.entry (omega arith)

pub returns : goal.returns
returns c = let a = c.args in
    c.padded.ensures
    ∙ ap (spliced (replicate 6 0) 0) c.part.ensures
    ∙ ads_six a.file.now a.entry _ (part_rest a.file.now a.entry.at.0) (omega arith)
