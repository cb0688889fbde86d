-- `encode` fills an array with the image and puts it into the memory.
use mathlib.Core.Path.{sym}
use mathlib.Core.List.{[], ◌∷◌}
use lib.ListN.{replicate}
use Rattle.receiver.proofs.Lengths.{octets_length}
use Rattle.receiver_memory.specs.Fields.{mark_of, narrowed}
use Rattle.receiver_memory.proofs.Images.{after_front}
use Rattle.receiver_memory.specs.Receiver.{most_held, image}
use Rattle.receiver_memory.proofs.encode.Goals as goal

pub returns : goal.returns
unfolding image
returns c =
    let r = c.args.receiver in
    let long = octets_length r _ c.well_formed.1.1.0 in
    rw (c.put-2.ensures, c.put.ensures, c.narrowed.ensures, c.mark_of.ensures, after_front (mark_of r.skipping ∷ narrowed r.count.0 ∷ []) (replicate most_held 0) r.octets (sym long))
