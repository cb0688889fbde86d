-- `put_contents` fills an array with the image and puts it into the memory.
use mathlib.Core.Path.{◌≡◌}
use mathlib.Core.List.{[], ◌∷◌}
use native.Mathlib.Omega.{arith}
use lib.ListN.{length, replicate}
use Rattle.receiver_memory.specs.Fields.{narrowed}
use Rattle.card_memory.specs.Layout.{storage_size}
use Rattle.card_memory.specs.Encoding.{contents_image}
use Rattle.receiver_memory.proofs.Images.{after_front}
use Rattle.card_memory.proofs.writing.put_contents.Goals as goal

pub returns : goal.returns
unfolding contents_image
returns c = let r = c.args.stored.now in
    let whole : storage_size ≡ length r.storage = omega arith in
    rw (c.put-2.ensures, c.put.ensures, c.narrowed.ensures, after_front (narrowed r.length.0 ∷ []) (replicate storage_size 0) r.storage whole)
