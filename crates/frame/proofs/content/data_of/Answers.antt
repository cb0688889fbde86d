-- `data_of` meets its contract: DATA ends two octets before the frame does; a slice of one octet has none.
use Rattle.frame.specs.Content.{data_of}
use Rattle.frame.proofs.content.data_of.Goals as goal

pub returns : goal.returns
unfolding data_of
returns c = rw (c.part.ensures, c.saturating_sub.ensures, c.places_of.ensures, c.layout_of.ensures)
