-- `fields_of` meets its contract: each field is read at its place in the layout.
use Rattle.frame.specs.Content.{fields_of}
use Rattle.frame.proofs.content.fields_of.Goals as goal

pub returns : goal.returns
unfolding fields_of
returns c = rw (
  c.value_at-4.ensures,
  c.octet_at.ensures,
  c.value_at-3.ensures,
  c.value_at-2.ensures,
  c.octet.ensures,
  c.value_at.ensures,
  c.places_of-places.ensures,
  c.layout_of-layout.ensures,
)
