-- The memory of a fresh tool holds a fresh tool.
use mathlib.Core.Path.{◌≡◌, refl}
use Rattle.octets.specs.Part.{part_of}
use Rattle.octets.specs.Splice.{spliced}
use Rattle.receiver_memory.specs.Fields.{field_at}
use Rattle.receiver_memory.specs.Receiver as receiver_memory
use Rattle.tool.specs.Parts.{fresh}
use Rattle.tool_memory.specs.Marks.{phase_of}
use Rattle.tool_memory.specs.Decoding.{fresh_memory, marks_in_use, waking_in, decoded}

pub fresh-decoded : decoded fresh_memory ≡ fresh
unfolding fresh_memory decoded marks_in_use phase_of waking_in receiver_memory.decoded field_at part_of spliced
fresh-decoded = refl
