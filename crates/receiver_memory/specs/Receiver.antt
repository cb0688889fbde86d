-- A receiver in lent memory: the mark (1 while octets are skipped), the count of the octets held, and room for as many as can be held.
use Rattle.std.specs.Prelude.{ℕ, ◌+◌, List, ◌∷◌, eqb, get_or}
use Rattle.receiver.specs.declared.Receiver.{Receiver}
use Rattle.receiver.specs.Receiver as receiver
use Rattle.receiver_memory.specs.Fields.{mark_of, narrowed, field_at}

-- its places, from its start on
abbrev pub mark_at : ℕ
mark_at = 0

abbrev pub count_at : ℕ
count_at = mark_at + 1

abbrev pub octets_at : ℕ
octets_at = count_at + 1

abbrev pub most_held : ℕ
most_held = receiver.most_held

abbrev pub size : ℕ
size = octets_at + most_held

unfoldable pub decoded : List ℕ → Receiver
decoded s =
    record {
      skipping = eqb (get_or s mark_at 0) 1;
      count = record { 0 = get_or s count_at 0 };
      octets = field_at most_held s octets_at;
    }

unfoldable pub image : Receiver → List ℕ
image r = mark_of r.skipping ∷ narrowed r.count.0 ∷ r.octets
