-- Decoding an encoded receiver gives the receiver back, and encoding a decoded one its octets.
use Prim.Native.Nat.{ℕ, ◌≤◌, ◌<◌}
use mathlib.Core.Path.{◌≡◌, refl, sym, ◌∙◌}
use mathlib.Core.List.{List, [], ◌∷◌, append-nil}
use native.Mathlib.Omega.{arith}
use lib.Dec.{lit≤}
use lib.ListN.{length, get_or}
use Rattle.octets.proofs.Parts.{part_middle, part_all, part_two}
use Rattle.receiver.specs.declared.Receiver.{Receiver}
use Rattle.receiver_memory.specs.Fields.{mark_of, narrowed, field_at}
use Rattle.receiver_memory.specs.Receiver.{mark_at, count_at, octets_at, most_held, size, decoded, image}
use Rattle.receiver_memory.proofs.Fields.{field_part, mark_back, mark_again, narrowed_fits}

module _ (r : Receiver) (long : length r.octets ≡ most_held) where
  pub image-length : length (image r) ≡ size
  unfolding image
  image-length = omega (arith, long)

  octets_back : field_at most_held (image r) octets_at ≡ r.octets
  unfolding image
  octets_back =
      field_part most_held (image r) octets_at (omega (arith, long))
      ∙ (rw (append-nil) at (part_middle (mark_of r.skipping ∷ narrowed r.count.0 ∷ []) r.octets [] octets_at size refl (omega (arith, long))))

  pub decoded-image : r.count.0 < 256 → decoded (image r) ≡ r
  unfolding decoded image
  decoded-image narrow = rw (octets_back, mark_back, narrowed_fits r.count.0 narrow)

-- the octets of a receiver come back from the receiver that they hold, free ones included, where the mark is in use
pub image-decoded : (s : List ℕ) → length s ≡ size → get_or s mark_at 0 ≤ 1 → get_or s count_at 0 < 256 → image (decoded s) ≡ s
unfolding image decoded
image-decoded s e h k =
    rw (mark_again (get_or s mark_at 0) h, narrowed_fits (get_or s count_at 0) k, field_part most_held s octets_at (omega arith))
    (sym (part_two s mark_at size (lit≤ tt) (omega arith)) ∙ part_all s size e)
