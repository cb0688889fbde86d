-- Memory that is sound for 12 holds a sound tool, and encoding the tool that it holds gives the memory back.
use Prim.Native.Nat.{ℕ, ◌≤◌, ◌<◌}
use mathlib.Core.Path.{◌≡◌, refl, ap, ◌∙◌}
use mathlib.Core.Bool.{Bool, true, false, cond, not, ◌&&◌, ◌||◌}
use mathlib.Core.List.{List, [], ◌∷◌}
use native.Mathlib.Omega.{arith}
use lib.Dec.{eqb, leb, lit≤}
use lib.ListN.{length, get_or}
use lib.Seq.{ext_get_or}
use borrow.Author.Tests.{leb-true}
use mathlib.Core.Logic.{inr}
use Rattle.octets.specs.Part.{part_of}
use Rattle.octets.proofs.Impossible.{impossible}
use Rattle.octets.proofs.Parts.{length_part, get_or_part}
use Rattle.receiver.specs.Receiver as receiver
use Rattle.receiver_memory.specs.Receiver as receiver_memory
use Rattle.receiver_memory.specs.Puts.{put}
use Rattle.receiver_memory.proofs.Fields.{length_field}
use Rattle.receiver_memory.proofs.Puts.{Held, spared}
use Rattle.receiver_memory.proofs.Receiver.{image-decoded}
use Rattle.frame.specs.Sizes.{address_width, number_width, most_programmed, most_transferred}
use Rattle.tool.specs.Soundness.{within_rec, sound}
use Rattle.tool_memory.specs.Layout.{mark_at, tab_at, length_at, ads_at, adp_at, key_at, na1_at, sent_at, station_at, successes_at, receiver_at, receiver_mark_at, receiver_count_at, size}
use Rattle.tool_memory.specs.Marks.{programming_mark, last_mark, unused, phase_of, mark_of, tab_of, sent_length_of}
use Rattle.tool_memory.specs.Decoding.{marks_in_use, waking_in, decoded, sound_memory}
use Rattle.tool_memory.specs.Encoding.{encoded}
use Rattle.tool_memory.proofs.PhaseMarks.{Back, octets_back, fitting_of}
use Rattle.tool_memory.proofs.Shape.{Shaped}
use Rattle.tool_memory.proofs.ToolPuts.{tool_puts, as_puts, encoded-length, octet_held, field_held}

-- what it says that the marks are in use
pub record Used (m : List ℕ) : Type 0 where
  pub request : get_or m mark_at 0 ≤ last_mark
  pub skipping : get_or m receiver_mark_at 0 ≤ 1

pub used : (m : List ℕ) → marks_in_use m ≡ true → Used m
unfolding marks_in_use
used m = go (leb (get_or m mark_at 0) last_mark) (leb (get_or m receiver_mark_at 0) 1) refl refl
  where
    go : (a b : Bool) → leb (get_or m mark_at 0) last_mark ≡ a → leb (get_or m receiver_mark_at 0) 1 ≡ b → (a && b) ≡ true → Used m
    go true true p q e = record { request = leb-true _ _ p; skipping = leb-true _ _ q }
    go true false p q e = impossible (cc)
    go false b p q e = impossible (cc)

-- 12 is given of a memory for the reasons that 01 states, and for no other
pub sound-decoded : (m : List ℕ) → sound (decoded m) ≡ sound_memory m
unfolding sound decoded sound_memory
sound-decoded m = go (marks_in_use m) refl
  where
    go : (b : Bool) → marks_in_use m ≡ b
        → (within_rec (cond b (phase_of (get_or m mark_at 0) (get_or m tab_at 0) (get_or m length_at 0)) unused) && receiver.sound (receiver_memory.decoded (part_of m receiver_at size))) ≡ (b && ((not (eqb (get_or m mark_at 0) programming_mark) || leb (get_or m length_at 0) most_programmed) && receiver.sound (receiver_memory.decoded (part_of m receiver_at size))))
    go true e = rw (fitting_of (get_or m mark_at 0) (get_or m tab_at 0) (get_or m length_at 0) (used m e).request)
    go false e = refl

pub decoded_shaped : (m : List ℕ) → length m ≡ size → Shaped (decoded m)
unfolding decoded waking_in receiver_memory.decoded
decoded_shaped m e =
    record {
      ads = length_field address_width m ads_at (omega arith);
      key = length_field number_width m key_at (omega arith);
      na1 = length_field number_width m na1_at (omega arith);
      sent = length_field most_transferred m sent_at (omega arith);
      station = length_field address_width m station_at (omega arith);
      octets = length_field receiver_memory.most_held (part_of m receiver_at size) receiver_memory.octets_at (rw (length_part m receiver_at size (lit≤ tt) (omega arith)) (lit≤ tt));
    }

-- A memory with its marks in use, whose octets are octets: what the tool that it holds would put is there already.
module _ (m : List ℕ) (sized : length m ≡ size) (u : marks_in_use m ≡ true) (few : get_or m length_at 0 < 256) (narrow : get_or m receiver_count_at 0 < 256) where
  back : Back (get_or m mark_at 0) (get_or m tab_at 0) (get_or m length_at 0)
  back = octets_back (get_or m mark_at 0) (get_or m tab_at 0) (get_or m length_at 0) (used m u).request few

  phase_in : (decoded m).phase ≡ phase_of (get_or m mark_at 0) (get_or m tab_at 0) (get_or m length_at 0)
  unfolding decoded
  phase_in = rw u

  pub mark_held : Held m (put mark_at (mark_of (decoded m).phase ∷ []))
  mark_held = octet_held m mark_at _ (ap mark_of phase_in ∙ back.mark_back)

  pub tab_held : Held m (put tab_at (tab_of (decoded m).phase (get_or m tab_at 0) ∷ []))
  tab_held = octet_held m tab_at _ (rw phase_in back.tab_back)

  pub length_held : Held m (put length_at (sent_length_of (decoded m).phase (get_or m length_at 0) ∷ []))
  length_held = octet_held m length_at _ (rw phase_in back.length_back)

  receiver_held : Held m (put receiver_at (receiver_memory.image (decoded m).receiver))
  unfolding decoded
  receiver_held k h =
      let p = part_of m receiver_at size in
      let lp : length p ≡ receiver_memory.size = length_part m receiver_at size (lit≤ tt) (omega arith) ∙ refl in
      let first : get_or p receiver_memory.mark_at 0 ≤ 1 = rw (get_or_part m receiver_at size receiver_memory.mark_at (omega arith) (omega arith)) (used m u).skipping in
      let second : get_or p receiver_memory.count_at 0 < 256 = rw (get_or_part m receiver_at size receiver_memory.count_at (omega arith) (omega arith)) narrow in
      let same = image-decoded p lp first second in
      rw same (get_or_part m receiver_at size k (omega arith) (omega (arith, ap length same)))

  -- Encoding the tool that a memory holds changes no octet of it: TAB and length that the phase does not use, and what is free, included.
  pub encoded-decoded : encoded (decoded m) m ≡ m
  unfolding decoded waking_in
  encoded-decoded =
      ext_get_or 0 (encoded (decoded m) m) m (encoded-length (decoded m) m)
      (λ j l.
      rw (as_puts (decoded m) m)
      (spared (tool_puts (decoded m) m) m j (
        inr mark_held,
        (
          inr tab_held,
          (
            inr length_held,
            (
              inr (field_held address_width m ads_at (omega arith)),
              (
                inr (octet_held m adp_at _ refl),
                (
                  inr (field_held number_width m key_at (omega arith)),
                  (
                    inr (field_held number_width m na1_at (omega arith)),
                    (
                      inr (field_held most_transferred m sent_at (omega arith)),
                      (
                        inr (field_held address_width m station_at (omega arith)),
                        (
                          inr (octet_held m successes_at _ refl),
                          (inr receiver_held, tt),
                        ),
                      ),
                    ),
                  ),
                ),
              ),
            ),
          ),
        ),
      )))
