-- 01, Numbers handed back: a refusal "may still change the receiver and the mark of the wait or request .., and nothing else": of a tool that differs from the one that
-- the memory holds in its receiver, and in that no request runs, encoding alters the request's mark and the receiver's octets alone.
use Prim.Native.Nat.{ℕ, ◌<◌}
use mathlib.Core.Path.{◌≡◌, refl}
use mathlib.Core.Bool.{true}
use mathlib.Core.List.{List, [], ◌∷◌}
use mathlib.Core.Logic.{inl, inr}
use native.Mathlib.Omega.{arith}
use lib.ListN.{length, get_or}
use Rattle.receiver.specs.declared.Receiver.{Receiver}
use Rattle.receiver_memory.specs.Receiver as receiver_memory
use Rattle.receiver_memory.specs.Puts.{put}
use Rattle.receiver_memory.proofs.Puts.{Held, Spares, spared}
use Rattle.receiver_memory.proofs.Receiver.{image-length}
use Rattle.tool.specs.declared.Phase.{Phase}
use Rattle.tool.specs.declared.Tool.{Tool}
use Rattle.frame.specs.Sizes.{address_width, number_width, most_transferred}
use Rattle.tool.specs.Parts.{in_phase, with_receiver, ended}
use Rattle.tool_memory.specs.Layout.{mark_at, tab_at, length_at, ads_at, adp_at, key_at, na1_at, sent_at, station_at, successes_at, receiver_at, receiver_count_at, size, OutsideReceiver}
use Rattle.tool_memory.specs.Marks.{mark_of, tab_of, sent_length_of}
use Rattle.tool_memory.specs.Decoding.{marks_in_use, waking_in, decoded}
use Rattle.tool_memory.specs.Encoding.{encoded}
use Rattle.tool_memory.proofs.ToolPuts.{tool_puts, as_puts, octet_held, field_held}
use Rattle.tool_memory.proofs.Memory.{mark_held, tab_held, length_held}

module _ (m : List ℕ) (sized : length m ≡ size) (r : Receiver) (long : length r.octets ≡ receiver_memory.most_held) where
  -- the tool that the memory holds, in another phase and with another receiver
  abbrev next : Phase → Tool
  next p = in_phase p (with_receiver r (decoded m))

  outside : (j : ℕ) → OutsideReceiver j → Spares m j (put receiver_at (receiver_memory.image r))
  outside j (inl h) = inl (inl h)
  outside j (inr h) = inl (inr (omega (arith, image-length r long)))

  next_alters : (p : Phase) (j : ℕ) → OutsideReceiver j → Spares m j (put mark_at (mark_of p ∷ [])) → Held m (put tab_at (tab_of p (get_or m tab_at 0) ∷ [])) → Held m (put length_at (sent_length_of p (get_or m length_at 0) ∷ []))
      → get_or (encoded (next p) m) j 0 ≡ get_or m j 0
  unfolding decoded waking_in
  next_alters p j o a b c =
      rw (as_puts (next p) m)
      (spared (tool_puts (next p) m) m j (
        a,
        (
          inr b,
          (
            inr c,
            (
              inr (field_held address_width m ads_at (omega arith)),
              (
                inr (octet_held m adp_at _ refl),
                (
                  inr (field_held number_width m key_at (omega arith)),
                  (
                    inr (field_held number_width m na1_at (omega arith)),
                    (
                      inr (field_held most_transferred m sent_at (omega arith)),
                      (
                        inr (field_held address_width m station_at (omega arith)),
                        (
                          inr (octet_held m successes_at _ refl),
                          (outside j o, tt),
                        ),
                      ),
                    ),
                  ),
                ),
              ),
            ),
          ),
        ),
      ))

  -- with no request running any more: every octet but its mark and the receiver's; TAB and length, which are free now, stay
  pub ending_alters : (j : ℕ) → mark_at < j → OutsideReceiver j → get_or (encoded (ended (with_receiver r (decoded m))) m) j 0 ≡ get_or m j 0
  ending_alters j n o = next_alters _ j o (inl (inr (omega arith))) (octet_held m tab_at _ refl) (octet_held m length_at _ refl)

  -- with the request as it was: every octet but the receiver's
  pub receiver_alters : marks_in_use m ≡ true → get_or m length_at 0 < 256 → get_or m receiver_count_at 0 < 256 → (j : ℕ) → OutsideReceiver j → get_or (encoded (with_receiver r (decoded m)) m) j 0 ≡ get_or m j 0
  receiver_alters u few narrow j o =
      next_alters (decoded m).phase j o (inr (mark_held m sized u few narrow)) (tab_held m sized u few narrow) (length_held m sized u few narrow)
