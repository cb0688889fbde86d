-- Decoding an encoded tool gives the tool back.
use Prim.Native.Nat.{ℕ, ◌+◌, ◌≤◌, ◌<◌}
use mathlib.Core.Path.{◌≡◌, sym, ◌∙◌}
use mathlib.Core.Bool.{true, cond}
use mathlib.Core.List.{List, [], ◌∷◌}
use native.Mathlib.Omega.{arith}
use lib.ListN.{length, get_or}
use borrow.Author.Tests.{le-leb}
use Rattle.octets.specs.Part.{part_of}
use Rattle.receiver_memory.specs.Fields.{field_at}
use Rattle.receiver_memory.specs.Fields as fields
use Rattle.receiver_memory.specs.Receiver as receiver_memory
use Rattle.receiver_memory.specs.Puts.{put}
use Rattle.receiver_memory.proofs.Fields.{field_part, mark_in_use}
use Rattle.receiver_memory.proofs.Puts.{Among, here, later, field_is}
use Rattle.receiver_memory.proofs.Receiver.{image-length, decoded-image}
use Rattle.tool.specs.declared.Tool.{Tool}
use Rattle.frame.specs.Sizes.{address_width, number_width, most_transferred}
use Rattle.tool.specs.Soundness.{sent_length}
use Rattle.tool_memory.specs.Layout.{mark_at, tab_at, length_at, ads_at, adp_at, key_at, na1_at, sent_at, station_at, successes_at, receiver_at, receiver_mark_at, size}
use Rattle.tool_memory.specs.Marks.{unused, phase_of, mark_of, tab_of, sent_length_of}
use Rattle.tool_memory.specs.Decoding.{marks_in_use, waking_in, decoded}
use Rattle.tool_memory.specs.Encoding.{encoded}
use Rattle.tool_memory.proofs.Shape.{Shaped}
use Rattle.tool_memory.proofs.PhaseMarks.{mark_used, phase_back}
use Rattle.tool_memory.proofs.ToolPuts.{tool_puts, encoded-length, stands}

module _ (t : Tool) (m : List ℕ) (sized : length m ≡ size) (s : Shaped t) where
  reach : (e : ℕ) → e ≤ size → e ≤ length (encoded t m)
  reach e h = omega (arith, encoded-length t m)

  octet_back : (at v : ℕ) → Among (put at (v ∷ [])) (tool_puts t m) → get_or (encoded t m) (at + 0) 0 ≡ v
  octet_back at v x = stands t m sized s (put at (v ∷ [])) x 0 (omega arith)

  field_back : (n at : ℕ) (v : List ℕ) → Among (put at v) (tool_puts t m) → at + n ≤ size → length v ≡ n → field_at n (encoded t m) at ≡ v
  field_back n at v x b e = field_is n at (encoded t m) v (reach (at + n) b) e (λ k h. stands t m sized s (put at v) x k (omega arith))

  mark_at_lem : get_or (encoded t m) mark_at 0 ≡ mark_of t.phase
  mark_at_lem = octet_back mark_at _ here

  tab_at_lem : get_or (encoded t m) tab_at 0 ≡ tab_of t.phase (get_or m tab_at 0)
  tab_at_lem = octet_back tab_at _ (later here)

  length_at_lem : get_or (encoded t m) length_at 0 ≡ sent_length_of t.phase (get_or m length_at 0)
  length_at_lem = octet_back length_at _ (later (later here))

  adp_at_lem : get_or (encoded t m) adp_at 0 ≡ t.adp
  adp_at_lem = octet_back adp_at _ (later (later (later (later here))))

  successes_at_lem : get_or (encoded t m) successes_at 0 ≡ t.waking.successes.0
  successes_at_lem = octet_back successes_at _ (later (later (later (later (later (later (later (later (later here)))))))))

  receiver_there : Among (put receiver_at (receiver_memory.image t.receiver)) (tool_puts t m)
  receiver_there = later (later (later (later (later (later (later (later (later (later here)))))))))

  receiver_part : part_of (encoded t m) receiver_at size ≡ receiver_memory.image t.receiver
  receiver_part =
      sym (field_part receiver_memory.size (encoded t m) receiver_at (reach size (omega arith)))
      ∙ field_back receiver_memory.size receiver_at _ receiver_there (omega arith) (image-length t.receiver s.octets)

  receiver_mark_at_lem : get_or (encoded t m) receiver_mark_at 0 ≡ fields.mark_of t.receiver.skipping
  unfolding receiver_memory.image
  receiver_mark_at_lem = stands t m sized s _ receiver_there 0 (omega arith)

  -- the marks of an encoded tool are in use
  pub encoded_marks : marks_in_use (encoded t m) ≡ true
  unfolding marks_in_use
  encoded_marks =
      rw (mark_at_lem, receiver_mark_at_lem, le-leb _ _ (mark_used t.phase), le-leb _ _ (mark_in_use t.receiver.skipping))

  phase_at : sent_length t.phase < 256 → cond (marks_in_use (encoded t m)) (phase_of (get_or (encoded t m) mark_at 0) (get_or (encoded t m) tab_at 0) (get_or (encoded t m) length_at 0)) unused ≡ t.phase
  phase_at few = rw (encoded_marks, mark_at_lem, tab_at_lem, length_at_lem) (phase_back t.phase _ _ few)

  waking_back : waking_in (encoded t m) ≡ t.waking
  unfolding waking_in
  waking_back =
      rw (field_back address_width station_at t.waking.station (later (later (later (later (later (later (later (later here)))))))) (omega arith) s.station, successes_at_lem)

  -- A tool whose lengths fit an octet: every sound tool's do, but for the count of a receiver that skips, which is free.
  pub decoded-encoded : sent_length t.phase < 256 → t.receiver.count.0 < 256 → decoded (encoded t m) ≡ t
  unfolding decoded
  decoded-encoded few narrow =
      rw (
        phase_at few,
        field_back address_width ads_at t.ads (later (later (later here))) (omega arith) s.ads,
        adp_at_lem,
        field_back number_width key_at t.key (later (later (later (later (later here))))) (omega arith) s.key,
        field_back number_width na1_at t.na1 (later (later (later (later (later (later here)))))) (omega arith) s.na1,
        field_back most_transferred sent_at t.sent (later (later (later (later (later (later (later here))))))) (omega arith) s.sent,
        waking_back,
        receiver_part,
        decoded-image t.receiver s.octets narrow,
      )
