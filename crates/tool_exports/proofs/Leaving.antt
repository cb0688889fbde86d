-- What every refusal leaves of what is lent: of the memory each octet that 01 names, and all of the frame buffer and the cells.
use Prim.Native.Nat.{ℕ, ◌<◌}
use mathlib.Core.Path.{◌≡◌, refl, sym, ap, ◌∙◌}
use mathlib.Core.Bool.{true, false}
use mathlib.Core.List.{List, []}
use native.Mathlib.Omega.{arith}
use lib.ListN.{length, get_or}
use Rattle.octets.specs.Splice.{fronted}
use Rattle.octets.proofs.Impossible.{impossible}
use Rattle.octets.proofs.Parts.{get_or_part}
use Rattle.numbers.specs.Answer.{given, refused}
use Rattle.numbers.specs.Table.{none}
use Rattle.receiver_memory.specs.Receiver as receiver_memory
use Rattle.tool.specs.declared.Tool.{Tool}
use Rattle.tool.specs.Parts.{Response}
use Rattle.tool.specs.Soundness.{sound}
use Rattle.tool.specs.Requests.{Asking}
use Rattle.tool.specs.Events.{Call, ask, octet_call, after}
use Rattle.tool.specs.Leaving.{Effect, keeps_all, receiver_only, all_over, effect_of, left_as, unmade}
use Rattle.tool.proofs.Effects.{receiver_only_lem, over_made}
use Rattle.tool.proofs.Sound.{test_sound}
use Rattle.tool.proofs.Refusals.{refusal_leaves, Plain, numbered, unnumbered, plain}
use Rattle.tool_memory.specs.Layout.{length_at, receiver_at, receiver_count_at, size}
use Rattle.tool_memory.specs.Decoding.{decoded}
use Rattle.tool_memory.specs.Encoding.{encoded}
use Rattle.tool_memory.proofs.Memory.{decoded_shaped}
use Rattle.tool_memory.proofs.Refusing.{receiver_alters, ending_alters}
use Rattle.tool_memory.proofs.Storable.{Storable, after_storable}
use Rattle.tool_exports.specs.Outcomes.{stored, RequestLoan, OctetLoan, request_shown, octet_shown, request_outcome, octet_outcome}
use Rattle.tool_exports.specs.Lists.{left}
use Rattle.tool_exports.specs.Leaving.{StaysAt}
use Rattle.tool_exports.proofs.Given.{shown_not, over_not}
use Rattle.tool_exports.proofs.Unchanged.{refused-sound, sound_used, tool_left, memory_stored, left_unchanged}

-- a memory that is octets
module _ (m : List ℕ) (sized : length m ≡ size) (few : get_or m length_at 0 < 256) (narrow : get_or m receiver_count_at 0 < 256) (x : Call) (n : ℕ) (e : (after (decoded m) x).answer ≡ refused n) where
  abbrev next : Tool
  next = (after (decoded m) x).tool

  count_narrow : (decoded m).receiver.count.0 < 256
  unfolding decoded receiver_memory.decoded
  count_narrow = rw (get_or_part m receiver_at size receiver_memory.count_at (omega arith) (omega arith)) narrow

  held : sound (decoded m) ≡ true → Storable (decoded m)
  held s =
      record {
        whole = record { sound = test_sound (decoded m) s; long = (decoded_shaped m sized).octets };
        shaped = decoded_shaped m sized;
        narrow = count_narrow;
      }

  long : sound (decoded m) ≡ true → length next.receiver.octets ≡ receiver_memory.most_held
  long s = (after_storable (decoded m) x (held s)).shaped.octets

  -- 12 and 17 aside, a refusal stores the tool that it gives back
  tool_stored : unmade n ≡ false → left m x ≡ encoded (left_as (effect_of n) (decoded m) next.receiver) m
  unfolding stored
  tool_stored u = memory_stored m sized few narrow x n e ∙ rw u (ap (λ (t : Tool). encoded t m) (tool_left m sized few narrow x n e))

  octet_left : (f : Effect) → effect_of n ≡ f → (j : ℕ) → StaysAt f j → get_or (left m x) j 0 ≡ get_or m j 0
  unfolding left_as
  octet_left keeps_all f j k = ap (λ (l : List ℕ). get_or l j 0) (left_unchanged m sized few narrow x n e f)
  octet_left receiver_only f j k =
      let u = (receiver_only_lem n f).made in
      let s = refused-sound m x n e u in
      rw (tool_stored u, f) (receiver_alters m sized next.receiver (long s) (sound_used m s) few narrow j k)
  octet_left all_over f j k =
      let u = over_made n f in
      rw (tool_stored u, f) (ending_alters m sized next.receiver (long (refused-sound m x n e u)) j k.0 k.1)

  -- "may still change the receiver and the mark of the wait or request, as the rules above say, and nothing else": of every refusal of every call
  pub refusal_left : (j : ℕ) → StaysAt (effect_of n) j → get_or (left m x) j 0 ≡ get_or m j 0
  refusal_left j k = octet_left (effect_of n) refl j k

-- a refusal has a number, sends nothing, hands nothing out and has no wake-up
module _ (t : Tool) (x : Call) (n : ℕ) (e : (after t x).answer ≡ refused n) where
  pub some : n ≡ none → ⊥
  some z = go (plain t x)
    where
      go : Plain (after t x).answer → ⊥
      go (numbered m p k) =
          let q : refused m ≡ refused n = sym p ∙ e in
          let same : m ≡ none = cc in
          let f : true ≡ false = rw same at k in
          impossible (cc)
      go (unnumbered p g) =
          let q : given p ≡ refused n = sym g ∙ e in
          impossible (cc)

  pub no_frame : (after t x).frame ≡ []
  no_frame = ap (λ (r : Response). r.frame) (refusal_leaves t x n e)

  pub no_contents : (after t x).contents ≡ []
  no_contents = ap (λ (r : Response). r.contents) (refusal_leaves t x n e)

-- a refused request leaves the frame buffer and every cell
pub refused_request_leaves : (q : Asking) (m : List ℕ) (lent : RequestLoan) (n : ℕ) → (after (decoded m) (ask q (length lent.frame))).answer ≡ refused n
    → request_outcome q m lent ≡ record { number = n; memory = left m (ask q (length lent.frame)); loan = lent }
unfolding request_outcome request_shown left fronted
refused_request_leaves q m lent n e =
    let z = some (decoded m) (ask q (length lent.frame)) n e in
    rw (
      e,
      no_frame (decoded m) (ask q (length lent.frame)) n e,
      ← shown_not n 0 lent.length z,
      ← shown_not n _ lent.wake z,
      ← shown_not n _ lent.ended z,
    )

-- a refused octet leaves the frame buffer, the octets lent for DATA and every cell
pub refused_octet_leaves : (o : ℕ) (m : List ℕ) (lent : OctetLoan) (n : ℕ) → (after (decoded m) (octet_call o (length lent.frame))).answer ≡ refused n
    → octet_outcome o m lent ≡ record { number = n; memory = left m (octet_call o (length lent.frame)); loan = lent }
unfolding octet_outcome octet_shown left fronted
refused_octet_leaves o m lent n e =
    let z = some (decoded m) (octet_call o (length lent.frame)) n e in
    rw (
      e,
      no_frame (decoded m) (octet_call o (length lent.frame)) n e,
      no_contents (decoded m) (octet_call o (length lent.frame)) n e,
      ← shown_not n 0 lent.length z,
      ← shown_not n 0 lent.ended z,
      ← over_not n [] lent.content z,
      ← shown_not n 0 lent.count z,
    )
