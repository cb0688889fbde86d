-- What 6, 7, 12, 16, 17 and 21 leave of tool memory: every octet, whatever the memory holds. A memory that is not sound gets 12 or 17 from every call.
use Prim.Native.Nat.{ℕ, ◌<◌}
use mathlib.Core.Path.{◌≡◌, refl, sym, ap, ◌∙◌}
use mathlib.Core.Bool.{Bool, true, false, cond, and-eq-true_iff}
use mathlib.Core.List.{List}
use lib.Dec.{leb}
use lib.ListN.{length, get_or}
use Rattle.numbers.specs.Answer.{refused}
use Rattle.numbers.specs.Table.{broken_rule, wrong_length}
use Rattle.tool.specs.declared.Tool.{Tool}
use Rattle.frame.specs.Sizes.{longest_frame}
use Rattle.tool.specs.Parts.{Response, refusing}
use Rattle.tool.specs.Soundness.{sound}
use Rattle.tool.specs.Requests.{lent_rightly, admission, unless_refused, after_asking}
use Rattle.tool.specs.Events.{after_octet, after_gap, after_session_end, Call, ask, octet_call, gap, session_end, after}
use Rattle.tool.specs.Leaving.{keeps_all, effect_of, left_as, unmade}
use Rattle.tool.proofs.Refusals.{refusal_leaves}
use Rattle.tool_memory.specs.Layout.{length_at, receiver_count_at, size}
use Rattle.tool_memory.specs.Decoding.{marks_in_use, decoded, sound_memory}
use Rattle.tool_memory.specs.Encoding.{encoded}
use Rattle.tool_memory.proofs.Memory.{sound-decoded, encoded-decoded}
use Rattle.tool_exports.specs.Outcomes.{stored}
use Rattle.tool_exports.specs.Lists.{left}

-- refused with 12, or with 17, which is tested before it: "A call refused with 12 or 17 counts as not made" (00, demand 3)
pub data Unmade (r : Response) : Type 0 where
  broken : r.answer ≡ refused broken_rule → Unmade r
  lengths : r.answer ≡ refused wrong_length → Unmade r

module _ (t : Tool) (e : sound t ≡ false) where
  two : (b : Bool) → Unmade (cond b (refusing t broken_rule) (refusing t wrong_length))
  two true = broken refl
  two false = lengths refl

  -- every call on a tool that is not sound
  pub unsound_unmade : (x : Call) → Unmade (after t x)
  unfolding after after_asking admission unless_refused after_octet after_gap after_session_end
  unsound_unmade (ask q l) = rw e (two (lent_rightly q.ads q.key q.na1 l))
  unsound_unmade (octet_call o l) = rw e (two (leb longest_frame l))
  unsound_unmade gap = rw e (broken refl)
  unsound_unmade session_end = rw e (broken refl)

-- a memory whose tool is sound has all its marks in use
pub sound_used : (m : List ℕ) → sound (decoded m) ≡ true → marks_in_use m ≡ true
unfolding sound_memory
sound_used m e = ((and-eq-true_iff (marks_in_use m) _).0 (sym (sound-decoded m) ∙ e)).0

-- every refusal but 12 and 17 is given to sound memory alone
pub refused-sound : (m : List ℕ) (x : Call) (n : ℕ) → (after (decoded m) x).answer ≡ refused n → unmade n ≡ false → sound (decoded m) ≡ true
refused-sound m x n e u = go (sound (decoded m)) refl
  where
    number_is : (k : ℕ) → (after (decoded m) x).answer ≡ refused k → k ≡ n
    number_is k p = let z : refused k ≡ refused n = sym p ∙ e in cc

    off : Unmade (after (decoded m) x) → true ≡ false
    off (broken p) = ap unmade (number_is broken_rule p) ∙ u
    off (lengths p) = ap unmade (number_is wrong_length p) ∙ u

    go : (v : Bool) → sound (decoded m) ≡ v → sound (decoded m) ≡ true
    go true q = q
    go false q = q ∙ sym (off (unsound_unmade (decoded m) q x))

-- a memory that is octets
module _ (m : List ℕ) (sized : length m ≡ size) (few : get_or m length_at 0 < 256) (narrow : get_or m receiver_count_at 0 < 256) (x : Call) (n : ℕ) (e : (after (decoded m) x).answer ≡ refused n) where
  pub tool_left : (after (decoded m) x).tool ≡ left_as (effect_of n) (decoded m) (after (decoded m) x).tool.receiver
  tool_left = ap (λ (r : Response). r.tool) (refusal_leaves (decoded m) x n e)

  pub memory_stored : left m x ≡ stored n (after (decoded m) x).tool m
  unfolding left
  memory_stored = rw e

  -- "what stays": at 6, 7, 12, 16, 17 and 21 every octet of the memory
  pub left_unchanged : effect_of n ≡ keeps_all → left m x ≡ m
  unfolding stored left_as
  left_unchanged k = memory_stored ∙ go (unmade n) refl
    where
      same : (after (decoded m) x).tool ≡ decoded m
      same = tool_left ∙ rw k

      go : (b : Bool) → unmade n ≡ b → cond b m (encoded (after (decoded m) x).tool m) ≡ m
      go true u = refl
      go false u = ap (λ (t : Tool). encoded t m) same ∙ encoded-decoded m sized (sound_used m (refused-sound m x n e u)) few narrow
