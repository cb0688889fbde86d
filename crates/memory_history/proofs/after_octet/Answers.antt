-- The exported octet call is made with a buffer as long as asked; of what it leaves only the memory is kept.
use Prim.Native.Nat.{ℕ, ◌≤◌}
use mathlib.Core.Path.{ap, ◌∙◌}
use native.Mathlib.Omega.{arith}
use lib.ListN.{take, replicate}
use lib.Seq.{length-take-le}
use Rattle.history.specs.Encoding.{longest_lent}
use Rattle.card.specs.Events.{octet_call}
use Rattle.card_exports.specs.Outcome.{Outcome, Replied, call_outcome}
use Rattle.card_exports.proofs.OctetCall.{octet_call_lem}
use Rattle.memory_history.proofs.after_octet.Goals as goal

pub returns : goal.returns
returns c = let a = c.args in
    let short : c.from.result ≤ longest_lent = omega arith in
    let lent = length-take-le c.from.result (replicate longest_lent 0) short ∙ c.from.ensures in
    ap (λ (r : Replied). r.memory) c.propolisk_card_step_octet.ensures
    ∙ ap (λ (o : Outcome). o.memory) (octet_call_lem a.memory.now a.octet a.na2.now (take c.from.result (replicate longest_lent 0)) 0)
    ∙ ap (λ (n : ℕ). (call_outcome a.memory.now (octet_call a.octet (record { na2 = a.na2.now; reply = n }))).memory) lent
