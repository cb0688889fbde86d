-- The card's octet call is made with a buffer as long as asked; of its answer only the card is kept.
use Prim.Native.Nat.{ℕ, ◌≤◌}
use mathlib.Core.Path.{ap, ◌∙◌}
use native.Mathlib.Omega.{arith}
use lib.ListN.{replicate}
use lib.Seq.{length-take-le}
use Rattle.card.specs.Events.{after_octet, after}
use Rattle.history.specs.Encoding.{longest_lent}
use Rattle.history.proofs.after_octet.Goals as goal

pub returns : goal.returns
unfolding after
returns c =
    let short : c.from.result ≤ longest_lent = omega arith in
    let lent = length-take-le c.from.result (replicate longest_lent 0) short ∙ c.from.ensures in
    c.octet.ensures.card ∙ ap (λ (n : ℕ). (after_octet c.args.card c.args.octet (record { na2 = c.args.na2.now; reply = n })).card) lent
