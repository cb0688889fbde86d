-- `Card::written` keeps the records that the write gives, and tells its answer.
use Prim.Native.Nat.{ℕ}
use mathlib.Core.List.{List}
use mathlib.Core.Path.{◌≡◌, ap, ◌∙◌}
use Rattle.records.specs.declared.Cause.{Cause}
use Rattle.records.specs.declared.Records.{Records}
use Rattle.records.specs.declared.Written.{Written}
use Rattle.records.specs.Numbers.{answer_number as write_number}
use Rattle.records.specs.Writing.{write, Writes}
use Rattle.std.proofs.Common.{rules}
use Rattle.card.specs.declared.Card.{Card}
use Rattle.card.specs.declared.Answered.{Answered}
use Rattle.card.specs.Numbers.{Answer, answer_number}
use Rattle.card.specs.Parts.{with_records, answered, Tells}
use Rattle.card.specs.Frames.{written}
use Rattle.card.proofs.Giving.{told}
use Rattle.card.proofs.Card.written.Goals as goal

by_write : (c : Card) (cause : Cause) (t : ℕ) (d : List ℕ) (done : Written) (a : Answer) (r : Answered) → Writes (write c.records cause t d) done → answer_number a ≡ write_number done.answer
    → r ≡ answered (with_records done.records c) a → Tells (written c cause t d) r
unfolding written
by_write c cause t d done a r e g h =
    told _ _ a r (h ∙ ap (λ (s : Records). answered (with_records s c) a) e.records) (g ∙ e.number)

pub returns : goal.returns
returns c = let a = c.args in
    by_write a.self a.cause a.tab a.«data».now c.write-done.result c.map_err.result _ c.write-done.ensures (search rules) c.answered.ensures
