-- `Receiver::is_sound` runs the test for 12: each side of it is one case.
use Prim.Native.Nat.{ℕ}
use mathlib.Core.Path.{◌≡◌, sym, ◌∙◌}
use mathlib.Core.Logic.{inl, inr}
use mathlib.Core.Bool.{Bool, false, true≢false}
use lib.Dec.{ltb}
use borrow.Author.Tests.{eq-eqb, ne_eqb}
use borrow.Author.Rules.{rules}
use Rattle.std.specs.Prelude.{Option, Some, None, MatchOption}
use Rattle.numbers.specs.Answer.{Answer}
use Rattle.numbers.specs.declared.Octets.{Octets}
use Rattle.frame.specs.Checks.{answer_of_stated}
use Rattle.receiver.specs.Receiver.{fewer, sound}
use Rattle.receiver.proofs.Receiver.is_sound.Goals.{then-self, else-self}
use Rattle.receiver.proofs.Receiver.is_sound.Goals as goal

-- fewer octets than a whole length, where one is stated
counted : (n : ℕ) (o : Option Octets) (a : Answer Octets) (b : Bool) → answer_of_stated o ≡ a → MatchOption o (b ≡ false) (λ whole. b ≡ ltb n whole.0) → b ≡ fewer n a
counted n None a b e h = rw (← e) h
counted n (Some whole) a b e h = rw (← e) h

pub returns-then-self-eq0 : goal.returns-then-self-eq0
unfolding sound
returns-then-self-eq0 c =
    elim c.if-self.branch [
      | then-self w ↦ w.t-4-is ∙ rw w.if-self.true
      | else-self w ↦ elim c.if-self-eq0.either [ inl e ↦ absurd (true≢false (sym e ∙ w.if-self.false)) | inr z ↦ w.t-4-is ∙ rw (z.0, eq-eqb _ _ z.1) ]
    ]

pub returns-else-self-eq0 : goal.returns-else-self-eq0
unfolding sound
returns-else-self-eq0 c = rw (c.if-self-eq0.false.0, ne_eqb _ _ c.if-self-eq0.false.1) (counted c.args.self.count.0 c.stated_by.result _ c.is_some_and.result c.stated_by.ensures (search (rules, c.is_some_and.ensures)))
