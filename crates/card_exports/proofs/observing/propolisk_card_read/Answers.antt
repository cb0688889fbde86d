-- Reading by TAB: 17, 12, 10, or the record's contents.
use Prim.Native.Nat.{ℕ}
use mathlib.Core.Path.{◌≡◌, sym, ap, ◌∙◌}
use borrow.Author.Tests.{le-leb}
use lib.ListN.{length}
use Rattle.numbers.specs.Answer.{Answer}
use Rattle.records.specs.Numbers.{answer_of_found}
use Rattle.records.specs.Finding.{attributes_of, find}
use mathlib.Core.List.{List}
use Rattle.std.specs.Prelude.{Result}
use Rattle.records.specs.declared.Refusal.{Refusal as Unfound}
use Rattle.card.specs.declared.Card.{Card}
use Rattle.card.specs.declared.Refusal.{Refusal}
use Rattle.card.specs.Numbers.{refusal_number}
use Rattle.card_memory.specs.Layout.{size}
use Rattle.card.specs.Soundness.{sound}
use Rattle.card_memory.specs.Decoding.{decoded}
use Rattle.card_exports.specs.Observing.{unshown, shown_for, read_outcome}
use Rattle.card_exports.proofs.Calls.{illegible_unsound, legible-sound, lent_held, lent_refused}
use Rattle.card_exports.proofs.Finding.{found_inside}
use native.Mathlib.Omega.{arith}
use Rattle.card_exports.proofs.observing.propolisk_card_read.Goals as goal

-- a card that was read from the memory answers for what is in it
there : (m : List ℕ) (tab : ℕ) (card : Card) (found : Result ℕ Unfound) → card ≡ decoded m → answer_of_found found ≡ find (attributes_of card.records) tab → (f : Answer ℕ) → answer_of_found found ≡ f → find (attributes_of (decoded m).records) tab ≡ f
there m tab card found read asked f e = ap (λ (k : Card). find (attributes_of k.records) tab) (sym read) ∙ sym asked ∙ e

pub returns-in-Err : goal.returns-in-Err
unfolding read_outcome
returns-in-Err c =
    let m = c.args.memory.now in
    let before = c.args.«data».now in
    let cell = c.args.length.now in
    rw c.number.ensures
    (lent_refused m _ (sym c.lent_card.ensures ∙ c.in-Err.is) (λ (r : Refusal). unshown (refusal_number r) before cell ≡ read_outcome m c.args.tab before cell)
    (λ p. rw p) (λ h q. rw (le-leb size (length m) h, illegible_unsound m q)))

pub returns-then-not-sound : goal.returns-then-not-sound
unfolding read_outcome
returns-then-not-sound c =
    let held = lent_held _ _ (sym c.lent_card.ensures ∙ c.in-Ok.is) in
    rw (le-leb _ _ held.whole, legible-sound _ held.legible, ap sound (sym held.card) ∙ sym c.sound.ensures ∙ c.if-not-sound.true)

pub offset_bounds-card-i : goal.offset_bounds-card-i
offset_bounds-card-i c =
    let held = lent_held _ _ (sym c.lent_card.ensures ∙ c.in-Ok.is) in
    omega (arith, found_inside _ held.whole _ _ (there _ _ _ _ held.card c.find.ensures _ (ap answer_of_found c.in-Ok-find.is)))

pub bounds-card-i : goal.bounds-card-i
bounds-card-i c =
    let held = lent_held _ _ (sym c.lent_card.ensures ∙ c.in-Ok.is) in
    found_inside _ held.whole _ _ (there _ _ _ _ held.card c.find.ensures _ (ap answer_of_found c.in-Ok-find.is))

pub returns-in-Err-find : goal.returns-in-Err-find
unfolding read_outcome shown_for
returns-in-Err-find c =
    let held = lent_held _ _ (sym c.lent_card.ensures ∙ c.in-Ok.is) in
    rw (
      le-leb _ _ held.whole,
      (legible-sound _ held.legible ∙ ap sound (sym held.card) ∙ sym c.sound.ensures ∙ c.if-not-sound.false),
      there _ _ _ _ held.card c.find.ensures _ (ap answer_of_found c.in-Err-find.is),
      c.number-in-Err-find.ensures,
    )

pub returns-in-Ok-find : goal.returns-in-Ok-find
unfolding read_outcome shown_for
returns-in-Ok-find c =
    let held = lent_held _ _ (sym c.lent_card.ensures ∙ c.in-Ok.is) in
    rw (
      le-leb _ _ held.whole,
      (legible-sound _ held.legible ∙ ap sound (sym held.card) ∙ sym c.sound.ensures ∙ c.if-not-sound.false),
      there _ _ _ _ held.card c.find.ensures _ (ap answer_of_found c.in-Ok-find.is),
      c.put.ensures,
      c.contents-held.ensures,
      ← held.card,
    )
