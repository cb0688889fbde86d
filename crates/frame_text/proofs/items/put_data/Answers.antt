-- `put_data` meets its contract: no octets, or some.
use mathlib.Core.Path.{◌≡◌, sym, ◌∙◌}
use mathlib.Core.Bool.{true≢false}
use lib.ListN.{length}
use borrow.Author.Tests.{eq-eqb, eqb-true}
use Rattle.std.proofs.lemmas.List.{nil_from_length}
use Rattle.frame_text.specs.Words.{data_words}
use Rattle.frame_text.proofs.Lengths.{some_octets}
use Rattle.frame_text.proofs.items.put_data.Goals as goal

pub returns-then-is_empty : goal.returns-then-is_empty
unfolding data_words
returns-then-is_empty c = rw (nil_from_length c.args.«data».now (eqb-true _ _ (sym c.if-is_empty.ensures))) c.put_words.ensures

pub returns : goal.returns
returns c =
    let some : length c.args.«data».now ≡ 0 → ⊥ = λ e. true≢false (sym (eq-eqb _ _ e) ∙ sym c.if-is_empty.ensures) in
    rw (some_octets c.args.«data».now some) c.put_hex.ensures
