-- The first octet gives the row, and the loop judges each further octet by its range: what is left of the row decides.
use Rattle.std.proofs.Common.{arith, sym, ◌∙◌, ℕ, ◌+◌, ◌<◌, ◌≤◌, List, length, get_or, add_assoc}
use Rattle.label.specs.Utf8.{Range}
use Rattle.label.specs.Lead.{row_of}
use Rattle.label.proofs.Sequence.{sequence_from_lead, sequence_cut, none_led, octet_within, octet_under, octet_over, row_ended}
use Rattle.label.proofs.utf8.sequence_at.Goals.{then-octet-least-via-then-octet-least, then-octet-least-via-else-octet-least+then-greatest-octet}
use Rattle.label.proofs.utf8.sequence_at.Goals as goal

-- the row of the octet at the offset
abbrev row_at : List ℕ → ℕ → List Range
row_at text at = row_of (get_or text at 0)

pub returns-in_err-length : goal.returns-in_err-length
returns-in_err-length c = rw c.from_residual.ensures (none_led c.args.text.now c.args.at c.requires c.in_err-length.ensures)

pub returns-then-text-at : goal.returns-then-text-at
returns-then-text-at c = sequence_cut c.args.text.now c.args.at c.requires (omega (arith, c.in_ok-length.ensures.0, c.if-text-at.true))

pub loop-place-init : goal.loop-place-init
loop-place-init c = sequence_from_lead c.args.text.now c.args.at c.requires ∙ rw (← c.in_ok-length.ensures.0)

pub returns-then-octet-least : goal.returns-then-octet-least
returns-then-octet-least c =
    let text : List ℕ = c.args.text.now in
    let at : ℕ = c.args.at in
    let place : ℕ = c.loop-place.place in
    let row : List Range = row_at text at in
    let within : place < length row = omega (arith, c.in_ok-length.ensures.0, c.loop-place-test.true) in
    let further : at + place < length text = omega (arith, c.if-text-at.false, c.loop-place-test.true) in
    c.loop-place.invariant ∙ (elim c.then-octet-least.branch [
      | then-octet-least-via-then-octet-least w ↦ rw (octet_under row text place (at + place) within further (rw (← c.lowest-least.ensures) w.if-octet-least.true))
      | then-octet-least-via-else-octet-least+then-greatest-octet w ↦ rw (octet_over row text place (at + place) within further (rw (← c.lowest-least.ensures) w.if-octet-least.false) (rw (← c.highest-greatest.ensures) w.if-greatest-octet.true))
    ])

pub loop-place-preserved : goal.loop-place-preserved
loop-place-preserved c =
    let text : List ℕ = c.args.text.now in
    let at : ℕ = c.args.at in
    let place : ℕ = c.loop-place.place in
    let row : List Range = row_at text at in
    let within : place < length row = omega (arith, c.in_ok-length.ensures.0, c.loop-place-test.true) in
    let further : at + place < length text = omega (arith, c.if-text-at.false, c.loop-place-test.true) in
    c.loop-place.invariant ∙ rw (octet_within row text place (at + place) within further (rw (← c.lowest-least.ensures) c.if-octet-least.false) (rw (← c.highest-greatest.ensures) c.if-greatest-octet.false), add_assoc)

pub returns : goal.returns
returns c =
    let ended : length (row_at c.args.text.now c.args.at) ≤ c.loop-place.place = omega (arith, c.in_ok-length.ensures.0, c.loop-place-test.false) in
    (sym (c.loop-place.invariant ∙ rw (row_ended _ _ _ ended)), c.in_ok-length.ensures.1)
