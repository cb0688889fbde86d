-- `Card::on_enq` sends the record that is found.
use Prim.Native.Nat.{ℕ, ◌<◌, ◌≤◌}
use mathlib.Core.List.{List}
use lib.ListN.{length}
use mir.Val.{Val}
use denote.Shadow.{shadow}
use Rattle.std.specs.Prelude.{Result, Ok}
use Rattle.card.specs.declared.Card.{Card}
use Rattle.card.specs.contracts.Card as row
use mathlib.Core.Path.{◌≡◌, refl, sym, ap, ◌∙◌}
use native.Mathlib.Omega.{arith}
use Rattle.std.proofs.lemmas.List.{length-take}
use Rattle.octets.specs.Between.{between}
use Rattle.octets.proofs.Bounds.{between_both}
use Rattle.frame.specs.Layout.{layout_of, within}
use Rattle.records.specs.Sizes.{most_records, most_octets}
use Rattle.records.specs.Finding.{attributes_of, find_readable, record_at}
use Rattle.records.specs.Judging.{contents}
use Rattle.records.specs.declared.Refusal.{Refusal}
use Rattle.records.specs.Numbers.{answer_of_found}
use Rattle.records.proofs.Grants.{readable_means}
use Rattle.records.proofs.Shape.{found_element, record_storage}
use Rattle.card.specs.Numbers.{refusal_number}
use Rattle.card.specs.Frames.{enq_for, on_enq}
use Rattle.card.proofs.Giving.{sent_by}
use Rattle.card.proofs.Card.on_enq.Goals as goal

-- the place of the record that is found
module _ (c : Card) (vs : List Val) (own : shadow ((row.the_row).own_val c vs)) (tab i : ℕ) (found : Result ℕ Refusal) (e : answer_of_found found ≡ find_readable (attributes_of c.records) tab) (h : found ≡ Ok i) where
  place : i < most_records
  place = found_element c.records _ own.1.1.1.0 _ _ (readable_means _ _ _ (sym e ∙ ap answer_of_found h)).0

  held : length (contents (record_at c.records i)) ≤ most_octets
  held =
      let stored = record_at c.records i in
      omega (arith, length-take stored.length.0 stored.storage, record_storage c.records _ own.1.1.1.0 i place)

pub offset_bounds-self-i : goal.offset_bounds-self-i
offset_bounds-self-i c = omega (arith, place c.args.self _ c.well_formed.0 _ _ _ c.find_readable.ensures c.in-Ok.is)

pub bounds-self-i : goal.bounds-self-i
bounds-self-i c = place c.args.self _ c.well_formed.0 _ _ _ c.find_readable.ensures c.in-Ok.is

pub send-requires : goal.send-requires
unfolding layout_of within
send-requires c =
    rw c.contents.ensures (between_both 0 most_octets _ (omega arith) (held c.args.self _ c.well_formed.0 _ _ _ c.find_readable.ensures c.in-Ok.is))

pub send_bare-requires : goal.send_bare-requires
unfolding layout_of within between
send_bare-requires c = refl

pub returns-in-Ok : goal.returns-in-Ok
unfolding on_enq enq_for
returns-in-Ok c = rw (sym c.find_readable.ensures ∙ ap answer_of_found c.in-Ok.is) (sent_by _ c.idle-card.ensures refl (rw c.contents.ensures at c.send.ensures))

pub returns-in-Err : goal.returns-in-Err
unfolding on_enq enq_for
returns-in-Err c = rw (sym c.find_readable.ensures ∙ ap answer_of_found c.in-Err.is) (sent_by _ c.idle-card.ensures (ap refusal_number c.into.ensures) c.send_bare.ensures)
