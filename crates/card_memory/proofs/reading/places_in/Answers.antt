-- `places_in` fills an array: after i turns it has the first i records.
use Prim.Native.Nat.{◌<◌}
use mathlib.Core.Path.{◌≡◌, refl, sym, ap, ◌∙◌}
use mathlib.Core.List.{append-nil}
use lib.ListN.{get_or}
use lib.Seq.{take_all}
use native.Mathlib.Omega.{arith}
use Rattle.records.specs.Finding.{blank}
use Rattle.card_memory.specs.Layout.{record_places}
use Rattle.card_memory.specs.Decoding.{record_in, records_in}
use Rattle.card_memory.proofs.RecordRuns.{fill_next, length_records, record_at_lem}
use Rattle.card_memory.proofs.reading.places_in.Goals as goal

pub loop-i-preserved : goal.loop-i-preserved
loop-i-preserved c = let l = c.loop-i in
    let a = c.args in
    let m = a.memory.now in
    let lt : l.i < record_places = omega arith in
    let e : c.record_in.result ≡ get_or (records_in record_places a.start m) l.i blank
    = c.record_in.ensures ∙ ap record_in c.part.ensures ∙ sym (record_at_lem record_places l.i a.start m lt)
    in (l.invariant.0, refl, rw (l.invariant.2, e) (fill_next (records_in record_places a.start m) _ blank l.i (rw length_records lt) lt))

pub returns : goal.returns
returns c = let l = c.loop-i in
    let a = c.args in
    let e : l.i ≡ record_places = omega arith in
    rw (l.invariant.2, e, take_all record_places (records_in record_places a.start a.memory.now) (omega (arith, length_records record_places a.start a.memory.now))) (append-nil _)
