-- `write` stores what `grant` grants, and answers what it found.
use mathlib.Core.Path.{refl, sym, ap, ◌∙◌}
use Rattle.records.specs.Numbers.{answer_of_found}
use Rattle.records.specs.Finding.{attributes_of}
use Rattle.records.specs.Writing.{store_when}
use Rattle.records.proofs.Grants.{granted_means}
use Rattle.records.proofs.Limits.{accepted_fits}
use Rattle.records.proofs.Shape.{found_element}
use Rattle.records.proofs.Records.write.Goals as goal

pub store-requires : goal.store-requires
store-requires c = let a = c.args in
    let given = (granted_means (attributes_of a.self) a.cause a.tab a.«data».now c.in-Ok.i).0 (sym c.grant.ensures ∙ ap answer_of_found c.in-Ok.is) in
    record { index = found_element a.self _ c.well_formed.0 a.tab c.in-Ok.i given.exists; fits = accepted_fits _ _ given.accepted }

pub returns-in-Ok : goal.returns-in-Ok
unfolding store_when
returns-in-Ok c = rw (← c.grant.ensures, c.in-Ok.is) (record { records = c.store.ensures; number = refl })

pub returns-in-Err : goal.returns-in-Err
unfolding store_when
returns-in-Err c = rw (← c.grant.ensures, c.in-Err.is) (record { records = refl; number = refl })
