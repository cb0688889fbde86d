-- `is_wanted`: the two tests are the definition's.
use Prim.Native.Nat.{ℕ}
use mathlib.Core.Path.{sym, ap, ◌∙◌}
use mathlib.Core.List.{List}
use Rattle.octets.specs.Part.{same}
use Rattle.swap.specs.Station.{wanted_entry}
use Rattle.swap.proofs.station.is_wanted.Goals as goal

pub returns-then-eq : goal.returns-then-eq
unfolding wanted_entry
returns-then-eq c = let i = c in
    let a = i.args in
    rw (sym (i.eq.ensures ∙ ap (λ (x : List ℕ). same x a.ads) i.ads-its.ensures) ∙ i.if-eq.true)
    c.is_asked.ensures

pub returns-else-eq : goal.returns-else-eq
unfolding wanted_entry
returns-else-eq c = let a = c.args in
    c.if-eq.false
    ∙ rw (sym (c.eq.ensures ∙ ap (λ (x : List ℕ). same x a.ads) c.ads-its.ensures) ∙ c.if-eq.false)
