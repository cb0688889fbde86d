-- `used_kinds_known` tests the kind of every record in use.
use Prim.Native.Nat.{ℕ, ◌+◌, ◌*◌, min}
use native.Mathlib.Omega.{arith}
use mathlib.Core.Path.{◌≡◌, refl, ap, ◌∙◌}
use borrow.Author.Rules.{rules}
use borrow.Author.Tests.{tests}
use Rattle.std.proofs.lemmas.Iterator.{YieldsList-from_range}
use Rattle.std.proofs.lemmas.Iterator.Search.{all_from_yields_List}
use Rattle.card_memory.specs.Layout.{record_size, record_places}
use Rattle.card_memory.specs.Legibility.{kind_known}
use Rattle.card_memory.proofs.KindRuns.{kinds_all}
use Rattle.card_memory.proofs.legibility.used_kinds_known.Goals as goal

pub returns : goal.returns
returns c =
    let m = c.args.memory.now in
    let start = c.args.start in
    let n = c.in_use.result in
    let known = all_from_yields_List (λ (k : ℕ). kind_known m (start + record_size * k)) _ _ c.all.result c.all.ensures.ran (YieldsList-from_range 0 n n refl (omega arith)) (λ x b q k. search (rules, tests)) in
    let first : start + record_size * 0 ≡ start = omega arith in
    let used : n ≡ min c.args.count record_places = c.in_use.ensures ∙ ap (λ (k : ℕ). min k record_places) c.from.ensures in
    rw (← used, ← first) (known ∙ kinds_all n 0 start m)
