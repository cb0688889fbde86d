-- `all_keep_limits` tests the attributes of every record in use.
use mathlib.Core.Path.{sym, ◌∙◌}
use borrow.Author.Rules.{rules}
use borrow.Author.Tests.{tests}
use Rattle.std.proofs.lemmas.Iterator.{YieldsList-from_slice}
use Rattle.std.proofs.lemmas.Iterator.Search.{all_from_yields_List}
use Rattle.records.specs.declared.Record.{Record}
use Rattle.records.specs.Finding.{used}
use Rattle.records.specs.Setup.{keeps_limits}
use Rattle.records.proofs.Walks.{limits_all}
use Rattle.records.proofs.Records.all_keep_limits.Goals as goal

pub returns : goal.returns
returns c = let all = all_from_yields_List (λ (r : Record). keeps_limits r.attributes) _ _ c.all.result c.all.ensures.ran (YieldsList-from_slice (used c.args.self) cc) (λ x b q k. search (rules, tests)) in
    all ∙ sym (limits_all c.args.self)
