-- `find`: the position among the records in use is the index that the definition counts.
use borrow.Author.Rules.{rules}
use borrow.Author.Tests.{tests}
use lib.Dec.{eqb}
use Rattle.std.proofs.lemmas.Iterator.{YieldsList-from_slice}
use Rattle.std.proofs.lemmas.Iterator.Search.{position_from_yields_List}
use Rattle.records.specs.declared.Record.{Record}
use Rattle.records.specs.Finding.{used}
use Rattle.records.proofs.Places.{found_position}
use Rattle.records.proofs.Records.find.Goals as goal

pub returns : goal.returns
returns c = let first = position_from_yields_List (λ (r : Record). eqb r.attributes.tab c.args.tab) _ _ c.position.result c.position.ensures.ran (YieldsList-from_slice (used c.args.self) cc) (λ x b q k. search (rules, tests)) in
    found_position c.args.self c.args.tab _ _ first c.ok_or.ensures.value
