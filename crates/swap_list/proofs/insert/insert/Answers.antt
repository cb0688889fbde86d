-- `insert`: three copies.
use Rattle.swap_list.proofs.Inserting.{copied}
use Rattle.swap_list.proofs.insert.insert.Goals as goal

pub returns : goal.returns
returns c = let a = c.args in
    copied a.src.now a.at _ a.dst.now a.piece.now _ _ _ c.min-cut.ensures c.requires c.put.ensures c.put-2.ensures c.put-3.ensures
