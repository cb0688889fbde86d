-- `put_head` meets its contract: the address is turned into the middle of nine octets, which go over the buffer's front.
use mathlib.Core.Path.{◌≡◌}
use lib.ListN.{length}
use borrow.Author.Rules.{rules}
use Rattle.frame.proofs.Writing.{head_made}
use Rattle.frame.proofs.builder.put_head.Goals as goal

pub returns : goal.returns
returns c = let a = c.args in
    let six : length a.ads ≡ 6 = search rules in
    rw (c.put.ensures, c.put_reversed.ensures, head_made a.n a.ads a.adp a.command six)
