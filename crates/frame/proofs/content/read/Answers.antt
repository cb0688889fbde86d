-- `read` meets its contract: the verdict of `inspect`, and fields where it is good.
use Rattle.frame.specs.Checks.{read_of, fields_in}
use Rattle.std.proofs.lemmas.Result.{err_from_is_err_and}
use Rattle.frame.proofs.content.read.Goals as goal

pub returns-in_err-command : goal.returns-in_err-command
unfolding read_of fields_in
returns-in_err-command c =
    let p = err_from_is_err_and c.from_residual.result c.from_residual.ensures.1 in
    rw (← c.inspect.ensures, c.in_err-command.was, p.1, p.2)

pub returns : goal.returns
unfolding read_of fields_in
returns c = rw (← c.inspect.ensures, c.in_ok-command.was, c.fields_of.ensures)
