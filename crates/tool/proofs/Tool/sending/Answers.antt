-- `Tool::sending` sends the request's frame, which fits.
use Rattle.tool.proofs.Admission.{limit_within}
use Rattle.tool.proofs.Tool.sending.Goals as goal

pub send-requires : goal.send-requires
send-requires c = rw c.sent_command-command.ensures (limit_within c.args.arguments.now.request _ c.requires)
