-- The exported octet is the tool's octet on the tool that the memory holds.
use lib.ListN.{length}
use Rattle.tool.specs.Events.{after_octet}
use Rattle.tool.specs.Events.{after}
use Rattle.tool_exports.specs.Outcomes.{octet_outcome}
use Rattle.tool_exports.proofs.Given.{octet_given}
use Rattle.tool_exports.proofs.events.propolisk_tool_octet.Goals as goal

pub returns : goal.returns
unfolding octet_outcome after
returns c = let a = c.args in
    octet_given (λ t. after_octet t a.octet (length a.frame.now)) _ _ _ _ _ _ _ _ _ _ _ _ _ _ _
    c.decode.ensures c.octet-heard.ensures c.settle.ensures
