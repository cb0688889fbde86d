-- The exported request is the tool's request on the tool that the memory holds.
use lib.ListN.{length}
use Rattle.tool.specs.Requests.{initialising, after_asking}
use Rattle.tool.specs.Events.{after}
use Rattle.tool_exports.specs.Outcomes.{request_outcome}
use Rattle.tool_exports.proofs.Given.{request_given}
use Rattle.tool_exports.proofs.requests.propolisk_tool_initialise.Goals as goal

pub returns : goal.returns
unfolding request_outcome after
returns c = let a = c.args in
    request_given (λ t. after_asking t (initialising a.ads.now a.adp) (length a.frame.now)) _ _ _ _ _ _ _ _ _ _ _ _ _
    c.decode.ensures c.initialise-requested.ensures c.settle.ensures
