-- What an octet sends after exported calls on the memory of a fresh tool, in terms of the host's log.
use Rattle.std.specs.Prelude.{ℕ, ◌≡◌, List, length}
use Rattle.octets.specs.Splice.{fronted}
use Rattle.numbers.specs.Table.{none}
use Rattle.tool.specs.Log.{Log}
use Rattle.tool.specs.Claims.{Authenticates}
use Rattle.tool_exports.specs.Outcomes.{OctetLoan, OctetOutcome}

-- nothing: the frame buffer is as it was, and the length told, where one is told, is 0
pub record SendsNothing (lent : OctetLoan) (r : OctetOutcome) : Type 0 where
  pub buffer : r.loan.frame ≡ lent.frame
  pub length : r.number ≡ none → r.loan.length ≡ 0

-- AUT, tied to the latest request that was accepted: it stands in the front of the frame buffer, and its length is told
pub record SendsAut (l : Log) (o : ℕ) (lent : OctetLoan) (r : OctetOutcome) : Type 0 where
  pub frame : List ℕ
  pub authenticates : Authenticates l o frame
  pub number : r.number ≡ none
  pub told : r.loan.length ≡ length frame
  pub buffer : r.loan.frame ≡ fronted frame lent.frame
