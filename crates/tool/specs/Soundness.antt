-- The tools that no call refuses with 12 (01, The card, which speaks of tools too).
use Rattle.std.specs.Prelude.{ℕ, ◌≤◌, Bool, ◌&&◌, leb}
use Rattle.receiver.specs.Receiver as receiver
use Rattle.tool.specs.declared.Phase.{Phase}
use Rattle.tool.specs.declared.Phase.TheVariants.{Idle, Reading, Transferring, Programming, Authenticating}
use Rattle.tool.specs.declared.Tool.{Tool}
use Rattle.frame.specs.Sizes.{most_programmed}

-- how many octets of DATA a programming request has sent
abbrev pub sent_length : Phase → ℕ
sent_length (Idle last) = 0
sent_length (Reading tab) = 0
sent_length Transferring = 0
sent_length (Programming tab n) = n.0
sent_length Authenticating = 0

-- no more DATA than a REC can have
abbrev pub within_rec : Phase → Bool
within_rec p = leb (sent_length p) most_programmed

-- "a card, tool or card memory that breaks a setup rule, holds a length over its limit or a state mark not in use is refused with 12 ..; so is a
-- partly received frame whose N answer 1 would refuse, or with as many octets as its N states or more." A tool has no setup rule, and every
-- state mark of a tool by value is in use by its type.
unfoldable pub sound : Tool → Bool
sound t = within_rec t.phase && receiver.sound t.receiver

-- the same rules one by one
pub record Sound (t : Tool) : Type 0 where
  pub sent : sent_length t.phase ≤ most_programmed
  pub receiver : receiver.Sound t.receiver
