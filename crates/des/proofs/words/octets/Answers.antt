-- `words::octets` meets its contract: the octets of a word are those of its bits.
-- Assumes nothing.
use mathlib.Core.Path.{◌∙◌}
use Rattle.des.proofs.Strings.{octets-bits_of}
use Rattle.des.proofs.words.octets.Goals as goal

pub returns : goal.returns
returns c = c.to_be_bytes.ensures ∙ octets-bits_of 8 c.args.w
