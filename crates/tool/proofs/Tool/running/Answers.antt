-- `Tool::running` keeps of a programming request what the replies are compared with.
use native.Mathlib.Omega.{arith}
use Rattle.octets.proofs.Splice.{spliced_front}
use Rattle.tool.proofs.Lengths.{sent_length}
use Rattle.tool.proofs.Tool.running.Goals as goal

pub returns-in-Rec : goal.returns-in-Rec
returns-in-Rec c = let a = c.args in
    let within = rw c.in-Rec.is at c.requires in
    rw (c.in-Rec.is, c.put.ensures, spliced_front a.self.sent a.arguments.now.«data».now (omega (arith, within, sent_length a.self _ c.well_formed.0)))
