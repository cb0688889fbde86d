-- `send` builds a frame that fits: the builder does not refuse.
use native.Mathlib.Omega.{arith}
use mathlib.Core.Path.{◌≡◌, refl}
use Rattle.std.specs.Prelude.{Result, Ok, Err}
use Rattle.std.specs.Result.{result_unwrap_or}
use Rattle.numbers.specs.Counts.{in_octets}
use Rattle.numbers.specs.declared.Octets.{Octets}
use Rattle.frame.specs.Building.{frame_octets, Sends}
use Rattle.frame.specs.declared.builder.Refusal.{Refusal}
use Rattle.frame.proofs.Sending.{sends, never_refused}
use Rattle.tool.proofs.frames.send.Goals as goal

pub returns : goal.returns
returns c = rw c.unwrap_or.ensures (go c.build.result refl)
  where
    go : (r : Result Octets Refusal) → c.build.result ≡ r → Sends (frame_octets c.args.command c.args.fields c.args.«data».now) c.args.frame.now c.build.new.buffer (result_unwrap_or r (in_octets 0))
    go (Ok sent) e = sends c.args.frame.now c.args.command c.args.fields c.args.«data».now (omega (arith, c.told-frame)) c.requires _ _ c.build.ensures.0 c.build.ensures.1 sent e
    go (Err refusal) e = never_refused c.args.frame.now c.args.command c.args.fields c.args.«data».now (omega (arith, c.told-frame)) c.requires _ _ c.build.ensures.0 c.build.ensures.1 refusal e
