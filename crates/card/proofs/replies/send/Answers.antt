-- `send` builds a frame: neither refusal of the builder can come.
use Prim.Native.Nat.{ℕ, ◌≤◌}
use mathlib.Core.Path.{◌≡◌, refl}
use mathlib.Core.Bool.{true}
use mathlib.Core.List.{List}
use native.Mathlib.Omega.{arith}
use lib.ListN.{length}
use Rattle.std.specs.Prelude.{Result, Ok, Err}
use Rattle.std.specs.Result.{result_unwrap_or}
use Rattle.numbers.specs.declared.Octets.{Octets}
use Rattle.frame.specs.declared.codes.Command.{Command}
use Rattle.frame.specs.declared.content.Fields.{Fields}
use Rattle.frame.specs.declared.builder.Refusal.{Refusal}
use Rattle.frame.specs.Sizes.{longest_frame}
use Rattle.frame.specs.Layout.{layout_of, within}
use Rattle.frame.specs.Building.{answer_of_built, frame_octets, built, Sends}
use Rattle.frame.proofs.Sending.{sends, never_refused}
use Rattle.card.proofs.replies.send.Goals as goal

sent : (b : List ℕ) (k : Command) (f : Fields) (d after : List ℕ) (default : Octets) → longest_frame ≤ length b → within (layout_of k) (length d) ≡ true
    → (answer : Result Octets Refusal) → answer_of_built answer ≡ (built b k f d).answer → after ≡ (built b k f d).buffer → Sends (frame_octets k f d) b after (result_unwrap_or answer default)
sent b k f d after default capacity amount (Ok octets) e l = sends b k f d capacity amount _ after e l octets refl
sent b k f d after default capacity amount (Err refusal) e l = never_refused b k f d capacity amount _ after e l refusal refl

pub returns : goal.returns
returns c = let a = c.args in
    rw c.unwrap_or.ensures (sent a.reply.now a.command a.fields a.«data».now _ _ (omega (arith, c.told-reply)) c.requires c.build.result c.build.ensures.0 c.build.ensures.1)
