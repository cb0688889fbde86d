-- `put_field` meets its contract: one answer for each presence, and nothing written where the command has not the field.
use Prim.Native.Nat.{ℕ}
use mathlib.Core.Path.{refl, sym}
use native.Mathlib.Nat.{add-zero}
use lib.ListN.{length, length-reverse, length-replicate}
use Rattle.octets.proofs.Splice.{spliced_nothing}
use Rattle.frame.specs.Content.{on_wire}
use Rattle.std.proofs.lemmas.List.{take-replicate}
use Rattle.frame.proofs.builder.put_field.Goals as goal
use Rattle.frame.proofs.builder.put_field.Goals.{in-Zero, in-Carried}

pub returns-in-Absent : goal.returns-in-Absent
unfolding on_wire
returns-in-Absent c = let a = c.args in
    rw c.in-Absent.is (sym (add-zero a.at), sym (spliced_nothing a.buffer.now a.at))

pub returns : goal.returns
unfolding on_wire
returns c =
    elim c.match-presence.branch [
      | in-Zero w ↦ rw (w.in-Zero.is, length-replicate, w.buffer-is, w.put.ensures, take-replicate {X = ℕ} (length c.args.field.now) 8 0 c.requires.1) (refl, refl)
      | in-Carried w ↦ rw (w.in-Carried.is, length-reverse, w.buffer-is, w.put_reversed.ensures) (refl, refl)
    ]
