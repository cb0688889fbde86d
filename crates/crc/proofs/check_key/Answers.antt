-- `crc::check_key` meets its contract. The loop's invariant: the word and the parity represent the octets passed, and what is left is whole turns.
-- Assumes nothing.
use mathlib.Core.Path.{◌≡◌, sym, ap, ◌∙◌}
use mathlib.Core.List.{List, [], ◌∷◌, ◌++◌, append_assoc, append-nil}
use Prim.Native.Nat.{ℕ, ◌+◌}
use native.Mathlib.Omega.{arith}
use lib.ListN.{length, take-append-drop, length-append}
use Rattle.crc.specs.AnnexE.{check_key}
use Rattle.crc.proofs.Represented.{sixteen_octets, next_octets}
use Rattle.crc.proofs.check_key.Goals as goal

pub loop-turn-init : goal.loop-turn-init
loop-turn-init c = let parts = c.split_at.ensures in
    let left : c.into_iter-turn-iterator.result.rest.now ≡ c.split_at.result.1.now = rw c.into_iter-turn-iterator.ensures.into_iter_gives c.chunks_exact-turn-items.ensures.rest in
    record {
      size = rw c.into_iter-turn-iterator.ensures.into_iter_gives c.chunks_exact-turn-items.ensures.size;
      turns = rw left (omega (arith, parts.back_len));
      passed = (c.split_at.result.0.now, rw (left, parts.front, parts.back) (take-append-drop _ _), c.residues_of-word.ensures);
    }

pub loop-turn-preserved : goal.loop-turn-preserved
loop-turn-preserved c = let l = c.loop-turn.invariant in
    let next = c.in-Some.ensures.steps in
    let turn : length c.in-Some.turn.now ≡ 16 = next.1.1 ∙ l.size in
    let long : length c.loop-turn.turn-iterator.rest.now ≡ length c.in-Some.turn.now + length c.next.new.self.rest.now = ap length next.1.0 ∙ length-append _ _ in
    record {
      size = next.0 ∙ l.size;
      turns = omega (arith, l.turns);
      passed = (
        l.passed.0 ++ c.in-Some.turn.now,
        rw (append_assoc l.passed.0, ← next.1.0) l.passed.1,
        next_octets 16 sixteen_octets _ _ turn l.passed.2 c.residues_of-next.ensures c.moved.ensures (omega arith),
      );
    }

nothing_left : (s t u : List ℕ) → s ++ t ≡ u → length t ≡ 0 → s ≡ u
nothing_left s [] u e z = sym (append-nil s) ∙ e
nothing_left s (x ∷ t) u e z = absurd (omega arith)

pub returns : goal.returns
returns c = let l = c.loop-turn.invariant in
    let less = c.in-None.ensures.steps in
    c.check_key_of.ensures ∙ l.passed.2.same_check_key ∙ ap check_key (nothing_left _ _ _ l.passed.1 (omega (arith, less.1.0, l.size, l.turns)))
