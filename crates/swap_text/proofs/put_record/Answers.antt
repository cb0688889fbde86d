-- `put_record`: ADS and TAB, the kind and the counts are made in an array, each where the last one ends, and taken over with a line feed.
use Prim.Native.Nat.{ℕ, ◌≤◌}
use mathlib.Core.Path.{◌≡◌}
use native.Mathlib.Omega.{arith}
use mathlib.Core.List.{List, ◌++◌}
use lib.ListN.{length, take, length-append}
use Rattle.swap.specs.declared.kind.Kind.{Kind}
use Rattle.text.proofs.Writing.{Written, joined, room_after}
use Rattle.swap_text.specs.Lines.{name_text, kind_text, record_line}
use Rattle.swap_text.proofs.Parts.{name_long, kind_most}
use Rattle.swap_text.proofs.Whole.{made, taken_over}
use borrow.Author.Rules.{rules}
use Rattle.swap_text.proofs.put_record.Goals as goal

-- the two parts of a record's text
module _ (ads : List ℕ) (tab : ℕ) (kind : Kind) (content : List ℕ) (six : length ads ≡ 6) where
  text_most : length (name_text ads tab ++ kind_text kind content) ≤ 81
  text_most = rw length-append (omega (arith, name_long ads tab six, kind_most kind content))

  record_made : (m named b : List ℕ) (end r : ℕ) → 82 ≤ length m → Written m 0 (name_text ads tab) end named → Written named end (kind_text kind content) r b → let t = name_text ads tab ++ kind_text kind content in (r ≡ length t) × (take r b ≡ t) × (length b ≡ length m)
  record_made m named b end r room first next =
      made m (name_text ads tab ++ kind_text kind content) r b (omega (arith, text_most, room))
      (joined m 0 (name_text ads tab) (kind_text kind content) end r named b (omega (arith, text_most, room, length-append (name_text ads tab) (kind_text kind content))) first next)

pub put_kind-end-requires : goal.put_kind-end-requires
put_kind-end-requires c = let a = c.args in
    let six : length a.ads ≡ 6 = search rules in
    room_after _ 0 _ _ _ 66 (omega (arith, name_long a.ads a.tab six)) c.put_name-kind_at.ensures

pub put_line-requires : goal.put_line-requires
put_line-requires c = let a = c.args in
    let six : length a.ads ≡ 6 = search rules in
    let g = record_made a.ads a.tab a.kind a.content.now six _ _ _ _ _ (omega arith) c.put_name-kind_at.ensures c.put_kind-end.ensures in
    omega (arith, g.0, g.2, text_most a.ads a.tab a.kind a.content.now six)

pub returns : goal.returns
unfolding record_line
returns c = let a = c.args in
    let six : length a.ads ≡ 6 = search rules in
    taken_over _ _ _ _ _ _ c.put_line.ensures
    (record_made a.ads a.tab a.kind a.content.now six _ _ _ _ _ (omega arith) c.put_name-kind_at.ensures c.put_kind-end.ensures).1
