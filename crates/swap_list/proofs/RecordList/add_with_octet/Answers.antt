-- `RecordList::add_with_octet`: data that leaves no room is too long; else the head and the data go to their places in copies, which are taken over.
use Prim.Native.Nat.{ℕ, ◌+◌, ◌*◌, ◌≤◌}
use mathlib.Core.Path.{◌≡◌, refl, ap₂, ◌∙◌}
use mathlib.Core.List.{List}
use native.Mathlib.Omega.{arith}
use lib.ListN.{length, take}
use Rattle.swap_write.specs.Heads.{head_of}
use Rattle.swap_list.specs.Adding.{taken_over}
use Rattle.swap_list.proofs.Inserting.{front_inserted}
use Rattle.swap_list.proofs.Keeping.{added_to}
use Rattle.swap_list.proofs.Held.{too_long, added}
use borrow.Author.Rules.{rules}
use Rattle.swap_list.proofs.RecordList.add_with_octet.Goals as goal

pub returns-then-content_end-content : goal.returns-then-content_end-content
returns-then-content_end-content c = let a = c.args in
    let contents_long : length a.contents.now ≡ 65536 = search rules in
    too_long a.self _ a.heads.now a.contents.now _ contents_long c.min-content_end.ensures c.if-content_end-content.true

pub returns : goal.returns
unfolding head_of
returns c = let a = c.args in
    let hs = a.heads.now in
    let cs = a.contents.now in
    let heads_long : length hs ≡ 40960 = search rules in
    let contents_long : length cs ≡ 65536 = search rules in
    let head = c.head_of-head.result in
    let n = 10 * c.min-head_end.result in
    let m = c.min-content_end.result in
    let p = c.place_of-place.result in
    let ten : length head ≡ 10 = search rules in
    let n_within : n ≤ length hs = omega (arith, c.min-head_end.ensures) in
    let m_within : m ≤ length cs = omega (arith, c.min-content_end.ensures) in
    let n_front = front_inserted (n + 10) n p.head hs head _ _ n_within (omega arith) c.insert.ensures in
    let m_front = front_inserted (m + length a.content.now) m p.from cs a.content.now _ _ m_within (omega arith) c.insert-2.ensures in
    c.keep.ensures
    ∙ ap₂ (λ (f d : List ℕ). taken_over f d hs cs) n_front m_front
    ∙ added_to head a.content.now (take n hs) (take m cs) hs cs _ _ p c.rank.ensures c.place_of-place.ensures refl
    ∙ added a.self _ hs cs _ _ _ heads_long contents_long c.min-head_end.ensures c.min-content_end.ensures c.head_of-head.ensures
