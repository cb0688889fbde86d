-- A list that adding gave back is one that the reader accepts, so that the writer never refuses it with 18.
use Prim.Native.Nat.{ℕ, ◌*◌}
use mathlib.Core.Path.{◌≡◌, refl}
use mathlib.Core.Bool.{Bool, true, false}
use mathlib.Core.List.{List, ◌++◌}
use native.Mathlib.Omega.{arith}
use lib.ListN.{length, take, drop}
use lib.Dec.{leb, lit<}
use Rattle.numbers.specs.declared.Octets.{Octets}
use Rattle.numbers.specs.Counts.{in_octets}
use Rattle.numbers.specs.Answer.{Answer, given, refused, refused_at}
use Rattle.octets.proofs.Splice.{take-fronted}
use Rattle.octets.proofs.Below.{Below, below_append, Below-take, Below-drop}
use Rattle.swap.specs.declared.file.RecordCount.{RecordCount}
use Rattle.swap.specs.Record.{Record, rank_of}
use Rattle.swap.specs.Reading.{verdict_of}
use Rattle.swap_write.specs.Heads.{head_size, head_of, file_of}
use Rattle.swap_write.specs.Writing.{writing, judged_writing, laid}
use Rattle.swap_write.proofs.Accepted.{accepted_long}
use Rattle.swap_list.specs.declared.RecordList.{RecordList}
use Rattle.swap_list.specs.Adding.{Outcome, place_of, inserted, heads_with, contents_with, judged_adding, taken_over, adding_head, adding}

-- what a list has at the front of the arrays that a call left
abbrev pub heads_of_list : RecordList → Outcome → List ℕ
heads_of_list list o = take (head_size * list.records.0) o.heads

abbrev pub contents_of_list : RecordList → Outcome → List ℕ
contents_of_list list o = take list.octets.0 o.contents

Below-inserted : (s : List ℕ) (at : ℕ) (piece : List ℕ) → Below 256 piece → Below 256 s → Below 256 (inserted s at piece)
unfolding inserted
Below-inserted s at piece h b =
    below_append 256 (lit< tt) (take at s ++ piece) (drop at s) (below_append 256 (lit< tt) (take at s) piece (Below-take 256 (lit< tt) at s b) h) (Below-drop 256 (lit< tt) at s b)

below_with : (head hs : List ℕ) → Below 256 head → Below 256 hs → Below 256 (heads_with head hs)
unfolding heads_with
below_with head hs h b = Below-inserted hs (place_of (rank_of (take 7 head)) hs).head head h b

-- heads and contents that were taken over, by the verdict on them
taken : (hs cs heads contents : List ℕ) (next : RecordList) → Below 256 hs → (taken_over hs cs heads contents).answer ≡ given next → verdict_of (file_of (heads_of_list next (taken_over hs cs heads contents)) (contents_of_list next (taken_over hs cs heads contents))) ≡ given next.records
unfolding taken_over judged_adding
taken hs cs heads contents next b e = go (verdict_of (file_of hs cs)) refl
  where
    go : (v : Answer RecordCount) → verdict_of (file_of hs cs) ≡ v → verdict_of (file_of (heads_of_list next (taken_over hs cs heads contents)) (contents_of_list next (taken_over hs cs heads contents))) ≡ given next.records
    go (refused n) q =
        let r : refused n ≡ given next = rw q at e in
        let z : ◌≡◌ {A = ℕ} 0 1 = cc in
        let y : ⊥ = omega arith in
        absurd y
    go (refused_at n o) q =
        let r : refused_at n o ≡ given next = rw q at e in
        let z : ◌≡◌ {A = ℕ} 0 1 = cc in
        let y : ⊥ = omega arith in
        absurd y
    go (given c) q =
        let r : given (record { records = c; octets = in_octets (length cs) }) ≡ given next = rw q at e in
        let s : record { records = c; octets = in_octets (length cs) } ≡ next = cc in
        let l : length hs ≡ 10 * c.0 = accepted_long hs cs c q b in
        rw (← s, q, ← l, take-fronted hs heads, take-fronted cs contents) q

-- the file of the list that was given back is accepted, with its count
pub kept_accepted : (list next : RecordList) (r : Record) (heads contents : List ℕ) → Below 256 heads → Below 256 (head_of r) → (adding list r heads contents).answer ≡ given next → verdict_of (file_of (heads_of_list next (adding list r heads contents)) (contents_of_list next (adding list r heads contents))) ≡ given next.records
unfolding adding adding_head
kept_accepted list next r heads contents b h e =
    let n : ℕ = head_size * list.records.0 in
    let hs : List ℕ = take n heads in
    taken (heads_with (head_of r) hs) (contents_with (head_of r) r.content hs (take list.octets.0 contents)) heads contents next (below_with (head_of r) hs h (Below-take 256 (lit< tt) n heads b)) e

-- an accepted file is written or has no room
never_faulty : (hs cs buffer : List ℕ) (c : RecordCount) (n : ℕ) (o : Octets) → verdict_of (file_of hs cs) ≡ given c → (writing hs cs buffer).answer ≡ refused_at n o → ⊥
unfolding writing judged_writing laid
never_faulty hs cs buffer c n o v e = go (leb (length (file_of hs cs)) (length buffer)) refl (rw v at e)
  where
    go : (b : Bool) → leb (length (file_of hs cs)) (length buffer) ≡ b → (laid (file_of hs cs) buffer).answer ≡ refused_at n o → ⊥
    go true q f = let f = rw q at f in let z : ◌≡◌ {A = ℕ} 0 1 = cc in omega arith
    go false q f = let f = rw q at f in let z : ◌≡◌ {A = ℕ} 0 1 = cc in omega arith

-- so the writer never gives 18 for it
pub kept_writes : (list next : RecordList) (r : Record) (heads contents buffer : List ℕ) (n : ℕ) (o : Octets) → Below 256 heads → Below 256 (head_of r) → (adding list r heads contents).answer ≡ given next → (writing (heads_of_list next (adding list r heads contents)) (contents_of_list next (adding list r heads contents)) buffer).answer ≡ refused_at n o → ⊥
kept_writes list next r heads contents buffer n o b h e f =
    never_faulty _ _ buffer next.records n o (kept_accepted list next r heads contents b h e) f
