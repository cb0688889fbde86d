-- What a list has of the lent arrays, and a would-be file that is too long by its data alone.
use Prim.Native.Nat.{ℕ, zero, suc, ◌-◌, ◌*◌, ◌/◌, ◌≤◌, ◌<◌, min}
use mathlib.Core.Path.{◌≡◌, refl, sym, ap, ◌∙◌}
use mathlib.Core.Bool.{Bool, true, false}
use mathlib.Core.List.{List}
use native.Mathlib.Nat.{one-mul, le_of_lt, mul-le-mul_left, min-eq_left, min-eq_right}
use native.Mathlib.Omega.{arith}
use lib.ListN.{length, take, drop, length-append, length-drop}
use lib.Dec.{leb, ltb}
use lib.Seq.{length-take-le, take_all}
use borrow.Author.Tests.{leb-true, leb-false}
use Rattle.numbers.specs.Counts.{in_octets}
use Rattle.numbers.specs.Answer.{refused_at}
use Rattle.numbers.specs.Table.{faulty_file}
use Rattle.number.specs.Groups.{encoded, groups}
use Rattle.swap.specs.Record.{Record, rank_of}
use Rattle.swap.proofs.Verdicts.{verdict_long}
use Rattle.swap_write.specs.Heads.{head_size, head_of, head_length, body_of, file_of}
use Rattle.swap_list.specs.declared.RecordList.{RecordList}
use Rattle.swap_list.specs.Adding.{place_of, inserted, heads_with, contents_with, adding_head, adding}
use Rattle.swap_list.proofs.Inserting.{length-inserted}
use Rattle.swap_list.proofs.Keeping.{taken_refused}

-- a count of more than an array holds counts all of it
pub held : (size most n : ℕ) (s : List ℕ) → length s ≡ size * most → take (size * min n most) s ≡ take (size * n) s
held size most n s l = go (leb n most) refl
  where
    go : (b : Bool) → leb n most ≡ b → take (size * min n most) s ≡ take (size * n) s
    go true e = rw (min-eq_left (leb-true n most e))
    go false e =
        let h : most < n = leb-false n most e in
        rw (min-eq_right (le_of_lt h)) (take_all (size * most) s (omega arith) ∙ sym (take_all (size * n) s (omega (arith, mul-le-mul_left size (le_of_lt h)))))

-- all data is in the would-be file, after a count
body_long : (k : ℕ) (hs ds : List ℕ) → length ds ≤ length (body_of k hs ds)
unfolding body_of
body_long zero hs ds = rw length-append (omega arith)
body_long (suc k) hs ds = go (leb (head_length hs) (length ds)) refl (body_long k (drop head_size hs) (drop (head_length hs) ds))
  where
    go : (b : Bool) → leb (head_length hs) (length ds) ≡ b → length (drop (head_length hs) ds) ≤ length (body_of k (drop head_size hs) (drop (head_length hs) ds)) → length ds ≤ length (body_of (suc k) hs ds)
    go true e ih =
        let h : head_length hs ≤ length ds = leb-true _ _ e in
        rw e (simp length-append (omega (arith, length-take-le (head_length hs) ds h, length-drop (head_length hs) ds)))
    go false e ih = rw e (simp length-append (omega arith))

count_long : (k n : ℕ) → 0 < length (groups k n)
unfolding groups
count_long zero n = omega arith
count_long (suc k) n = go (ltb n 128) refl
  where
    go : (b : Bool) → ltb n 128 ≡ b → 0 < length (groups (suc k) n)
    go true e = rw e (omega arith)
    go false e = rw e (omega arith)

file_long : (hs ds : List ℕ) → length ds < length (file_of hs ds)
unfolding file_of encoded
file_long hs ds = rw length-append (omega (arith, count_long 4 (length hs / 10), body_long (length hs / 10) hs ds))

pub held_contents : (n : ℕ) (s : List ℕ) → length s ≡ 65536 → take (min n 65536) s ≡ take n s
held_contents n s l = rw (one-mul, one-mul) at (held 1 65536 n s l)

-- data that does not fit makes a file too long
pub too_long : (list : RecordList) (r : Record) (heads contents : List ℕ) (end : ℕ) → length contents ≡ 65536 → end ≡ min list.octets.0 65536 → 65536 - end ≤ length r.content → record { answer = refused_at faulty_file (in_octets 65536); heads = heads; contents = contents } ≡ adding list r heads contents
unfolding adding adding_head contents_with
too_long list r heads contents end l e h =
    let front : List ℕ = take list.octets.0 contents in
    let known : length front ≡ min list.octets.0 65536 = ap length (sym (held_contents list.octets.0 contents l)) ∙ length-take-le _ contents (omega (arith)) in
    let hs : List ℕ = heads_with (head_of r) (take (head_size * list.records.0) heads) in
    let from : ℕ = (place_of (rank_of (take 7 (head_of r))) (take (head_size * list.records.0) heads)).from in
    let ds : List ℕ = inserted front from r.content in
    taken_refused hs ds heads contents faulty_file (in_octets 65536) (verdict_long (file_of hs ds) (omega (arith, file_long hs ds, length-inserted front from r.content, known, e)))

-- the list's parts are those that were counted
pub added : (list : RecordList) (r : Record) (heads contents head : List ℕ) (n m : ℕ) → length heads ≡ 40960 → length contents ≡ 65536 → n ≡ min list.records.0 4096 → m ≡ min list.octets.0 65536 → head ≡ head_of r → adding_head head r.content (take (10 * n) heads) (take m contents) heads contents ≡ adding list r heads contents
unfolding adding
added list r heads contents head n m h l e f g =
    rw (e, f, g, held 10 4096 list.records.0 heads h, held_contents list.octets.0 contents l)
