-- Added to the heads and data of records, a record's own make those of the list with the record in its place.
use Prim.Native.Nat.{ℕ, ◌+◌, ◌*◌, ◌/◌, ◌%◌}
use mathlib.Core.Path.{◌≡◌, refl, sym, ap, ◌∙◌}
use mathlib.Core.Bool.{Bool, true, false}
use mathlib.Core.List.{List, [], ◌∷◌, ◌++◌, append_assoc, append-nil}
use native.Mathlib.Omega.{arith}
use lib.ListN.{length, take, length-append}
use lib.Dec.{leb}
use lib.Seq.{take_at, drop_at, take-append-add, drop-append-add}
use Rattle.swap.specs.Record.{Record, OfOctets, Each, rank_of, rank}
use Rattle.swap.specs.Encoding.{encode}
use Rattle.swap.specs.Reading.{verdict_of}
use Rattle.swap_write.specs.Heads.{head_size, head_of, heads_of, contents_of}
use Rattle.swap_write.proofs.Records.{stated, ten, heads_long, file_encode}
use Rattle.swap_list.specs.declared.RecordList.{RecordList}
use Rattle.swap_list.specs.Adding.{place_among, place_of, inserted, heads_with, contents_with, judged_adding, taken_over, adding_head, adding}
use Rattle.swap_list.specs.Ordered.{placed}

-- the first seven octets of a head are the record's rank
pub head_rank : (r : Record) (hs : List ℕ) → length r.ads ≡ 6 → rank_of (take 7 (head_of r ++ hs)) ≡ rank r
unfolding head_of rank
head_rank r hs a =
    let p : List ℕ = r.ads ++ r.tab ∷ [] in
    let q : List ℕ = r.kind ∷ length r.content % 256 ∷ length r.content / 256 ∷ hs in
    let e : head_of r ++ hs ≡ p ++ q = append_assoc r.ads _ hs ∙ sym (append_assoc r.ads (r.tab ∷ []) q) in
    let l : length p ≡ 7 = simp length-append (omega arith) in
    ap (λ (t : List ℕ). rank_of (take 7 t)) e ∙ ap rank_of (take_at p q 7 l)

-- past a front part
inserted_past : (a b piece : List ℕ) (n at : ℕ) → length a ≡ n → inserted (a ++ b) (n + at) piece ≡ a ++ inserted b at piece
unfolding inserted
inserted_past a b piece n at l =
    rw (← l, take-append-add, drop-append-add, append_assoc, append_assoc, append_assoc)

inserted_front : (s piece : List ℕ) → inserted s 0 piece ≡ piece ++ s
unfolding inserted
inserted_front s piece = refl

-- the heads and the data of records, with a record's own inserted among so many
pub record InPlace (r : Record) (rs : List Record) : Type 0 where
  pub heads : inserted (heads_of rs) (place_among (length rs) (rank r) (heads_of rs)).head (head_of r) ≡ heads_of (placed r rs)
  pub contents : inserted (contents_of rs) (place_among (length rs) (rank r) (heads_of rs)).from r.content ≡ contents_of (placed r rs)

module _ (r q : Record) (qs : List Record) (six : length q.ads ≡ 6) where
  later : leb (rank q) (rank r) ≡ true → InPlace r qs → InPlace r (q ∷ qs)
  unfolding placed heads_of contents_of place_among
  later e ih =
      let k = head_rank q (heads_of qs) (six) in
      let d = drop_at (head_of q) (heads_of qs) 10 (ten q (heads_of qs) six) in
      record {
        heads = rw (k, e, d, inserted_past (head_of q) (heads_of qs) (head_of r) 10 _ (ten q (heads_of qs) six), ih.heads);
        contents = rw (k, e, d, stated q (heads_of qs) six, inserted_past q.content (contents_of qs) r.content (length q.content) _ refl, ih.contents);
      }

  here : leb (rank q) (rank r) ≡ false → InPlace r (q ∷ qs)
  unfolding placed heads_of contents_of place_among
  here e =
      let k = head_rank q (heads_of qs) (six) in
      record {
        heads = rw (k, e) (inserted_front _ (head_of r));
        contents = rw (k, e) (inserted_front _ r.content);
      }

  turn : InPlace r qs → InPlace r (q ∷ qs)
  turn ih = go (leb (rank q) (rank r)) refl
    where
      go : (b : Bool) → leb (rank q) (rank r) ≡ b → InPlace r (q ∷ qs)
      go true e = later e ih
      go false e = here e

in_place : (r : Record) {rs : List Record} → Each OfOctets rs → InPlace r rs
unfolding placed heads_of contents_of place_among
in_place r Each.none = record { heads = inserted_front [] (head_of r); contents = inserted_front [] r.content }
in_place r (Each.more {r = q} {rs = qs} p s) = turn r q qs p.address (in_place r s)

-- so the call inserts into a list of records
pub with_record : (r : Record) (rs : List Record) → length r.ads ≡ 6 → Each OfOctets rs → (heads_with (head_of r) (heads_of rs) ≡ heads_of (placed r rs)) × (contents_with (head_of r) r.content (heads_of rs) (contents_of rs) ≡ contents_of (placed r rs))
unfolding heads_with contents_with place_of
with_record r rs a s =
    let n : length (heads_of rs) / 10 ≡ length rs = omega (arith, heads_long s) in
    let k : rank_of (take 7 (head_of r)) ≡ rank r = ap (λ (t : List ℕ). rank_of (take 7 t)) (sym (append-nil (head_of r))) ∙ head_rank r [] a in
    let g = in_place r s in
    (rw (n, k) g.heads, rw (n, k) g.contents)

pub placed_octets : (r : Record) {rs : List Record} → OfOctets r → Each OfOctets rs → Each OfOctets (placed r rs)
unfolding placed
placed_octets r p Each.none = Each.more p Each.none
placed_octets r p (Each.more {r = q} {rs = qs} h s) = go (leb (rank q) (rank r)) refl (placed_octets r p s)
  where
    go : (b : Bool) → leb (rank q) (rank r) ≡ b → Each OfOctets (placed r qs) → Each OfOctets (placed r (q ∷ qs))
    go true e ih = rw e (Each.more h ih)
    go false e ih = rw e (Each.more p (Each.more h s))

-- a record added to a list that holds records: the verdict is on the encoding of the records with it in its place
pub adding_encoded : (list : RecordList) (r : Record) (rs : List Record) (heads contents : List ℕ) → take (head_size * list.records.0) heads ≡ heads_of rs → take list.octets.0 contents ≡ contents_of rs → OfOctets r → Each OfOctets rs → adding list r heads contents ≡ judged_adding (verdict_of (encode (placed r rs))) (heads_of (placed r rs)) (contents_of (placed r rs)) heads contents
unfolding adding adding_head taken_over
adding_encoded list r rs heads contents h c p s =
    let w = with_record r rs p.address s in
    rw (h, c, w.0, w.1, file_encode (placed r rs) (placed_octets r p s))
