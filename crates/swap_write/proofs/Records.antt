-- Records written are their encoding, and the writer gives back the octets that the records were read from.
use Prim.Native.Nat.{ℕ, ◌*◌, ◌/◌, ◌%◌, ◌≤◌, ◌<◌}
use mathlib.Core.Path.{◌≡◌, refl, sym, ap, ◌∙◌}
use mathlib.Core.List.{List, [], ◌∷◌, ◌++◌, append_assoc}
use native.Mathlib.Omega.{arith}
use lib.ListN.{length, get_or, take, drop, length-append}
use lib.Seq.{take_at, drop_at, get_or-drop}
use borrow.Author.Tests.{le-leb}
use Rattle.numbers.specs.Counts.{in_octets}
use Rattle.numbers.specs.Answer.{given}
use Rattle.octets.specs.Splice.{fronted}
use Rattle.octets.proofs.Splice.{take-fronted}
use Rattle.number.specs.Groups.{encoded}
use Rattle.swap.specs.Record.{Record, OfOctets, Each}
use Rattle.swap.specs.Encoding.{record_octets, records_octets, encode, Within}
use Rattle.swap.specs.Reading.{read_file, listed, verdict_of, in_record_count}
use Rattle.swap.proofs.Encoded.{all_octets}
use Rattle.swap.proofs.RoundTrip.{read_encode, encode_read, encoding_accepted}
use Rattle.swap_write.specs.Heads.{head_of, heads_of, contents_of, head_length, front_octets, body_of, file_of}
use Rattle.swap_write.specs.Writing.{writing}
use Rattle.swap_write.proofs.Outcomes.{writing_whole}

-- the head of a record, with others behind it
module _ (r : Record) (hs : List ℕ) (six : length r.ads ≡ 6) where
  from_tab : drop 6 (head_of r ++ hs) ≡ r.tab ∷ r.kind ∷ length r.content % 256 ∷ length r.content / 256 ∷ hs
  unfolding head_of
  from_tab = rw append_assoc (drop_at r.ads _ 6 (six))

  pub stated : head_length (head_of r ++ hs) ≡ length r.content
  unfolding head_length
  stated = rw (← get_or-drop 6 (head_of r ++ hs) 2 0, ← get_or-drop 6 (head_of r ++ hs) 3 0, from_tab) (omega arith)

  pub ten : length (head_of r) ≡ 10
  unfolding head_of
  ten = simp length-append (omega (arith, six))

  front : front_octets (head_of r ++ hs) ≡ r.ads ++ r.tab ∷ r.kind ∷ encoded (length r.content)
  unfolding front_octets head_of
  front =
      let p : List ℕ = r.ads ++ r.tab ∷ r.kind ∷ [] in
      let q : List ℕ = length r.content % 256 ∷ length r.content / 256 ∷ hs in
      let l : length p ≡ 8 = simp length-append (omega (arith, six)) in
      let e : head_of r ++ hs ≡ p ++ q = append_assoc r.ads _ hs ∙ sym (append_assoc r.ads (r.tab ∷ r.kind ∷ []) q) in
      rw (stated, e, take_at p q 8 l) (append_assoc r.ads (r.tab ∷ r.kind ∷ []) (encoded (length r.content)))

-- the heads and the data of records are their octets, whatever rules they break
body_records : {rs : List Record} → Each OfOctets rs → body_of (length rs) (heads_of rs) (contents_of rs) ≡ records_octets rs
unfolding body_of heads_of contents_of records_octets record_octets
body_records Each.none = refl
body_records (Each.more {r = r} {rs = rs} p s) =
    let n : ℕ = length r.content in
    let h : List ℕ = heads_of rs in
    let c : List ℕ = contents_of rs in
    let l : n ≤ length (r.content ++ c) = rw length-append (omega arith) in
    rw (
      stated r h p.address,
      le-leb n (length (r.content ++ c)) l,
      front r h p.address,
      take_at r.content c n refl,
      drop_at (head_of r) h 10 (ten r h p.address),
      drop_at r.content c n refl,
      body_records s,
    )
    (sym (append_assoc (r.ads ++ r.tab ∷ r.kind ∷ encoded n) r.content (records_octets rs)))

pub heads_long : {rs : List Record} → Each OfOctets rs → length (heads_of rs) ≡ 10 * length rs
unfolding heads_of
heads_long Each.none = refl
heads_long (Each.more {r = r} {rs = rs} p s) = rw length-append (omega (arith, ten r (heads_of rs) p.address, heads_long s))

-- the would-be file of records is their encoding
pub file_encode : (rs : List Record) → Each OfOctets rs → file_of (heads_of rs) (contents_of rs) ≡ encode rs
unfolding file_of encode
file_encode rs s =
    let n : length (heads_of rs) / 10 ≡ length rs = omega (arith, heads_long s) in
    rw (n, body_records s)

-- records within all rules are written whole where the buffer has room
pub write_whole : (rs : List Record) (b : List ℕ) → Within rs → length (encode rs) ≤ length b → writing (heads_of rs) (contents_of rs) b ≡ record { answer = given (in_octets (length (encode rs))); buffer = fronted (encode rs) b }
write_whole rs b h k =
    let e : file_of (heads_of rs) (contents_of rs) ≡ encode rs = file_encode rs (all_octets h.sound) in
    sym (writing_whole (heads_of rs) (contents_of rs) b (in_record_count (length rs)) (sym (ap verdict_of e ∙ encoding_accepted rs h)) (rw e k)) ∙ rw e

-- records read from an accepted file and written give the same octets
pub read_write : (s : List ℕ) (rs : List Record) (b : List ℕ) → ((i : ℕ) → get_or s i 0 < 256) → read_file s ≡ listed rs → length s ≤ length b → writing (heads_of rs) (contents_of rs) b ≡ record { answer = given (in_octets (length s)); buffer = fronted s b }
read_write s rs b o e k =
    let f = read_encode s rs o e in
    rw f.0 (write_whole rs b f.1 (rw (← f.0) k))

-- records written and read are the same records
pub write_read : (rs : List Record) (b : List ℕ) → Within rs → length (encode rs) ≤ length b → read_file (take (length (encode rs)) (writing (heads_of rs) (contents_of rs) b).buffer) ≡ listed rs
write_read rs b h k = rw (write_whole rs b h k, take-fronted) (encode_read rs h)
