-- After any list of adds to an empty list, whatever the arrays hold, the list holds exactly the accepted records, in order.
use Prim.Native.Nat.{ℕ, ◌*◌}
use mathlib.Core.Path.{◌≡◌, refl, ap, ◌∙◌}
use mathlib.Core.List.{List, []}
use native.Mathlib.Omega.{arith}
use lib.ListN.{length, take}
use Rattle.numbers.specs.Counts.{in_octets}
use Rattle.numbers.specs.Answer.{Answer, given, refused, refused_at}
use Rattle.octets.specs.Splice.{fronted}
use Rattle.octets.proofs.Splice.{take-fronted}
use Rattle.number.specs.Groups.{encoded, groups}
use Rattle.swap.specs.declared.file.RecordCount.{RecordCount}
use Rattle.swap.specs.Record.{Record, OfOctets, Each, Rising}
use Rattle.swap.specs.Encoding.{records_octets, encode}
use Rattle.swap.specs.Reading.{verdict_of, in_record_count}
use Rattle.swap.proofs.Encoded.{all_octets}
use Rattle.swap.proofs.RoundTrip.{accepted_own}
use Rattle.swap_write.specs.Heads.{head_size, heads_of, contents_of}
use Rattle.swap_write.proofs.Records.{heads_long, file_encode}
use Rattle.swap_list.specs.Adding.{judged_adding, adding}
use Rattle.swap_list.specs.Ordered.{placed}
use Rattle.swap_list.specs.Collected.{Lent, begun, after_add, after_adds, kept, kept_of, Holds, accepted_by, accepted, in_order}
use Rattle.swap_list.proofs.InOrder.{placed_octets, adding_encoded}

holds_none : (heads contents : List ℕ) → Holds (begun heads contents) []
unfolding heads_of contents_of encode records_octets encoded groups
holds_none heads contents =
    record {
      within = record { sound = Each.none; rising = Rising.none; few = omega arith; small = omega arith };
      counts = refl;
      heads = refl;
      contents = refl;
      file = file_encode [] Each.none;
    }

-- records taken over by the arrays
holds_taken : (rs : List Record) (c : RecordCount) (heads contents : List ℕ) → Each OfOctets rs → verdict_of (encode rs) ≡ given c → Holds (record { list = record { records = c; octets = in_octets (length (contents_of rs)) }; heads = fronted (heads_of rs) heads; contents = fronted (contents_of rs) contents }) rs
holds_taken rs c heads contents o v =
    let a = accepted_own rs c o v in
    let n : head_size * c.0 ≡ length (heads_of rs) = omega (arith, heads_long o, a.1) in
    let h : take (head_size * c.0) (fronted (heads_of rs) heads) ≡ heads_of rs = rw n (take-fronted (heads_of rs) heads) in
    let d : take (length (contents_of rs)) (fronted (contents_of rs) contents) ≡ contents_of rs = take-fronted (contents_of rs) contents in
    let i : in_record_count (length rs) ≡ c = ap in_record_count a.1 in
    record {
      within = a.0;
      counts = rw i;
      heads = h;
      contents = d;
      file = rw (h, d) (file_encode rs o);
    }

module _ (l : Lent) (rs : List Record) (h : Holds l rs) (r : Record) (o : OfOctets r) where
  -- what an add to the list answers and leaves, by the records alone
  pub next_add : adding l.list r l.heads l.contents ≡ judged_adding (verdict_of (encode (placed r rs))) (heads_of (placed r rs)) (contents_of (placed r rs)) l.heads l.contents
  next_add = adding_encoded l.list r rs l.heads l.contents h.heads h.contents o (all_octets h.within.sound)

  holds_next : Holds (after_add l r) (kept rs r)
  unfolding after_add kept judged_adding
  holds_next = go (verdict_of (encode (placed r rs))) refl
    where
      go : (v : Answer RecordCount) → verdict_of (encode (placed r rs)) ≡ v → Holds (after_add l r) (kept rs r)
      go (given c) q = rw (next_add, q) (holds_taken (placed r rs) c l.heads l.contents (placed_octets r o (all_octets h.within.sound)) q)
      go (refused n) q = rw (next_add, q) h
      go (refused_at n e) q = rw (next_add, q) h

  -- an add is accepted exactly where the records alone say so
  kept_first : (qs : List Record) → in_order (kept rs r) qs ≡ in_order rs (accepted_by (adding l.list r l.heads l.contents).answer r qs)
  unfolding kept judged_adding in_order
  kept_first qs = go (verdict_of (encode (placed r rs))) refl
    where
      go : (v : Answer RecordCount) → verdict_of (encode (placed r rs)) ≡ v → in_order (kept rs r) qs ≡ in_order rs (accepted_by (adding l.list r l.heads l.contents).answer r qs)
      go (given c) q = rw (next_add, q)
      go (refused n) q = rw (next_add, q)
      go (refused_at n e) q = rw (next_add, q)

-- the list holds the records that are kept of those offered
pub holds_all : (l : Lent) (rs : List Record) {more : List Record} → Holds l rs → Each OfOctets more → Holds (after_adds l more) (kept_of rs more)
unfolding after_adds kept_of
holds_all l rs h Each.none = h
holds_all l rs h (Each.more {r = r} {rs = more} o s) = holds_all (after_add l r) (kept rs r) (holds_next l rs h r o) s

-- which are those that the calls accepted, put into their places
all_accepted : (l : Lent) (rs : List Record) {more : List Record} → Holds l rs → Each OfOctets more → kept_of rs more ≡ in_order rs (accepted l more)
unfolding kept_of in_order accepted
all_accepted l rs h Each.none = refl
all_accepted l rs h (Each.more {r = r} {rs = more} o s) =
    all_accepted (after_add l r) (kept rs r) (holds_next l rs h r o) s ∙ kept_first l rs h r o (accepted (after_add l r) more)

pub collected : (heads contents : List ℕ) {offered : List Record} → Each OfOctets offered → Holds (after_adds (begun heads contents) offered) (kept_of [] offered)
collected heads contents o = holds_all (begun heads contents) [] (holds_none heads contents) o

pub collected_accepted : (heads contents : List ℕ) {offered : List Record} → Each OfOctets offered → kept_of [] offered ≡ in_order [] (accepted (begun heads contents) offered)
collected_accepted heads contents o = all_accepted (begun heads contents) [] (holds_none heads contents) o
