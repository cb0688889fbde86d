-- The answer on heads and contents with the record in them, against the definition.
use Prim.Native.Nat.{ℕ, ◌/◌, ◌%◌, ◌≤◌, ◌<◌}
use mathlib.Core.Path.{◌≡◌, sym}
use mathlib.Core.List.{List}
use native.Mathlib.Omega.{arith}
use lib.ListN.{length, get_or, take}
use Rattle.numbers.specs.declared.Octets.{Octets}
use Rattle.numbers.specs.Counts.{in_octets}
use Rattle.numbers.specs.Answer.{given, refused_at}
use Rattle.octets.specs.Splice.{spliced}
use Rattle.octets.proofs.Splice.{spliced_front}
use Rattle.swap.specs.declared.file.RecordCount.{RecordCount}
use Rattle.swap.specs.Record.{rank_of}
use Rattle.swap.specs.Reading.{verdict_of}
use Rattle.swap_write.specs.Heads.{file_of}
use Rattle.swap_write.proofs.Laid.{accepted_body}
use Rattle.swap_list.specs.declared.place.Place.{Place}
use Rattle.swap_list.specs.Adding.{place_of, inserted, heads_with, contents_with, taken_over, judged_adding, adding_head}

module _ (more all heads contents : List ℕ) where
  pub taken_refused : (n : ℕ) (o : Octets) → refused_at n o ≡ verdict_of (file_of more all) → record { answer = refused_at n o; heads = heads; contents = contents } ≡ taken_over more all heads contents
  unfolding taken_over judged_adding
  taken_refused n o e = rw (← e)

  pub taken_given : (c : RecordCount) (hs cs : List ℕ) → given c ≡ verdict_of (file_of more all) → ((i : ℕ) → get_or more i 0 < 256) → length heads ≡ 40960 → length more % 10 ≡ 0 → length all ≤ length contents → hs ≡ spliced heads 0 more → cs ≡ spliced contents 0 all → record { answer = given (record { records = c; octets = in_octets (length all) }); heads = hs; contents = cs } ≡ taken_over more all heads contents
  unfolding taken_over judged_adding
  taken_given c hs cs e octets h m d p q =
      let few : length more / 10 ≤ 4096 = (accepted_body more all c (sym e)).0 in
      rw (← e, p, q, spliced_front heads more (omega arith), spliced_front contents all d)

-- the place found, and the head inserted there
pub added_to : (head content list_heads list_contents heads contents front : List ℕ) (k : ℕ) (p : Place) → k ≡ rank_of (take 7 head) → p ≡ place_of k list_heads → front ≡ inserted list_heads p.head head → taken_over front (inserted list_contents p.from content) heads contents ≡ adding_head head content list_heads list_contents heads contents
unfolding adding_head heads_with contents_with
added_to head content list_heads list_contents heads contents front k p e q f = rw (f, q, e)
