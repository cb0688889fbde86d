-- The loop that judges the heads: what it has counted and the octets of the heads left make up the verdict on the would-be file.
use Prim.Native.Nat.{ℕ, zero, suc, ◌+◌, ◌-◌, ◌*◌, ◌/◌, ◌^◌, ◌≤◌, ◌<◌}
use mathlib.Core.Path.{◌≡◌, refl, sym, ap, ◌∙◌}
use mathlib.Core.List.{List, [], ◌∷◌, ◌++◌}
use native.Mathlib.Numerals.{add-one}
use native.Mathlib.Omega.{arith}
use lib.ListN.{length, get_or, take, drop, length-append, length-drop}
use lib.Seq.{drop_at}
use mathlib.Core.Bool.{Bool, true, false}
use lib.Dec.{ltb, lit<}
use Rattle.numbers.specs.Counts.{in_octets}
use Rattle.numbers.specs.Answer.{Answer, given, refused_at}
use Rattle.numbers.specs.Table.{faulty_file}
use Rattle.number.specs.Groups.{encoded}
use Rattle.number.proofs.Fronts.{front_encoded}
use Rattle.swap.specs.declared.file.RecordCount.{RecordCount}
use Rattle.swap.specs.Record.{rank_of, file_limit, count_limit}
use Rattle.swap.specs.Items.{judged, bad, good}
use Rattle.octets.proofs.Below.{Below-drop}
use Rattle.swap.specs.Reading.{faulty, listed, read_records, answer_of_listing, in_record_count, verdict_of}
use Rattle.number.proofs.Forms.{front_form}
use Rattle.swap.proofs.Verdicts.{verdict_many, verdict_none, verdict_records}
use Rattle.swap.proofs.Tally.{tallied, tallied_none, tallied_more, records_bad, records_good}
use Rattle.std.specs.Prelude.{Ok, Err}
use Rattle.swap_write.specs.Heads.{head_length, body_of, file_of}
use Rattle.swap_write.specs.Heading.{head_judged}
use Rattle.swap_write.proofs.Body.{as_judged, body_judged, body_rank, body_next, length_next, head_good}

-- two octets make a length below 2^16
pub length_small : (hs : List ℕ) → ((i : ℕ) → get_or hs i 0 < 256) → head_length hs < 2 ^ 16
unfolding head_length
length_small hs b = omega (arith, b 8, b 9)

-- where the loop stands, with these heads and data left; the verdict that it is to give is v
pub record Judging (count : ℕ) (v : Answer RecordCount) (hs ds : List ℕ) (at left least : ℕ) : Type 0 where
  pub octets : (i : ℕ) → get_or hs i 0 < 256
  pub counted : left ≤ count
  pub heads : left * 10 ≤ length hs
  pub small : at + length (body_of left hs ds) ≤ file_limit
  pub due : v ≡ tallied (count - left) (read_records left least at (body_of left hs ds))

pub judging_start : (hs ds : List ℕ) (count : ℕ) → ((i : ℕ) → get_or hs i 0 < 256) → count * 10 ≤ length hs → length (encoded count) + length (body_of count hs ds) ≤ file_limit → Judging count (answer_of_listing (read_records count 0 (length (encoded count)) (body_of count hs ds))) hs ds (length (encoded count)) count 0
judging_start hs ds count octets h s =
    let z : count - count ≡ 0 = omega arith in
    record {
      octets = octets;
      counted = omega arith;
      heads = h;
      small = s;
      due = rw z (sym (tallied_none (read_records count 0 (length (encoded count)) (body_of count hs ds))));
    }

rest_bad : (least at : ℕ) (t : List ℕ) → 0 < length t → read_records 0 least at t ≡ faulty at
unfolding read_records
rest_bad least at [] h = let z : ⊥ = omega arith in absurd z
rest_bad least at (o ∷ t) h = refl

rest_none : (least at : ℕ) (t : List ℕ) → length t ≡ 0 → read_records 0 least at t ≡ listed []
unfolding read_records
rest_none least at [] h = refl
rest_none least at (o ∷ t) h = let z : ⊥ = omega arith in absurd z

module _ (count : ℕ) (v : Answer RecordCount) (hs ds : List ℕ) (at : ℕ) where
  module _ (left least : ℕ) (j : Judging count v hs ds at (suc left) least) where
    ten : 10 ≤ length hs
    ten = omega (arith, j.heads)

    within : head_length hs < 2 ^ 32
    within = omega (arith, length_small hs j.octets)

    bad_head : (o : ℕ) → head_judged least hs ds ≡ Err (record { 0 = in_octets o }) → refused_at faulty_file (in_octets (at + o)) ≡ v
    unfolding tallied
    bad_head o e =
        let B : List ℕ = body_of (suc left) hs ds in
        let q : judged least B ≡ bad o = body_judged left hs ds ten within least ∙ ap as_judged e in
        sym (j.due ∙ rw (records_bad left least at B o q))

    good_head : (n : ℕ) → head_judged least hs ds ≡ Ok (in_octets n) → Judging count v (drop 10 hs) (drop n ds) (at + (8 + length (encoded n) + n)) left (rank_of (take 7 hs) + 1)
    good_head n e =
        let B : List ℕ = body_of (suc left) hs ds in
        let g = head_good least hs ds n e in
        let q : judged least B ≡ good (length (encoded n)) n = body_judged left hs ds ten within least ∙ ap as_judged e in
        let k : count - suc left + 1 ≡ count - left = omega (arith, j.counted) in
        let next : drop (8 + length (encoded n) + n) B ≡ body_of left (drop 10 hs) (drop n ds) = rw g.0 (body_next left hs ds ten within g.1) in
        record {
          octets = Below-drop 256 (lit< tt) 10 hs j.octets;
          counted = omega (arith, j.counted);
          heads = omega (arith, j.heads, length-drop 10 hs);
          small = rw (← next) (omega (arith, j.small, length-drop (8 + length (encoded n) + n) B, rw (← g.0) at (length_next left hs ds ten within g.1)));
          due =
              j.due
              ∙ ap (tallied (count - suc left)) (records_good left least at B (length (encoded n)) n q)
              ∙ tallied_more (count - suc left) _ _
              ∙ rw (k, next, body_rank left hs ds ten within, add-one);
        }

  pub Judging-bad : (left least o : ℕ) → Judging count v hs ds at left least → 0 < left → head_judged least hs ds ≡ Err (record { 0 = in_octets o }) → refused_at faulty_file (in_octets (at + o)) ≡ v
  Judging-bad zero least o j h e = let z : ⊥ = omega arith in absurd z
  Judging-bad (suc left) least o j h e = bad_head left least j o e

  pub Judging-good : (left least n : ℕ) → Judging count v hs ds at left least → 0 < left → head_judged least hs ds ≡ Ok (in_octets n) → Judging count v (drop 10 hs) (drop n ds) (at + (8 + length (encoded n) + n)) (left - 1) (rank_of (take 7 hs) + 1)
  Judging-good zero least n j h e = let z : ⊥ = omega arith in absurd z
  Judging-good (suc left) least n j h e =
      let l : suc left - 1 ≡ left = omega arith in
      rw l (good_head left least j n e)

  pub judging_left_over : (least : ℕ) → Judging count v hs ds at 0 least → 0 < length hs + length ds → refused_at faulty_file (in_octets at) ≡ v
  unfolding tallied body_of
  judging_left_over least j h =
      sym (j.due ∙ rw (rest_bad least at (hs ++ ds) (omega (arith, length-append hs ds))))

  pub judging_done : (least : ℕ) → Judging count v hs ds at 0 least → length hs + length ds ≡ 0 → given (in_record_count count) ≡ v
  unfolding tallied body_of
  judging_done least j h =
      let c : count - 0 + 0 ≡ count = omega arith in
      sym (j.due ∙ rw (rest_none least at (hs ++ ds) (omega (arith, length-append hs ds)), c))

-- the verdict on the would-be file, by the count of its heads
module _ (hs ds : List ℕ) (small : length (file_of hs ds) ≤ file_limit) where
  pub file_many : count_limit < length hs / 10 → refused_at faulty_file (in_octets 0) ≡ verdict_of (file_of hs ds)
  unfolding file_of
  file_many h = go (ltb n (2 ^ 32)) refl
    where
      n : ℕ
      n = length hs / 10

      F : List ℕ
      F = encoded n ++ body_of n hs ds

      go : (b : Bool) → ltb n (2 ^ 32) ≡ b → refused_at faulty_file (in_octets 0) ≡ verdict_of F
      go true e = verdict_many F small n (length (encoded n)) (front_encoded n (body_of n hs ds) ∙ rw e) h
      go false e = verdict_none F small (front_encoded n (body_of n hs ds) ∙ rw e)

  pub file_records : length hs / 10 ≤ count_limit → answer_of_listing (read_records (length hs / 10) 0 (length (encoded (length hs / 10))) (body_of (length hs / 10) hs ds)) ≡ verdict_of (file_of hs ds)
  unfolding file_of
  file_records h =
      let n : ℕ = length hs / 10 in
      let w : ℕ = length (encoded n) in
      ap (λ (t : List ℕ). answer_of_listing (read_records n 0 w t)) (sym (drop_at (encoded n) (body_of n hs ds) w refl))
      ∙ verdict_records (encoded n ++ body_of n hs ds) small n w (front_form n (body_of n hs ds) (omega arith)) h
