-- The verdict by the file's length and its count.
use Prim.Native.Nat.{ℕ, ◌≤◌, ◌<◌}
use mathlib.Core.Path.{◌≡◌, refl, sym, ap, ◌∙◌}
use mathlib.Core.Bool.{Bool, true, false}
use mathlib.Core.List.{List}
use native.Mathlib.Omega.{arith}
use lib.ListN.{length, drop}
use lib.Dec.{ltb}
use borrow.Author.Tests.{lt-ltb, le-ltb, le-leb, lt-leb, ltb-true, ltb-false}
use Rattle.numbers.specs.declared.Octets.{Octets}
use Rattle.numbers.specs.Counts.{in_octets}
use Rattle.numbers.specs.Answer.{given, refused_at}
use Rattle.numbers.specs.Table.{faulty_file}
use Rattle.number.specs.Groups.{Front, found, none, front_number}
use Rattle.swap.specs.declared.file.RecordCount.{RecordCount}
use Rattle.swap.specs.Record.{Record, file_limit, count_limit}
use Rattle.swap.specs.Items.{limited}
use Rattle.swap.specs.Reading.{FileListing, faulty, listed, verdict_of, read_file, read_counted, read_records, answer_of_listing, in_record_count}

module _ (s : List ℕ) where
  pub verdict_long : file_limit < length s → refused_at faulty_file (in_octets file_limit) ≡ verdict_of s
  unfolding verdict_of read_file
  verdict_long h = rw (lt-ltb file_limit (length s) h)

  module _ (h : length s ≤ file_limit) where
    pub verdict_none : front_number s ≡ none → refused_at faulty_file (in_octets 0) ≡ verdict_of s
    unfolding verdict_of read_file read_counted limited
    verdict_none e = rw (le-ltb file_limit (length s) h, e)

    pub verdict_many : (n w : ℕ) → front_number s ≡ found n w → count_limit < n → refused_at faulty_file (in_octets 0) ≡ verdict_of s
    unfolding verdict_of read_file read_counted limited
    verdict_many n w e k = rw (le-ltb file_limit (length s) h, e, lt-leb n count_limit k)

    pub verdict_records : (n w : ℕ) → front_number s ≡ found n w → n ≤ count_limit → answer_of_listing (read_records n 0 w (drop w s)) ≡ verdict_of s
    unfolding verdict_of read_file read_counted limited
    verdict_records n w e k = rw (le-ltb file_limit (length s) h, e, le-leb n count_limit k)

pub not_listed : (o : ℕ) (rs : List Record) → faulty o ≡ listed rs → ⊥
not_listed o rs e = let z : ◌≡◌ {A = ℕ} 0 1 = cc in omega arith

-- what an accepted file has: a count and so many records, within the limits
pub record Accepted (s : List ℕ) (c : RecordCount) : Type 0 where
  pub count : ℕ
  pub width : ℕ
  pub records : List Record
  pub small : length s ≤ file_limit
  pub front : front_number s ≡ found count width
  pub few : count ≤ count_limit
  pub read : read_records count 0 width (drop width s) ≡ listed records
  pub counted : length records ≡ c.0

module _ (s : List ℕ) (c : RecordCount) (e : verdict_of s ≡ given c) where
  clash : (n : ℕ) (o : Octets) → refused_at n o ≡ verdict_of s → ⊥
  clash n o q = let z : ◌≡◌ {A = ℕ} 0 1 = cc in omega arith

  -- by its length, its count and its records in turn
  module _ (h : length s ≤ file_limit) (n w : ℕ) (f : front_number s ≡ found n w) where
    by_records : n ≤ count_limit → (out : FileListing) → read_records n 0 w (drop w s) ≡ out → Accepted s c
    by_records k (faulty o) q = absurd (clash _ _ (sym (ap answer_of_listing q) ∙ verdict_records s h n w f k))
    by_records k (listed rs) q =
        let g : given (in_record_count (length rs)) ≡ given c = sym (ap answer_of_listing q) ∙ verdict_records s h n w f k ∙ e in
        let r : in_record_count (length rs) ≡ c = cc in
        record {
          count = n;
          width = w;
          records = rs;
          small = h;
          front = f;
          few = k;
          read = q;
          counted = ap (λ (x : RecordCount). x.0) r;
        }

    by_count : (b : Bool) → ltb count_limit n ≡ b → Accepted s c
    by_count true q = absurd (clash _ _ (verdict_many s h n w f (ltb-true _ _ q)))
    by_count false q = by_records (ltb-false count_limit n q) (read_records n 0 w (drop w s)) refl

  by_front : length s ≤ file_limit → (f : Front) → front_number s ≡ f → Accepted s c
  by_front h none q = absurd (clash _ _ (verdict_none s h q))
  by_front h (found n w) q = by_count h n w q (ltb count_limit n) refl

  by_length : (b : Bool) → ltb file_limit (length s) ≡ b → Accepted s c
  by_length true q = absurd (clash _ _ (verdict_long s (ltb-true _ _ q)))
  by_length false q = by_front (ltb-false _ _ q) (front_number s) refl

  pub accepted : Accepted s c
  accepted = by_length (ltb file_limit (length s)) refl
