-- The reader before 02's E10, by 01 alone (Swap file): kinds 0 and 1, each of 0 to 116 octets. Shared is what E10 leaves as it was: the address with TAB and its rank, a number's form, well-formed text, the limits of count and file,
-- and how a record and a listing are put together.
use Rattle.std.specs.Prelude.{ℕ, zero, suc, ◌+◌, Bool, true, cond, ◌&&◌, List, [], ◌∷◌, leb, ltb, eqb, length, get_or, take, drop}
use Rattle.label.specs.Utf8.{well_formed}
use Rattle.number.specs.Groups.{Front, found, none, front_number}
use Rattle.swap.specs.Record.{rank_of, count_limit, file_limit}
use Rattle.swap.specs.Items.{Judged, bad, good, good_address, limited, front_record}
use Rattle.swap.specs.Reading.{FileListing, faulty, listed, preceded}

-- 01, Swap file: "kind 1 (0 raw, 1 label)"
unfoldable pub known_before : ℕ → Bool
known_before octet = leb octet 1

-- 01, Swap file: "length 0 to 116"
abbrev pub length_limit_before : ℕ
length_limit_before = 116

-- 01, Swap file: "label data is well-formed"
unfoldable pub fits_before : ℕ → List ℕ → Bool
fits_before kind content = cond (eqb kind 1) (well_formed content) true

-- the length that was read, and the data
unfoldable pub content_before : ℕ → Front → List ℕ → Judged
content_before kind none s = bad 8
content_before kind (found n w) s = cond (leb n (length (drop w s)) && fits_before kind (take n (drop w s))) (good w n) (bad (8 + w))

unfoldable pub judged_before : ℕ → List ℕ → Judged
judged_before least s =
    cond (good_address least s)
    (cond (ltb 0 (length (drop 7 s)) && known_before (get_or s 7 0)) (content_before (get_or s 7 0) (limited length_limit_before (front_number (drop 8 s))) (drop 8 s)) (bad 7))
    (bad 0)

unfoldable pub read_records_before : ℕ → ℕ → ℕ → List ℕ → FileListing
read_records_before zero least at [] = listed []
read_records_before zero least at (o ∷ s) = faulty at
read_records_before (suc k) least at s =
    elim (judged_before least s) [
      | bad o ↦ faulty (at + o)
      | good w n ↦ preceded (front_record w n s) (read_records_before k (suc (rank_of (take 7 s))) (at + (8 + w + n)) (drop (8 + w + n) s))
    ]

unfoldable pub read_counted_before : Front → List ℕ → FileListing
read_counted_before none s = faulty 0
read_counted_before (found n w) s = read_records_before n 0 w (drop w s)

-- the records of a file, or the offset at which the old reader gives 18
unfoldable pub read_before : List ℕ → FileListing
read_before s = cond (ltb file_limit (length s)) (faulty file_limit) (read_counted_before (limited count_limit (front_number s)) s)
