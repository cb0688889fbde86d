-- The items of a record, in file order, judged by the octets from each item's start on (01, Swap file). An item cut by the end is bad.
use Rattle.std.specs.Prelude.{ℕ, ◌+◌, Bool, cond, ◌&&◌, List, leb, ltb, length, get_or, take, drop}
use Rattle.number.specs.Groups.{Front, found, none, front_number}
use Rattle.swap.specs.declared.kind.Kind.{Kind}
use Rattle.swap.specs.Record.{Record, known_kind, kind_of, length_limit, fits_kind, rank_of}

-- address with TAB: seven octets, no lower than the least rank that may stand here
unfoldable pub good_address : ℕ → List ℕ → Bool
good_address least s = leb 7 (length s) && leb least (rank_of (take 7 s))

unfoldable pub good_kind : List ℕ → Bool
good_kind s = ltb 0 (length s) && known_kind (get_or s 0 0)

-- a number at the front that is within a limit
unfoldable pub limited : ℕ → Front → Front
limited most (found n w) = cond (leb n most) (found n w) none
limited most none = none

unfoldable pub length_field : Kind → List ℕ → Front
length_field kind s = limited (length_limit kind) (front_number s)

unfoldable pub good_content : Kind → ℕ → List ℕ → Bool
good_content kind n s = leb n (length s) && fits_kind kind (take n s)

-- what the octets from a record's start on show: the first bad item's place, or how many octets the length takes, and the length
pub data Judged : Type 0 where
  bad : ℕ → Judged
  good : ℕ → ℕ → Judged

unfoldable pub judged_content : Kind → Front → List ℕ → Judged
judged_content kind none s = bad 8
judged_content kind (found n w) s = cond (good_content kind n (drop w s)) (good w n) (bad (8 + w))

unfoldable pub judged : ℕ → List ℕ → Judged
judged least s =
    cond (good_address least s)
    (cond (good_kind (drop 7 s)) (judged_content (kind_of (get_or s 7 0)) (length_field (kind_of (get_or s 7 0)) (drop 8 s)) (drop 8 s)) (bad 7))
    (bad 0)

-- the record at the front, whose length takes w octets and is n
unfoldable pub front_record : ℕ → ℕ → List ℕ → Record
front_record w n s = record { ads = take 6 s; tab = get_or s 6 0; kind = get_or s 7 0; content = take n (drop (8 + w) s) }
