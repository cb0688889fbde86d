-- The items of a file one after the other: which item is due, and that all before it are good (01, Swap file).
use Rattle.std.specs.Prelude.{ℕ, zero, suc, ◌+◌, ◌≡◌, cond, List, [], ◌∷◌, get_or, take, drop}
use Rattle.number.specs.Groups.{Front, found, none, front_number}
use Rattle.swap.specs.declared.kind.Kind.{Kind}
use Rattle.swap.specs.Record.{kind_of, rank_of, count_limit}
use Rattle.swap.specs.Items.{good_address, good_kind, good_content, length_field, limited}

-- the item that is due, with what the items before it told: how many records follow this one, the least rank or this record's, its kind, its length
pub data Due : Type 0 where
  count_due : Due
  address_due : ℕ → ℕ → Due
  kind_due : ℕ → ℕ → Due
  length_due : ℕ → ℕ → Kind → Due
  content_due : ℕ → ℕ → Kind → ℕ → Due
  rest_due : Due

-- what an item is: bad, or good, with how many octets it takes and the item due after it, or the end of the file
pub data ItemStep : Type 0 where
  bad_item : ItemStep
  good_item : ℕ → Due → ItemStep
  file_end : ItemStep

-- so many records more, from a least rank on
unfoldable pub records_due : ℕ → ℕ → Due
records_due zero least = rest_due
records_due (suc k) least = address_due k least

unfoldable pub count_read : Front → ItemStep
count_read none = bad_item
count_read (found n w) = good_item w (records_due n 0)

unfoldable pub length_read : ℕ → ℕ → Kind → Front → ItemStep
length_read k rank kind none = bad_item
length_read k rank kind (found n w) = good_item w (content_due k rank kind n)

-- the item that is due, at the front of s
unfoldable pub item : Due → List ℕ → ItemStep
item count_due s = count_read (limited count_limit (front_number s))
item (address_due k least) s = cond (good_address least s) (good_item 7 (kind_due k (rank_of (take 7 s)))) bad_item
item (kind_due k rank) s = cond (good_kind s) (good_item 1 (length_due k rank (kind_of (get_or s 0 0)))) bad_item
item (length_due k rank kind) s = length_read k rank kind (length_field kind s)
item (content_due k rank kind n) s = cond (good_content kind n s) (good_item n (records_due k (suc rank))) bad_item
item rest_due [] = file_end
item rest_due (o ∷ s) = bad_item

-- in s the item is due at this offset, and each item before it is good
pub data Reached (s : List ℕ) : Due → ℕ → Type 0 where
  first : Reached s count_due 0
  passed : {d next : Due} {at w : ℕ} → Reached s d at → item d (drop at s) ≡ good_item w next → Reached s next (at + w)
