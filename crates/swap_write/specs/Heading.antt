-- What a head with its data makes of a record, item by item, each judged as in a file (01, Swap file).
use Rattle.std.specs.Prelude.{Result, Ok, Err, ℕ, ◌+◌, cond, List, leb, length, get_or, take}
use Rattle.numbers.specs.Counts.{in_octets}
use Rattle.number.specs.Groups.{encoded}
use Rattle.swap.specs.declared.kind.Kind.{Kind}
use Rattle.swap.specs.Record.{known_kind, kind_of, length_limit, rank_of}
use Rattle.swap.specs.Items.{good_content}
use Rattle.numbers.specs.declared.Octets.{Octets}
use Rattle.swap_write.specs.declared.judge.BadItem.{BadItem}
use Rattle.swap_write.specs.Heads.{head_length}

-- length and data
unfoldable pub data_judged : Kind → ℕ → List ℕ → Result Octets BadItem
data_judged kind n contents =
    cond (leb n (length_limit kind)) (cond (good_content kind n contents) (Ok (in_octets n)) (Err (record { 0 = in_octets (8 + length (encoded n)) }))) (Err (record { 0 = in_octets 8 }))

-- the record of the head at the front, which may have no lower rank than the least, with its data at the front of the contents
unfoldable pub head_judged : ℕ → List ℕ → List ℕ → Result Octets BadItem
head_judged least heads contents =
    cond (leb least (rank_of (take 7 heads)))
    (cond (known_kind (get_or heads 7 0)) (data_judged (kind_of (get_or heads 7 0)) (head_length heads) contents) (Err (record { 0 = in_octets 7 })))
    (Err (record { 0 = in_octets 0 }))
