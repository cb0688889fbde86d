-- What the old reader does at a kind that holds 2 (02, E10: "An old reader that meets kind 2 gives 18 at that kind").
use Rattle.std.specs.Prelude.{ℕ, ◌+◌, ◌≤◌, ◌<◌, ◌≡◌, true, List, [], ◌∷◌, ◌++◌, length, get_or}
use Rattle.number.specs.Groups.{encoded}
use Rattle.swap.specs.Record.{Record, Sound, Each, Rising, count_limit, file_limit}
use Rattle.swap.specs.Encoding.{records_octets}
use Rattle.swap.specs.Reading.{FileListing, faulty}
use Rattle.swap.specs.Faults.{kind_due, Reached}
use Rattle.swap_before.specs.Before.{known_before}

-- 02, E10: "a raw kind, 2"
abbrev pub long_kind : ℕ
long_kind = 2

-- what a reader of the file s comes to is 18 at a kind that holds 2, and each item before that kind is good
pub record StopsAtLong (s : List ℕ) (out : FileListing) : Type 0 where
  pub at : ℕ
  pub stops : out ≡ faulty at
  -- how many records follow, and the rank of the one that the kind is of
  pub more : ℕ
  pub rank : ℕ
  pub reached : Reached s (kind_due more rank) at
  pub kind : get_or s at 0 ≡ long_kind

-- a record of a kind that the old reader knows
abbrev pub OfOldKind : Record → Type 0
OfOldKind r = known_before r.kind ≡ true

-- a file in which kind 2 is met at an offset: the records before it are good and of old kinds, so is its own address with TAB, and anything may follow it; of the record next only the address with TAB play a part
pub record MeetsLong (s : List ℕ) (at : ℕ) : Type 0 where
  pub count : ℕ
  pub earlier : List Record
  pub next : Record
  pub later : List ℕ
  pub octets : s ≡ encoded count ++ (records_octets earlier ++ (next.ads ++ next.tab ∷ long_kind ∷ later))
  pub place : at ≡ length (encoded count) + length (records_octets earlier) + 7
  pub small : length s ≤ file_limit
  pub few : count ≤ count_limit
  pub due : length earlier < count
  pub sound : Each Sound earlier
  pub old : Each OfOldKind earlier
  pub address : length next.ads ≡ 6
  pub rising : Rising 0 (earlier ++ next ∷ [])
