-- The records of one station in a swap file, all of them or those to program (00: "the same tool programs it from that file").
use Rattle.std.specs.Prelude.{ℕ, zero, suc, ◌≡◌, Bool, true, cond, ◌&&◌, List, [], ◌∷◌, leb}
use Rattle.octets.specs.Part.{same}
use Rattle.swap.specs.declared.item.Entry.{Entry}
use Rattle.swap.specs.declared.cursor.Cursor.{Cursor}
use Rattle.swap.specs.declared.station.Asked.{Asked}
use Rattle.swap.specs.declared.station.Asked.TheVariants.{Every, ToProgram}
use Rattle.swap.specs.declared.kind.Kind.TheVariants.{Long}
use Rattle.swap.specs.Record.{Record, kind_octet, kind_of}
use Rattle.numbers.specs.Answer.{Answer, given, refused, refused_at}
use Rattle.swap.specs.Cursor.{Standing, record_here, file_end, next_at, ads_of}

-- which kinds are asked for, by their octet; 02, E10: "The tool passes over long records when it programs", and kinds 0 and 1 it takes
unfoldable pub asks : Asked → ℕ → Bool
asks Every kind = true
asks ToProgram kind = leb kind 1

-- what stands at a cursor, if it is wanted; else the answer from the cursor after it on
unfoldable pub chosen : (Entry → Bool) → (Cursor → Answer Standing) → Answer Standing → Answer Standing
chosen wanted later (given file_end) = given file_end
chosen wanted later (given (record_here entry after)) = cond (wanted entry) (given (record_here entry after)) (later after)
chosen wanted later (refused n) = refused n
chosen wanted later (refused_at n offset) = refused_at n offset

-- the first wanted record among the next so many
unfoldable pub first_of : ℕ → (Entry → Bool) → List ℕ → Cursor → Answer Standing
first_of zero wanted s c = given file_end
first_of (suc k) wanted s c = chosen wanted (first_of k wanted s) (next_at s c)

-- an entry of the file is the station's, and of a kind that is asked for
unfoldable pub wanted_entry : Asked → List ℕ → List ℕ → Entry → Bool
wanted_entry asked ads s e = same (ads_of s e) ads && asks asked (kind_octet e.kind)

-- the first record that is wanted, from a cursor on: the end where none is left, 18 where no record of the file stands on the way
unfoldable pub next_asked : Asked → List ℕ → List ℕ → Cursor → Answer Standing
next_asked asked ads s c = first_of c.left.0 (wanted_entry asked ads s) s c

abbrev pub next_for : List ℕ → List ℕ → Cursor → Answer Standing
next_for ads s c = next_asked Every ads s c

abbrev pub next_to_program : List ℕ → List ℕ → Cursor → Answer Standing
next_to_program ads s c = next_asked ToProgram ads s c

-- a record is the station's, and of a kind that is asked for
unfoldable pub wanted_record : Asked → List ℕ → Record → Bool
wanted_record asked ads r = same r.ads ads && asks asked r.kind

-- the records that are wanted, in their order
unfoldable pub records_asked : Asked → List ℕ → List Record → List Record
records_asked asked ads [] = []
records_asked asked ads (r ∷ rs) = cond (wanted_record asked ads r) (r ∷ records_asked asked ads rs) (records_asked asked ads rs)

-- the second are all those of the first that have a property, and no others, in their order
pub data Those (P : Record → Type 0) : List Record → List Record → Type 0 where
  none : Those P [] []
  kept : {r : Record} {rs qs : List Record} → P r → Those P rs qs → Those P (r ∷ rs) (r ∷ qs)
  left_out : {r : Record} {rs qs : List Record} → (P r → ⊥) → Those P rs qs → Those P (r ∷ rs) qs

-- a record is the station's
abbrev pub OfStation : List ℕ → Record → Type 0
OfStation ads r = r.ads ≡ ads

-- a record is the station's, and not a long one
abbrev pub ToBeProgrammed : List ℕ → Record → Type 0
ToBeProgrammed ads r = (r.ads ≡ ads) × (kind_of r.kind ≡ Long → ⊥)
