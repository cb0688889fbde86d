-- Which records of a station each of the two calls gives, by what a record is and not by the search's test (00; 02, E10).
use Prim.Native.Nat.{ℕ, ◌<◌}
use mathlib.Core.Path.{◌≡◌, refl, sym, ◌∙◌}
use mathlib.Core.Bool.{Bool, true, false, cond, and-eq-true_iff, false≢true}
use mathlib.Core.List.{List, ◌∷◌}
use mathlib.Core.Logic.{◌⊎◌, inl, inr}
use lib.ListN.{get_or}
use lib.Dec.{leb}
use Rattle.numbers.specs.Answer.{given}
use Rattle.octets.specs.Part.{same}
use Rattle.octets.proofs.Same.{same_self, same_equal}
use Rattle.swap.specs.declared.kind.Kind.TheVariants.{Long}
use Rattle.swap.specs.declared.cursor.Cursor.{Cursor}
use Rattle.swap.specs.declared.station.Asked.{Asked}
use Rattle.swap.specs.declared.station.Asked.TheVariants.{Every, ToProgram}
use Rattle.swap.specs.Record.{Record, Sound, Each, kind_of}
use Rattle.swap.specs.Reading.{listed, read_file}
use Rattle.swap.specs.Cursor.{start_of, GivesAll}
use Rattle.swap.specs.Station.{asks, wanted_record, next_for, next_to_program, records_asked, Those, OfStation, ToBeProgrammed}
use Rattle.swap.proofs.KindOctets.{long_or_not}
use Rattle.swap.proofs.RoundTrip.{read_encode}
use Rattle.swap.proofs.Stations.{started_gives}

-- the records that are asked for are those with a property, if the test of a sound record tells it
module _ (asked : Asked) (ads : List ℕ) (P : Record → Type 0) (yes : (r : Record) → Sound r → wanted_record asked ads r ≡ true → P r) (no : (r : Record) → Sound r → wanted_record asked ads r ≡ false → P r → ⊥) where
  those_asked : {rs : List Record} → Each Sound rs → Those P rs (records_asked asked ads rs)
  unfolding records_asked
  those_asked Each.none = Those.none
  those_asked (Each.more {r = r} {rs = rs} p s) = go (wanted_record asked ads r) refl (those_asked s)
    where
      go : (b : Bool) → wanted_record asked ads r ≡ b → Those P rs (records_asked asked ads rs) → Those P (r ∷ rs) (cond b (r ∷ records_asked asked ads rs) (records_asked asked ads rs))
      go true e more = Those.kept (yes r p e) more
      go false e more = Those.left_out (no r p e) more

module _ (ads : List ℕ) (r : Record) where
  -- a record of the station passes the test of ADS
  same_ads : OfStation ads r → same r.ads ads ≡ true
  same_ads e = rw e (same_self ads)

  every_yes : Sound r → wanted_record Every ads r ≡ true → OfStation ads r
  unfolding wanted_record asks
  every_yes sound e = same_equal r.ads ads ((and-eq-true_iff (same r.ads ads) true).0 e).0

  every_no : Sound r → wanted_record Every ads r ≡ false → OfStation ads r → ⊥
  unfolding wanted_record asks
  every_no sound e p = false≢true (sym e ∙ rw (same_ads p))

  program_yes : Sound r → wanted_record ToProgram ads r ≡ true → ToBeProgrammed ads r
  unfolding wanted_record asks
  program_yes sound e =
      let t = (and-eq-true_iff (same r.ads ads) (leb r.kind 1)).0 e in
      (same_equal r.ads ads t.0, go (long_or_not r.kind sound.known) t.1)
    where
      go : ((leb r.kind 1 ≡ true) × (kind_of r.kind ≡ Long → ⊥)) ⊎ ((leb r.kind 1 ≡ false) × (kind_of r.kind ≡ Long)) → leb r.kind 1 ≡ true → kind_of r.kind ≡ Long → ⊥
      go (inl k) t = k.1
      go (inr k) t = absurd (false≢true (sym k.0 ∙ t))

  program_no : Sound r → wanted_record ToProgram ads r ≡ false → ToBeProgrammed ads r → ⊥
  unfolding wanted_record asks
  program_no sound e p = go (long_or_not r.kind sound.known)
    where
      go : ((leb r.kind 1 ≡ true) × (kind_of r.kind ≡ Long → ⊥)) ⊎ ((leb r.kind 1 ≡ false) × (kind_of r.kind ≡ Long)) → ⊥
      go (inl k) = false≢true (sym e ∙ rw (same_ads p.0, k.0))
      go (inr k) = p.1 k.1

module _ (ads s : List ℕ) (c : Cursor) (octets : (i : ℕ) → get_or s i 0 < 256) (e : start_of s ≡ given c) where
  -- of a judged file the listing call gives all records of the station, and no others
  pub station_gives : (rs qs : List Record) × (read_file s ≡ listed rs) × Those (OfStation ads) rs qs × GivesAll (next_for ads) s c qs
  station_gives =
      let f = started_gives Every ads s c octets e in
      let sound = (read_encode s f.0 octets f.1).1.sound in
      (f.0, records_asked Every ads f.0, f.1, those_asked Every ads (OfStation ads) (every_yes ads) (every_no ads) sound, f.2)

  -- 02, E10: "The tool passes over long records when it programs": and over no others of the station's
  pub program_gives : (rs qs : List Record) × (read_file s ≡ listed rs) × Those (ToBeProgrammed ads) rs qs × GivesAll (next_to_program ads) s c qs
  program_gives =
      let f = started_gives ToProgram ads s c octets e in
      let sound = (read_encode s f.0 octets f.1).1.sound in
      (f.0, records_asked ToProgram ads f.0, f.1, those_asked ToProgram ads (ToBeProgrammed ads) (program_yes ads) (program_no ads) sound, f.2)
