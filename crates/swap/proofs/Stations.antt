-- From the cursor that starting on a file gives, a station's records that are asked for come out, all of them and no others, in the file's order, and then the end.
use Prim.Native.Nat.{ℕ, zero, suc, ◌<◌}
use mathlib.Core.Path.{◌≡◌, refl, sym, ap, ◌∙◌}
use mathlib.Core.Bool.{Bool, true, false, cond}
use mathlib.Core.List.{List, ◌∷◌}
use lib.ListN.{get_or}
use native.Mathlib.Omega.{arith}
use Rattle.numbers.specs.Answer.{Answer, given, refused, refused_at}
use Rattle.numbers.specs.Table.{faulty_file}
use Rattle.swap.specs.declared.item.Entry.{Entry}
use Rattle.swap.specs.declared.cursor.Cursor.{Cursor}
use Rattle.swap.specs.declared.station.Asked.{Asked}
use Rattle.swap.specs.Record.{Record}
use Rattle.swap.specs.Reading.{listed, read_file}
use Rattle.swap.specs.Cursor.{Standing, record_here, file_end, start_of, next_at, Shows, GivesNext, GivesAll, ended, further, Led, moved}
use Rattle.swap.specs.Station.{chosen, first_of, wanted_entry, wanted_record, next_asked, records_asked}
use Rattle.swap.proofs.Walking.{next_left, started_gives_all, led_gives_all}
use Rattle.swap.proofs.Searching.{first_end, first_none, first_found, first_other}

module _ (asked : Asked) (ads s : List ℕ) where
  -- an entry is wanted exactly if the record is that it stands for
  entry_record : (e : Entry) (r : Record) → Shows s e r → wanted_entry asked ads s e ≡ wanted_record asked ads r
  unfolding wanted_entry wanted_record
  entry_record e r h = rw (h.ads, h.kind)

  module _ (c after : Cursor) (r : Record) (g : GivesNext next_at s c r after) where
    -- the record at the cursor is wanted
    found : wanted_record asked ads r ≡ true → GivesNext (next_asked asked ads) s c r after
    found e =
        record {
          entry = g.entry;
          here = sym (first_found asked ads s c g.entry after g.here (entry_record g.entry r g.shows ∙ e));
          shows = g.shows;
        }

    -- another is passed over
    passed : wanted_record asked ads r ≡ false → next_asked asked ads s c ≡ next_asked asked ads s after
    passed e = first_other asked ads s c g.entry after g.here (entry_record g.entry r g.shows ∙ e)

  -- a cursor that answers as another gives the same records
  from_there : (c d : Cursor) (rs : List Record) → next_asked asked ads s c ≡ next_asked asked ads s d → GivesAll (next_asked asked ads) s d rs → GivesAll (next_asked asked ads) s c rs
  from_there c d rs p (ended e) = ended (p ∙ e)
  from_there c d rs p (further g m) = further (record { entry = g.entry; here = p ∙ g.here; shows = g.shows }) m

  -- one record in its turn, with those that are asked for after it
  turn : (c after : Cursor) (r : Record) (qs : List Record) → GivesNext next_at s c r after → GivesAll (next_asked asked ads) s after (records_asked asked ads qs) → GivesAll (next_asked asked ads) s c (records_asked asked ads (r ∷ qs))
  unfolding records_asked
  turn c after r qs g more = go (wanted_record asked ads r) refl
    where
      go : (b : Bool) → wanted_record asked ads r ≡ b → GivesAll (next_asked asked ads) s c (records_asked asked ads (r ∷ qs))
      go true q = rw q (further (found c after r g q) more)
      go false q = rw q (from_there c after _ (passed c after r g q) more)

  -- of the records that a file gives from a cursor on, those that are asked for
  pub all_turns : {c : Cursor} {rs : List Record} → GivesAll next_at s c rs → GivesAll (next_asked asked ads) s c (records_asked asked ads rs)
  unfolding records_asked
  all_turns {c} (ended e) = ended (sym (first_end asked ads s c e))
  all_turns {c} (further {after = after} {r = r} {rs = rs} g m) = turn c after r rs g (all_turns m)

  -- from the start of a file that was judged
  pub started_gives : (c : Cursor) → ((i : ℕ) → get_or s i 0 < 256) → start_of s ≡ given c → (rs : List Record) × (read_file s ≡ listed rs) × GivesAll (next_asked asked ads) s c (records_asked asked ads rs)
  started_gives c octets e =
      let f = started_gives_all s c octets e in
      (f.0, f.1, all_turns f.2)

  -- and from there on the search is never refused
  pub led_asked : {c : Cursor} → ((i : ℕ) → get_or s i 0 < 256) → Led s c → (standing : Standing) × (next_asked asked ads s c ≡ given standing)
  led_asked octets led = go (all_turns (led_gives_all s octets led).1)
    where
      go : {c : Cursor} {rs : List Record} → GivesAll (next_asked asked ads) s c rs → (standing : Standing) × (next_asked asked ads s c ≡ given standing)
      go (ended e) = (file_end, e)
      go (further {after = after} g m) = (record_here g.entry after, g.here)

  -- and a cursor that it gives is as good as those before it, for each of the calls
  pub led_on : {c after : Cursor} {e : Entry} → Led s c → next_asked asked ads s c ≡ given (record_here e after) → Led s after
  unfolding next_asked first_of chosen
  led_on {c} {after} {e} led h = go c.left.0 c led h
    where
      go : (k : ℕ) (c : Cursor) → Led s c → first_of k (wanted_entry asked ads s) s c ≡ given (record_here e after) → Led s after
      go zero c led h = let z : ◌≡◌ {A = ℕ} 0 1 = cc in let y : ⊥ = omega arith in absurd y
      go (suc k) c led h = step (next_at s c) refl h (go k)
        where
          Later : Type 0
          Later = (d : Cursor) → Led s d → first_of k (wanted_entry asked ads s) s d ≡ given (record_here e after) → Led s after

          step : (a : Answer Standing) → next_at s c ≡ a → chosen (wanted_entry asked ads s) (first_of k (wanted_entry asked ads s) s) a ≡ given (record_here e after) → Later → Led s after
          step (given file_end) p q ih = let z : ◌≡◌ {A = ℕ} 0 1 = cc in let y : ⊥ = omega arith in absurd y
          step (given (record_here f d)) p q ih = test (wanted_entry asked ads s f) q
            where
              test : (b : Bool) → cond b (given (record_here f d)) (first_of k (wanted_entry asked ads s) s d) ≡ given (record_here e after) → Led s after
              test true r = let same : d ≡ after = cc in rw (← same) (moved led p)
              test false r = ih d (moved led p) r
          step (refused n) p q ih = let z : ◌≡◌ {A = ℕ} 0 1 = cc in let y : ⊥ = omega arith in absurd y
          step (refused_at n o) p q ih = let z : ◌≡◌ {A = ℕ} 0 1 = cc in let y : ⊥ = omega arith in absurd y

  -- a cursor at which no record of the file stands is none for a search either
  pub refused_there : (c : Cursor) → next_at s c ≡ refused faulty_file → next_asked asked ads s c ≡ refused faulty_file
  refused_there c e = sym (first_none asked ads s c e)

  -- what it gives leaves fewer records than there were, so that one search after another comes to an end
  pub asked_left : (c : Cursor) (e : Entry) (after : Cursor) → next_asked asked ads s c ≡ given (record_here e after) → after.left.0 < c.left.0
  unfolding next_asked first_of chosen
  asked_left c e after h = go c.left.0 c h
    where
      go : (k : ℕ) (c : Cursor) → first_of k (wanted_entry asked ads s) s c ≡ given (record_here e after) → after.left.0 < c.left.0
      go zero c h = let z : ◌≡◌ {A = ℕ} 0 1 = cc in let y : ⊥ = omega arith in absurd y
      go (suc k) c h = step (next_at s c) refl h (go k)
        where
          Later : Type 0
          Later = (d : Cursor) → first_of k (wanted_entry asked ads s) s d ≡ given (record_here e after) → after.left.0 < d.left.0

          step : (a : Answer Standing) → next_at s c ≡ a → chosen (wanted_entry asked ads s) (first_of k (wanted_entry asked ads s) s) a ≡ given (record_here e after) → Later → after.left.0 < c.left.0
          step (given file_end) p q ih = let z : ◌≡◌ {A = ℕ} 0 1 = cc in let y : ⊥ = omega arith in absurd y
          step (given (record_here f d)) p q ih = test (wanted_entry asked ads s f) q
            where
              test : (b : Bool) → cond b (given (record_here f d)) (first_of k (wanted_entry asked ads s) s d) ≡ given (record_here e after) → after.left.0 < c.left.0
              test true r =
                  let same : d ≡ after = cc in
                  let l : d.left.0 ≡ after.left.0 = ap (λ (x : Cursor). x.left.0) same in
                  omega (arith, next_left s c f d p)
              test false r = omega (arith, next_left s c f d p, ih d r)
          step (refused n) p q ih = let z : ◌≡◌ {A = ℕ} 0 1 = cc in let y : ⊥ = omega arith in absurd y
          step (refused_at n o) p q ih = let z : ◌≡◌ {A = ℕ} 0 1 = cc in let y : ⊥ = omega arith in absurd y
