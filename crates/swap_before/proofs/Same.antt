-- Every file is read as before, verdict, offset and records, unless the old reader stopped at a kind that holds 2 (02, E10: "Old files read as before").
use Prim.Native.Nat.{ℕ, zero, suc, ◌+◌}
use mathlib.Core.Path.{◌≡◌, refl, sym, ap, subst, ◌∙◌}
use mathlib.Core.Bool.{Bool, true, false, cond}
use mathlib.Core.List.{List, [], ◌∷◌}
use mathlib.Core.Logic.{◌⊎◌, inl, inr}
use native.Mathlib.Nat.{zero-add}
use lib.Dec.{ltb}
use lib.ListN.{length, get_or, take, drop}
use lib.Seq.{drop-drop, get_or-drop}
use Rattle.number.specs.Groups.{Front, found, none, front_number}
use Rattle.swap.specs.Record.{Record, rank_of, count_limit, file_limit}
use Rattle.swap.specs.Items.{Judged, bad, good, judged, limited, front_record}
use Rattle.swap.specs.Reading.{FileListing, faulty, listed, preceded, read_records, read_counted, read_file}
use Rattle.swap.specs.Faults.{address_due, kind_due, records_due, count_read, item, Reached, first, passed}
use Rattle.swap.proofs.Shown.{shown}
use Rattle.swap.proofs.Tally.{records_bad, records_good}
use Rattle.swap.proofs.Verdicts.{not_listed}
use Rattle.swap_before.specs.Before.{judged_before, read_records_before, read_counted_before, read_before}
use Rattle.swap_before.specs.Meeting.{long_kind, StopsAtLong}
use Rattle.swap_before.proofs.Alike.{NowLong, alike_or_long}
use Rattle.swap_before.proofs.Reaching.{kind_reached, record_reached}

-- what the old reader comes to, by what was judged of the first record
module _ (k least at : ℕ) (t : List ℕ) where
  pub before_bad : (o : ℕ) → judged_before least t ≡ bad o → read_records_before (suc k) least at t ≡ faulty (at + o)
  unfolding read_records_before
  before_bad o e = rw (e, read_records_before)

  pub before_good : (w n : ℕ) → judged_before least t ≡ good w n
      → read_records_before (suc k) least at t ≡ preceded (front_record w n t) (read_records_before k (suc (rank_of (take 7 t))) (at + (8 + w + n)) (drop (8 + w + n) t))
  unfolding read_records_before
  before_good w n e = rw (e, read_records_before)

none_same : (least at : ℕ) (t : List ℕ) → read_records_before 0 least at t ≡ read_records 0 least at t
unfolding read_records_before read_records
none_same least at [] = refl
none_same least at (o ∷ t) = refl

-- s is the whole file
module _ (s : List ℕ) where
  -- a reading that stops so does it also with a record before it
  preceded_stops : (r : Record) {out : FileListing} → StopsAtLong s out → StopsAtLong s (preceded r out)
  unfolding preceded
  preceded_stops r h =
      record { at = h.at; stops = rw h.stops; more = h.more; rank = h.rank; reached = h.reached; kind = h.kind }

  -- so many records from an offset on
  abbrev Same : ℕ → ℕ → ℕ → List ℕ → Type 0
  Same k least at t = (read_records_before k least at t ≡ read_records k least at t) ⊎ StopsAtLong s (read_records_before k least at t)

  -- a record with those after it
  module _ (k least at : ℕ) (here : Reached s (address_due k least) at) where
    stops_here : NowLong least (drop at s) → Same (suc k) least at (drop at s)
    stops_here h =
        inr (record {
          at = at + 7;
          stops = before_bad k least at (drop at s) 7 h.before;
          more = k;
          rank = rank_of (take 7 (drop at s));
          reached = kind_reached s k least at here h.address;
          kind = sym (get_or-drop at s 7 0) ∙ h.kind;
        })

    Same-bad : (o : ℕ) → judged_before least (drop at s) ≡ bad o → judged least (drop at s) ≡ bad o → Same (suc k) least at (drop at s)
    Same-bad o p q = inl (before_bad k least at (drop at s) o p ∙ sym (records_bad k least at (drop at s) o q))

    Same-good : (w n : ℕ) → judged_before least (drop at s) ≡ good w n → judged least (drop at s) ≡ good w n
        → Same k (suc (rank_of (take 7 (drop at s)))) (at + (8 + w + n)) (drop (8 + w + n) (drop at s)) → Same (suc k) least at (drop at s)
    Same-good w n p q (inl e) =
        inl (before_good k least at (drop at s) w n p ∙ ap (preceded (front_record w n (drop at s))) e ∙ sym (records_good k least at (drop at s) w n q))
    Same-good w n p q (inr h) = inr (rw (before_good k least at (drop at s) w n p) (preceded_stops (front_record w n (drop at s)) h))

  records_same : (k least at : ℕ) → Reached s (records_due k least) at → Same k least at (drop at s)
  unfolding records_due
  records_same zero least at here = inl (none_same least at (drop at s))
  records_same (suc k) least at here = go (alike_or_long least (drop at s)) (judged_before least (drop at s)) refl (records_same k)
    where
      go : (judged_before least (drop at s) ≡ judged least (drop at s)) ⊎ NowLong least (drop at s) → (j : Judged) → judged_before least (drop at s) ≡ j
          → ((least at : ℕ) → Reached s (records_due k least) at → Same k least at (drop at s)) → Same (suc k) least at (drop at s)
      go (inr h) j p ih = stops_here k least at here h
      go (inl e) (bad o) p ih = Same-bad k least at here o p (sym e ∙ p)
      go (inl e) (good w n) p ih =
          let q : judged least (drop at s) ≡ good w n = sym e ∙ p in
          let next = record_reached s k least at here w n (shown least (drop at s) w n q) in
          Same-good k least at here w n p q (rw (drop-drop (8 + w + n) at s) (ih (suc (rank_of (take 7 (drop at s)))) (at + (8 + w + n)) next))

  -- after the count the first record is due
  counted : (n w : ℕ) → limited count_limit (front_number s) ≡ found n w → Reached s (records_due n 0) w
  unfolding item count_read
  counted n w e = subst (λ (o : ℕ). Reached s (records_due n 0) o) (zero-add w) (passed {next = records_due n 0} {w = w} first (rw e))

  -- 02, E10: "Old files read as before": verdict, offset and records, unless the old reader gave 18 at a kind that holds 2
  pub same_or_long : (read_before s ≡ read_file s) ⊎ StopsAtLong s (read_before s)
  unfolding read_before read_file read_counted_before read_counted
  same_or_long = go (ltb file_limit (length s)) (limited count_limit (front_number s)) refl
    where
      go : (b : Bool) (f : Front) → limited count_limit (front_number s) ≡ f
          → (cond b (faulty file_limit) (read_counted_before f s) ≡ cond b (faulty file_limit) (read_counted f s)) ⊎ StopsAtLong s (cond b (faulty file_limit) (read_counted_before f s))
      go true f e = inl refl
      go false none e = inl refl
      go false (found n w) e = records_same n 0 w (counted n w e)

  -- a file that was accepted has the same records
  pub before_listed : (rs : List Record) → read_before s ≡ listed rs → read_file s ≡ listed rs
  before_listed rs e = go same_or_long
    where
      go : (read_before s ≡ read_file s) ⊎ StopsAtLong s (read_before s) → read_file s ≡ listed rs
      go (inl p) = sym p ∙ e
      go (inr h) = absurd (not_listed h.at rs (sym h.stops ∙ e))

  -- a file that was refused is refused at the same offset, or a kind that holds 2 stands there
  pub before_faulty : (o : ℕ) → read_before s ≡ faulty o → (read_file s ≡ faulty o) ⊎ ((more rank : ℕ) × Reached s (kind_due more rank) o × (get_or s o 0 ≡ long_kind))
  before_faulty o e = go same_or_long
    where
      go : (read_before s ≡ read_file s) ⊎ StopsAtLong s (read_before s) → (read_file s ≡ faulty o) ⊎ ((more rank : ℕ) × Reached s (kind_due more rank) o × (get_or s o 0 ≡ long_kind))
      go (inl p) = inl (sym p ∙ e)
      go (inr h) =
          let f = h.stops in
          let p : h.at ≡ o = cc in
          inr (h.more, h.rank, subst (λ (a : ℕ). Reached s (kind_due h.more h.rank) a) p h.reached, rw (← p) h.kind)
