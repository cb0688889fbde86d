-- What an accepted would-be file says of its heads: as many as the records counted, and no octet left over.
use Prim.Native.Nat.{ℕ, zero, suc, ◌+◌, ◌*◌, ◌/◌, ◌≤◌, ◌<◌}
use mathlib.Core.Path.{◌≡◌, refl, sym, ap, ◌∙◌}
use mathlib.Core.List.{List, [], ◌∷◌}
use native.Mathlib.Omega.{arith}
use lib.ListN.{length, get_or, take, drop, length-drop}
use Rattle.numbers.specs.Answer.{given}
use Rattle.number.specs.Groups.{encoded}
use Rattle.swap.specs.declared.file.RecordCount.{RecordCount}
use Rattle.swap.specs.Record.{Record, rank_of}
use Rattle.swap.specs.Items.{Judged, bad, good, judged, front_record}
use Rattle.swap.specs.Reading.{FileListing, faulty, listed, preceded, read_records, verdict_of}
use Rattle.swap.proofs.Tally.{records_bad, records_good}
use Rattle.swap.proofs.Verdicts.{not_listed}
use Rattle.swap_write.specs.Heads.{head_length, body_of, file_of}
use Rattle.swap_write.proofs.Laid.{Fits, accepted_body, accepted_fits}

-- so many records are listed as were asked for
listed_count : (k least at : ℕ) (t : List ℕ) (rs : List Record) → read_records k least at t ≡ listed rs → length rs ≡ k
unfolding read_records preceded
listed_count zero least at [] rs e = let p : [] ≡ rs = cc in rw (← p) refl
listed_count zero least at (o ∷ t) rs e = absurd (not_listed at rs e)
listed_count (suc k) least at t rs e = go (judged least t) refl (listed_count k)
  where
    go : (j : Judged) → judged least t ≡ j → ((least at : ℕ) (t : List ℕ) (rs : List Record) → read_records k least at t ≡ listed rs → length rs ≡ k) → length rs ≡ suc k
    go (bad o) q ih = absurd (not_listed (at + o) rs (sym (records_bad k least at t o q) ∙ e))
    go (good w n) q ih = next (read_records k (suc (rank_of (take 7 t))) (at + (8 + w + n)) (drop (8 + w + n) t)) refl (sym (records_good k least at t w n q) ∙ e)
      where
        next : (out : FileListing) → read_records k (suc (rank_of (take 7 t))) (at + (8 + w + n)) (drop (8 + w + n) t) ≡ out → preceded (front_record w n t) out ≡ listed rs → length rs ≡ suc k
        next (faulty o) p r = absurd (not_listed o rs r)
        next (listed more) p r =
            let same : front_record w n t ∷ more ≡ rs = cc in
            rw (← same) (ap suc (ih _ _ _ more p))

-- heads whose data is there have nothing left over
fits_long : (k : ℕ) (hs ds : List ℕ) → k * 10 ≤ length hs → Fits k hs ds → length hs ≡ k * 10
unfolding Fits
fits_long zero hs ds h f = f.0
fits_long (suc k) hs ds h f =
    omega (arith, length-drop 10 hs, fits_long k (drop 10 hs) (drop (head_length hs) ds) (omega (arith, length-drop 10 hs)) f.1)

pub accepted_long : (hs ds : List ℕ) (c : RecordCount) → verdict_of (file_of hs ds) ≡ given c → ((i : ℕ) → get_or hs i 0 < 256) → length hs ≡ 10 * c.0
accepted_long hs ds c e b =
    let r = (accepted_body hs ds c e).1 in
    let n : length r.0 ≡ length hs / 10 = listed_count (length hs / 10) 0 (length (encoded (length hs / 10))) (body_of (length hs / 10) hs ds) r.0 r.1 in
    omega (arith, n, r.2, fits_long (length hs / 10) hs ds (omega arith) (accepted_fits hs ds c e b))
