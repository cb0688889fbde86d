-- A file is accepted exactly if it is the encoding of a list of records within all rules, and that list is the one that was read.
use Prim.Native.Nat.{ℕ, zero, suc, ◌+◌, ◌≤◌, ◌<◌}
use mathlib.Core.Path.{◌≡◌, refl, sym, ap, ◌∙◌}
use mathlib.Core.Bool.{Bool, true, false}
use mathlib.Core.List.{List, [], ◌∷◌, ◌++◌}
use native.Mathlib.Omega.{arith}
use lib.ListN.{length, get_or, take, drop}
use lib.Seq.{drop_at}
use lib.Dec.{ltb, lit<}
use borrow.Author.Tests.{le-ltb, le-leb, ltb-false}
use Rattle.octets.proofs.Below.{Below-drop}
use Rattle.numbers.specs.Answer.{given}
use Rattle.number.specs.Groups.{Front, found, none, encoded, front_number}
use Rattle.number.proofs.Fronts.{encoded_front}
use Rattle.number.proofs.Forms.{front_form, own_form}
use Rattle.swap.specs.Record.{Record, Sound, OfOctets, Each, Rising, rank, rank_of, count_limit, file_limit}
use Rattle.swap.specs.Encoding.{record_octets, records_octets, encode, Within}
use Rattle.swap.specs.Items.{Judged, bad, good, judged, front_record, limited}
use Rattle.swap.specs.declared.file.RecordCount.{RecordCount}
use Rattle.swap.specs.Reading.{FileListing, faulty, listed, preceded, read_records, read_counted, read_file, answer_of_listing, verdict_of, in_record_count}
use Rattle.swap.proofs.Shown.{shown, shown-good, within_limit}
use Rattle.swap.proofs.Encoded.{record_shown, record_front, from_rest, rank_front, rank_shown, shown_sound, shown_octets, own_length, own_sound}
use Rattle.swap.proofs.Tally.{records_bad, records_good}
use Rattle.swap.proofs.Verdicts.{not_listed, accepted}

-- records that were read: so many, sound and rising, and the octets are theirs
pub record Listed (k least : ℕ) (t : List ℕ) (rs : List Record) : Type 0 where
  pub octets : t ≡ records_octets rs
  pub count : length rs ≡ k
  pub sound : Each Sound rs
  pub rising : Rising least rs

pub listed_records : (k least at : ℕ) (t : List ℕ) (rs : List Record) → ((i : ℕ) → get_or t i 0 < 256) → read_records k least at t ≡ listed rs → Listed k least t rs
unfolding read_records records_octets preceded
listed_records zero least at [] rs b e =
    let p : [] ≡ rs = cc in
    rw (← p) (record { octets = refl; count = refl; sound = Each.none; rising = Rising.none })
listed_records zero least at (o ∷ t) rs b e = absurd (not_listed at rs e)
listed_records (suc k) least at t rs b e = go (judged least t) refl (listed_records k)
  where
    go : (j : Judged) → judged least t ≡ j → ((least at : ℕ) (t : List ℕ) (rs : List Record) → ((i : ℕ) → get_or t i 0 < 256) → read_records k least at t ≡ listed rs → Listed k least t rs) → Listed (suc k) least t rs
    go (bad o) q ih = absurd (not_listed (at + o) rs (rw (q, read_records) at e))
    go (good w n) q ih = next (read_records k (suc (rank_of (take 7 t))) (at + (8 + w + n)) (drop (8 + w + n) t)) refl (sym (records_good k least at t w n q) ∙ e)
      where
        next : (out : FileListing) → read_records k (suc (rank_of (take 7 t))) (at + (8 + w + n)) (drop (8 + w + n) t) ≡ out → preceded (front_record w n t) out ≡ listed rs → Listed (suc k) least t rs
        next (faulty o) p r = absurd (not_listed o rs r)
        next (listed more) p r =
            let h = shown least t w n q in
            let s = ih _ _ (drop (8 + w + n) t) more (Below-drop 256 (lit< tt) (8 + w + n) t b) p in
            let same : front_record w n t ∷ more ≡ rs = cc in
            rw (← same)
            (record {
              octets = shown_octets least t w n h b ∙ ap (λ (u : List ℕ). record_octets (front_record w n t) ++ u) s.octets;
              count = ap suc s.count;
              sound = Each.more (shown_sound least t w n h b) s.sound;
              rising = Rising.more {least = least} {r = front_record w n t} {rs = more} (rw (rank_shown least t w n h b) h.high) (rw (rank_shown least t w n h b) s.rising);
            })

-- sound and rising records are read from their octets
pub records_listed : (least at : ℕ) {rs : List Record} → Each Sound rs → Rising least rs → read_records (length rs) least at (records_octets rs) ≡ listed rs
unfolding records_octets read_records preceded
records_listed least at Each.none Rising.none = refl
records_listed least at (Each.more {r = r} {rs = rs} p s) (Rising.more h q) =
    let n = length r.content in
    let w = length (encoded n) in
    let t = record_octets r ++ records_octets rs in
    records_good (length rs) least at t w n (shown-good least t w n (record_shown r (records_octets rs) t p.address refl p least h))
    ∙ rw (record_front r (records_octets rs) t p.address refl, from_rest r (records_octets rs) t p.address refl, rank_front r (records_octets rs) t p.address refl, records_listed (suc (rank r)) (at + (8 + w + n)) s q)

-- the records read from an accepted file are within all rules, and written give the same octets
pub read_encode : (s : List ℕ) (rs : List Record) → ((i : ℕ) → get_or s i 0 < 256) → read_file s ≡ listed rs → (s ≡ encode rs) × Within rs
unfolding read_file encode read_counted
read_encode s rs b e = go (ltb file_limit (length s)) refl
  where
    counted : (f : Front) → limited count_limit (front_number s) ≡ f → length s ≤ file_limit → read_counted f s ≡ listed rs → (s ≡ encode rs) × Within rs
    counted none q h r = absurd (not_listed 0 rs r)
    counted (found n w) q h r =
        let l = within_limit count_limit (front_number s) n w q in
        let f = encoded_front s n w b l.0 in
        let c = listed_records n 0 w (drop w s) rs (Below-drop 256 (lit< tt) w s b) r in
        let same : s ≡ encode rs = f.octets ∙ rw (c.count, c.octets) in (
          same,
          record {
            sound = c.sound;
            rising = c.rising;
            few = omega (arith, c.count, l.1);
            small = rw (← same) h;
          },
        )

    go : (t : Bool) → ltb file_limit (length s) ≡ t → (s ≡ encode rs) × Within rs
    go true h = absurd (not_listed file_limit rs (rw h at e))
    go false h = counted (limited count_limit (front_number s)) refl (ltb-false file_limit (length s) h) (rw h at e)

-- records within all rules, written and read, are the same records
pub encode_read : (rs : List Record) → Within rs → read_file (encode rs) ≡ listed rs
unfolding read_file encode read_counted limited
encode_read rs h =
    let w : ℕ = length (encoded (length rs)) in
    let f : front_number (encoded (length rs) ++ records_octets rs) ≡ found (length rs) w = front_form (length rs) (records_octets rs) (omega (arith, h.few)) in
    rw (le-ltb file_limit (length (encoded (length rs) ++ records_octets rs)) h.small, f, le-leb (length rs) count_limit h.few, drop_at (encoded (length rs)) (records_octets rs) w refl)
    (records_listed 0 w h.sound h.rising)

-- one file has one list of records
pub one_list : (rs qs : List Record) → Within rs → Within qs → encode rs ≡ encode qs → rs ≡ qs
one_list rs qs h k e =
    let l : listed rs ≡ listed qs = sym (encode_read rs h) ∙ ap read_file e ∙ encode_read qs k in
    cc

-- a file with this verdict is the encoding of so many records within all rules
pub accepted_encoding : (s : List ℕ) (n : ℕ) → ((i : ℕ) → get_or s i 0 < 256) → verdict_of s ≡ given (in_record_count n) → (rs : List Record) × (s ≡ encode rs) × Within rs × (length rs ≡ n)
unfolding verdict_of
accepted_encoding s n b e = go (read_file s) refl e
  where
    go : (out : FileListing) → read_file s ≡ out → answer_of_listing out ≡ given (in_record_count n) → (rs : List Record) × (s ≡ encode rs) × Within rs × (length rs ≡ n)
    go (faulty o) q r = let z : ◌≡◌ {A = ℕ} 0 1 = cc in let y : ⊥ = omega arith in absurd y
    go (listed rs) q r =
        let c : in_record_count (length rs) ≡ in_record_count n = cc in
        let f = read_encode s rs b q in
        (rs, f.0, f.1, ap (λ (c : RecordCount). c.0) c)

-- and has it
pub encoding_accepted : (rs : List Record) → Within rs → verdict_of (encode rs) ≡ given (in_record_count (length rs))
unfolding verdict_of
encoding_accepted rs h = rw (encode_read rs h)

-- of records of octets, those whose octets are read are sound and rising, and are those that are read
pub record Own (least : ℕ) (ps rs : List Record) : Type 0 where
  pub same : ps ≡ rs
  pub sound : Each Sound ps
  pub rising : Rising least ps

own_records : (least at : ℕ) (rs : List Record) {ps : List Record} → Each OfOctets ps → read_records (length ps) least at (records_octets ps) ≡ listed rs → Own least ps rs
unfolding records_octets read_records preceded
own_records least at rs Each.none e =
    let p : [] ≡ rs = cc in
    record { same = p; sound = Each.none; rising = Rising.none }
own_records least at rs (Each.more {r = p} {rs = ps} o s) e = go (judged least t) refl (λ least at rs. own_records least at rs s)
  where
    t : List ℕ
    t = record_octets p ++ records_octets ps

    go : (j : Judged) → judged least t ≡ j → ((least at : ℕ) (rs : List Record) → read_records (length ps) least at (records_octets ps) ≡ listed rs → Own least ps rs) → Own least (p ∷ ps) rs
    go (bad b) q ih = absurd (not_listed (at + b) rs (sym (records_bad (length ps) least at t b q) ∙ e))
    go (good w n) q ih = next (read_records (length ps) (suc (rank_of (take 7 t))) (at + (8 + w + n)) (drop (8 + w + n) t)) refl (sym (records_good (length ps) least at t w n q) ∙ e)
      where
        next : (out : FileListing) → read_records (length ps) (suc (rank_of (take 7 t))) (at + (8 + w + n)) (drop (8 + w + n) t) ≡ out → preceded (front_record w n t) out ≡ listed rs → Own least (p ∷ ps) rs
        next (faulty b) x r = absurd (not_listed b rs r)
        next (listed qs) x r =
            let h = shown least t w n q in
            let l = own_length p (records_octets ps) t o.address refl least w n h in
            let k : rank_of (take 7 t) ≡ rank p = rank_front p (records_octets ps) t o.address refl in
            let d : drop (8 + w + n) t ≡ records_octets ps = rw (← l.0, ← l.1) (from_rest p (records_octets ps) t o.address refl) in
            let f : front_record w n t ≡ p = rw (← l.0, ← l.1) (record_front p (records_octets ps) t o.address refl) in
            let m = ih (suc (rank p)) (at + (8 + w + n)) qs (rw (d, k) at x) in
            let a : front_record w n t ∷ qs ≡ rs = cc in
            record {
              same = rw (m.same, ← f) a;
              sound = Each.more (own_sound p (records_octets ps) t o.address refl o least w n h) m.sound;
              rising = Rising.more {least = least} {r = p} {rs = ps} (rw k at h.high) m.rising;
            }

-- records of octets whose encoding is accepted are within all rules, as many as the verdict says
pub accepted_own : (ps : List Record) (c : RecordCount) → Each OfOctets ps → verdict_of (encode ps) ≡ given c → Within ps × (length ps ≡ c.0)
unfolding encode
accepted_own ps c o e =
    let a = accepted (encode ps) c e in
    let f = own_form (length ps) (records_octets ps) a.count a.width a.front in
    let d : drop a.width (encode ps) ≡ records_octets ps = drop_at (encoded (length ps)) (records_octets ps) a.width f.1 in
    let m = own_records 0 a.width a.records o (rw (← f.0, d) at a.read) in
    (record { sound = m.sound; rising = m.rising; few = rw f.0 a.few; small = a.small }, ap length m.same ∙ a.counted)
