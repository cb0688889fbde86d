-- Records that are within all rules together are all kept, in whatever order they are added. So the records of an accepted file make that file again.
use Prim.Native.Nat.{ℕ, suc, ◌≤◌, ◌<◌}
use mathlib.Core.Path.{◌≡◌, refl, sym, ap, ◌∙◌}
use mathlib.Core.Bool.{Bool, true, false}
use mathlib.Core.List.{List, [], ◌∷◌, ◌++◌, append_assoc, append-nil}
use native.Mathlib.Omega.{arith}
use lib.ListN.{length, get_or, length-append}
use lib.Dec.{leb, ltb}
use borrow.Author.Tests.{le-leb, ltb-true, ltb-false}
use Rattle.numbers.specs.Answer.{given}
use Rattle.number.specs.Groups.{encoded}
use Rattle.number.proofs.Laying.{width_one, width_two}
use Rattle.swap.specs.Record.{Record, Sound, OfOctets, Each, Rising, rank}
use Rattle.swap.specs.Encoding.{records_octets, encode, Within}
use Rattle.swap.specs.Reading.{verdict_of, in_record_count}
use Rattle.swap.proofs.Encoded.{all_octets}
use Rattle.swap.proofs.RoundTrip.{encoding_accepted, accepted_encoding}
use Rattle.swap_list.specs.Ordered.{placed}
use Rattle.swap_list.specs.Collected.{begun, after_adds, kept, kept_of, Holds, in_order}
use Rattle.swap_list.proofs.Collecting.{collected}

first : {P : Record → Type 0} {q : Record} {qs : List Record} → Each P (q ∷ qs) → P q
first (Each.more p s) = p

later : {P : Record → Type 0} {q : Record} {qs : List Record} → Each P (q ∷ qs) → Each P qs
later (Each.more p s) = s

lowest : {least : ℕ} {q : Record} {qs : List Record} → Rising least (q ∷ qs) → least ≤ rank q
lowest (Rising.more h s) = h

above : {least : ℕ} {q : Record} {qs : List Record} → Rising least (q ∷ qs) → Rising (suc (rank q)) qs
above (Rising.more h s) = s

-- the count of one record more takes no fewer octets
count_grows : (n : ℕ) → n < 4096 → length (encoded n) ≤ length (encoded (suc n))
count_grows n h = go (ltb n 128) refl (ltb (suc n) 128) refl
  where
    go : (a : Bool) → ltb n 128 ≡ a → (b : Bool) → ltb (suc n) 128 ≡ b → length (encoded n) ≤ length (encoded (suc n))
    go true p true q = omega (arith, width_one n (ltb-true _ _ p), width_one (suc n) (ltb-true _ _ q))
    go true p false q = omega (arith, width_one n (ltb-true _ _ p), width_two (suc n) (ltb-false _ _ q) (omega arith))
    go false p true q =
        let k : 128 ≤ n = ltb-false _ _ p in
        let l : suc n < 128 = ltb-true _ _ q in
        let z : ⊥ = omega arith in
        absurd z
    go false p false q = omega (arith, width_two n (ltb-false _ _ p) (omega arith), width_two (suc n) (ltb-false _ _ q) (omega arith))

-- what holds of records with one more in its place holds without it
module _ (r : Record) where
  sound_without : (rs : List Record) → Each Sound (placed r rs) → Each Sound rs
  unfolding placed
  sound_without [] s = Each.none
  sound_without (q ∷ qs) s = go (leb (rank q) (rank r)) refl (sound_without qs)
    where
      go : (b : Bool) → leb (rank q) (rank r) ≡ b → (Each Sound (placed r qs) → Each Sound qs) → Each Sound (q ∷ qs)
      go true e ih = let t : Each Sound (q ∷ placed r qs) = rw e at s in Each.more (first t) (ih (later t))
      go false e ih = let t : Each Sound (r ∷ q ∷ qs) = rw e at s in later t

  rising_without : (least : ℕ) (rs : List Record) → Rising least (placed r rs) → Rising least rs
  unfolding placed
  rising_without least [] s = Rising.none
  rising_without least (q ∷ qs) s = go (leb (rank q) (rank r)) refl (rising_without (suc (rank q)) qs)
    where
      go : (b : Bool) → leb (rank q) (rank r) ≡ b → (Rising (suc (rank q)) (placed r qs) → Rising (suc (rank q)) qs) → Rising least (q ∷ qs)
      go true e ih = let t : Rising least (q ∷ placed r qs) = rw e at s in Rising.more (lowest t) (ih (above t))
      go false e ih =
          let t : Rising least (r ∷ q ∷ qs) = rw e at s in
          let k : least ≤ rank q = omega (arith, lowest t, lowest (above t)) in
          Rising.more k (above (above t))

  length-placed : (rs : List Record) → length (placed r rs) ≡ suc (length rs)
  unfolding placed
  length-placed [] = refl
  length-placed (q ∷ qs) = go (leb (rank q) (rank r)) refl (length-placed qs)
    where
      go : (b : Bool) → leb (rank q) (rank r) ≡ b → length (placed r qs) ≡ suc (length qs) → length (placed r (q ∷ qs)) ≡ suc (suc (length qs))
      go true e ih = rw e (ap suc ih)
      go false e ih = rw e

  octets_placed : (rs : List Record) → length (records_octets rs) ≤ length (records_octets (placed r rs))
  unfolding placed records_octets
  octets_placed [] = omega arith
  octets_placed (q ∷ qs) = go (leb (rank q) (rank r)) refl (octets_placed qs)
    where
      go : (b : Bool) → leb (rank q) (rank r) ≡ b → length (records_octets qs) ≤ length (records_octets (placed r qs)) → length (records_octets (q ∷ qs)) ≤ length (records_octets (placed r (q ∷ qs)))
      go true e ih = rw e (simp length-append (omega arith))
      go false e ih = rw e (simp length-append (omega arith))

  within_without : (rs : List Record) → Within (placed r rs) → Within rs
  unfolding encode
  within_without rs h =
      let n : length (placed r rs) ≡ suc (length rs) = length-placed rs in
      let c : length (encoded (length rs)) ≤ length (encoded (length (placed r rs))) = rw n (count_grows (length rs) (omega (arith, h.few))) in
      record {
        sound = sound_without rs h.sound;
        rising = rising_without 0 rs h.rising;
        few = omega (arith, h.few);
        small = omega (arith, h.small, c, octets_placed rs, length-append (encoded (length rs)) (records_octets rs), length-append (encoded (length (placed r rs))) (records_octets (placed r rs)));
      }

-- no add on the way breaks a rule
within_before : (more rs : List Record) → Within (in_order rs more) → Within rs
unfolding in_order
within_before [] rs h = h
within_before (r ∷ more) rs h = within_without r rs (within_before more (placed r rs) h)

all_kept : (more rs : List Record) → Within (in_order rs more) → kept_of rs more ≡ in_order rs more
unfolding in_order kept_of kept
all_kept [] rs h = refl
all_kept (r ∷ more) rs h =
    let k : kept rs r ≡ placed r rs = rw (encoding_accepted (placed r rs) (within_before more (placed r rs) h)) in
    rw k (all_kept more (placed r rs) h)

-- records within all rules together are all held, each in its place, in whatever order they were added
pub any_order : (heads contents : List ℕ) (offered : List Record) → Each OfOctets offered → Within (in_order [] offered) → Holds (after_adds (begun heads contents) offered) (in_order [] offered)
any_order heads contents offered o h = rw (← all_kept offered [] h) (collected heads contents o)

-- a record above all others goes to the end
no_lower : (ps : List Record) (r : Record) (qs : List Record) (least : ℕ) → Rising least (ps ++ r ∷ qs) → least ≤ rank r
no_lower [] r qs least h = lowest h
no_lower (p ∷ ps) r qs least h = omega (arith, lowest h, no_lower ps r qs (suc (rank p)) (above h))

placed_last : (ps : List Record) (r : Record) (qs : List Record) (least : ℕ) → Rising least (ps ++ r ∷ qs) → placed r ps ≡ ps ++ r ∷ []
unfolding placed
placed_last [] r qs least h = refl
placed_last (p ∷ ps) r qs least h =
    rw (le-leb (rank p) (rank r) (omega (arith, no_lower ps r qs (suc (rank p)) (above h))))
    (ap (λ (s : List Record). p ∷ s) (placed_last ps r qs (suc (rank p)) (above h)))

order_kept : (qs ps : List Record) → Rising 0 (ps ++ qs) → in_order ps qs ≡ ps ++ qs
unfolding in_order
order_kept [] ps h = sym (append-nil ps)
order_kept (r ∷ qs) ps h =
    let e : (ps ++ r ∷ []) ++ qs ≡ ps ++ r ∷ qs = append_assoc ps (r ∷ []) qs in
    rw (placed_last ps r qs 0 h) (order_kept qs (ps ++ r ∷ []) (rw e h) ∙ e)

-- the records of an accepted file, added one after the other, make the same octets
pub file_again : (heads contents s : List ℕ) (n : ℕ) → ((i : ℕ) → get_or s i 0 < 256) → verdict_of s ≡ given (in_record_count n) → (rs : List Record) × (s ≡ encode rs) × Holds (after_adds (begun heads contents) rs) rs
file_again heads contents s n b e =
    let f = accepted_encoding s n b e in
    let k : in_order [] f.0 ≡ f.0 = order_kept f.0 [] f.2.rising in
    (f.0, f.1, rw k at (any_order heads contents f.0 (all_octets f.2.sound) (rw k f.2)))
