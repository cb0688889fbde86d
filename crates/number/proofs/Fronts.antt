-- What reading gives after writing and the other way round: each number has one form, the shortest.
use Prim.Native.Nat.{ℕ, zero, suc, ◌+◌, ◌*◌, ◌/◌, ◌%◌, ◌^◌, ◌≤◌, ◌<◌}
use mathlib.Core.Path.{◌≡◌, refl, sym, ap, ◌∙◌}
use mathlib.Core.List.{List, [], ◌∷◌, ◌++◌}
use mathlib.Core.Bool.{Bool, true, false, cond}
use native.Mathlib.Nat.{pow-suc, div-lt_iff_lt-mul, le-div_iff_mul-le, mod-add-div, pow-le-pow_right}
use native.Mathlib.Omega.{arith}
use lib.ListN.{length, get_or, drop}
use lib.Dec.{ltb, lit<}
use borrow.Author.Tests.{lt-ltb, le-ltb, ltb-true, ltb-false, ne_eqb}
use Rattle.number.specs.Groups.{groups, encoded, Front, found, none, joined, decoded, bounded, front_number}

-- a high part above zero, joined to a low group
pub joined_above : (g n w : ℕ) → 0 < n → joined g (found n w) ≡ found (g + 128 * n) (suc w)
unfolding joined
joined_above g n w h = rw (ne_eqb n 0 (omega arith))

-- the groups above the low one hold n / 128 exactly if one group more holds n
above_fits : (k n : ℕ) → ltb (n / 128) (128 ^ suc k) ≡ ltb n (128 ^ suc (suc k))
above_fits k n = go (ltb (n / 128) (128 ^ suc k)) refl
  where
    go : (b : Bool) → ltb (n / 128) (128 ^ suc k) ≡ b → ltb (n / 128) (128 ^ suc k) ≡ ltb n (128 ^ suc (suc k))
    go true e = e ∙ sym (lt-ltb n (128 ^ suc (suc k)) (rw pow-suc ((div-lt_iff_lt-mul (lit< tt)).0 (ltb-true _ _ e))))
    go false e =
        e ∙ sym (le-ltb n (128 ^ suc (suc k)) (rw pow-suc ((le-div_iff_mul-le (lit< tt)).0 (ltb-false _ _ e))))

-- the low group of n joined to what is read of n / 128
joined_fits : (n P w : ℕ) → 128 ≤ n → joined (n % 128) (cond (ltb (n / 128) P) (found (n / 128) w) none) ≡ cond (ltb (n / 128) P) (found n (suc w)) none
unfolding joined
joined_fits n P w h = go (ltb (n / 128) P)
  where
    go : (b : Bool) → joined (n % 128) (cond b (found (n / 128) w) none) ≡ cond b (found n (suc w)) none
    go true = joined_above (n % 128) (n / 128) w (omega arith) ∙ rw (mod-add-div n 128)
    go false = refl

-- a form of n in at most suc k groups, whatever stands behind it, is read as n where so many groups hold n
pub decoded-groups : (k n : ℕ) (s : List ℕ) → decoded (suc k) (groups k n ++ s) ≡ cond (ltb n (128 ^ suc k)) (found n (length (groups k n))) none
unfolding groups decoded joined
decoded-groups zero n s = refl
decoded-groups (suc k) n s = go (ltb n 128) refl (decoded-groups k (n / 128) s)
  where
    go : (b : Bool) → ltb n 128 ≡ b → decoded (suc k) (groups k (n / 128) ++ s) ≡ cond (ltb (n / 128) (128 ^ suc k)) (found (n / 128) (length (groups k (n / 128)))) none → decoded (suc (suc k)) (groups (suc k) n ++ s) ≡ cond (ltb n (128 ^ suc (suc k))) (found n (length (groups (suc k) n))) none
    go true e r =
        let lt : n < 128 ^ suc (suc k) = omega (arith, ltb-true n 128 e, pow-le-pow_right {n = 128} (lit< tt) {i = 1} {j = suc (suc k)} (omega arith)) in
        simp (e, lt-ltb n (128 ^ suc (suc k)) lt)
    go false e r =
        let low : (128 + n % 128) % 128 ≡ n % 128 = omega arith in
        simp (e, r, low, le-ltb (128 + n % 128) 128 (omega arith))
        (joined_fits n (128 ^ suc k) (length (groups k (n / 128))) (ltb-false n 128 e) ∙ rw (above_fits k n))

-- s starts with the form of n in at most suc k groups, which takes w octets
pub record Leads (k n w : ℕ) (s : List ℕ) : Type 0 where
  pub octets : s ≡ groups k n ++ drop w s
  pub width : w ≡ length (groups k n)

-- the low group of o and a number above zero, joined, are a number whose form begins with o
low_first : (k o m v : ℕ) (s : List ℕ) → 128 ≤ o → o < 256 → 0 < m → Leads k m v s → Leads (suc k) (o % 128 + 128 * m) (suc v) (o ∷ s)
unfolding groups
low_first k o m v s h b p l =
    let n : ℕ = o % 128 + 128 * m in
    let far : ltb n 128 ≡ false = le-ltb n 128 (omega arith) in
    let low : 128 + n % 128 ≡ o = omega arith in
    let up : n / 128 ≡ m = omega arith in
    record {
      octets = simp (far, low, up) (ap (λ (r : List ℕ). o ∷ r) l.octets);
      width = simp (far, up) (ap suc l.width);
    }

one_octet : (k o : ℕ) (s : List ℕ) → ltb o 128 ≡ true → Leads k o 1 (o ∷ s)
unfolding groups
one_octet zero o s e = record { octets = refl; width = refl }
one_octet (suc k) o s e = record { octets = simp e; width = simp e }

same_front : (k m v n w : ℕ) (s : List ℕ) → found m v ≡ found n w → Leads k m v s → Leads k n w s
same_front k m v n w s e l =
    let p : m ≡ n = cc in
    let q : v ≡ w = cc in
    rw (← p, ← q) l

not_found : (n w : ℕ) → none ≡ found n w → ⊥
not_found n w e = let z : ◌≡◌ {A = ℕ} 0 1 = cc in omega arith

-- what is read as n stands in the form of n
pub groups-decoded : (k : ℕ) (s : List ℕ) (n w : ℕ) → ((i : ℕ) → get_or s i 0 < 256) → decoded (suc k) s ≡ found n w → Leads k n w s
unfolding decoded joined
groups-decoded k [] n w b e = absurd (not_found n w e)
groups-decoded zero (o ∷ s) n w b e = go (ltb o 128) refl
  where
    go : (t : Bool) → ltb o 128 ≡ t → Leads 0 n w (o ∷ s)
    go true h = same_front 0 o 1 n w (o ∷ s) (simp h at e) (one_octet 0 o s h)
    go false h = absurd (not_found n w (simp h at e))
groups-decoded (suc k) (o ∷ s) n w b e = go (ltb o 128) refl (decoded (suc k) s) refl (groups-decoded k s)
  where
    high : (m v : ℕ) → 128 ≤ o → Leads k m v s → joined (o % 128) (found m v) ≡ found n w → Leads (suc k) n w (o ∷ s)
    high zero v h l r = absurd (not_found n w r)
    high (suc m) v h l r =
        same_front (suc k) (o % 128 + 128 * suc m) (suc v) n w (o ∷ s) (sym (joined_above (o % 128) (suc m) v (omega arith)) ∙ r)
        (low_first k o (suc m) v s h (b 0) (omega arith) l)

    go : (t : Bool) → ltb o 128 ≡ t → (f : Front) → decoded (suc k) s ≡ f → ((n w : ℕ) → ((i : ℕ) → get_or s i 0 < 256) → decoded (suc k) s ≡ found n w → Leads k n w s) → Leads (suc k) n w (o ∷ s)
    go true h f q r = same_front (suc k) o 1 n w (o ∷ s) (simp h at e) (one_octet (suc k) o s h)
    go false h none q r = absurd (not_found n w (simp (h, q) at e))
    go false h (found m v) q r = high m v (ltb-false o 128 h) (r m v (λ i. b (suc i)) q) (simp (h, q) at e)

-- what is read stands within the list
decoded_within : (k : ℕ) (s : List ℕ) (n w : ℕ) → decoded k s ≡ found n w → (0 < w) × (w ≤ length s)
unfolding decoded joined
decoded_within zero s n w e = absurd (not_found n w e)
decoded_within (suc k) [] n w e = absurd (not_found n w e)
decoded_within (suc k) (o ∷ s) n w e = go (ltb o 128) refl (decoded k s) refl (decoded_within k s)
  where
    high : (m v : ℕ) → v ≤ length s → joined (o % 128) (found m v) ≡ found n w → (0 < w) × (w ≤ suc (length s))
    high zero v l r = absurd (not_found n w r)
    high (suc m) v l r =
        let q : found (o % 128 + 128 * suc m) (suc v) ≡ found n w = sym (joined_above (o % 128) (suc m) v (omega arith)) ∙ r in
        let p : suc v ≡ w = cc in
        omega arith

    go : (t : Bool) → ltb o 128 ≡ t → (f : Front) → decoded k s ≡ f → ((n w : ℕ) → decoded k s ≡ found n w → (0 < w) × (w ≤ length s)) → (0 < w) × (w ≤ suc (length s))
    go true h f q r =
        let z : found o 1 ≡ found n w = simp h at e in
        let p : 1 ≡ w = cc in
        omega arith
    go false h none q r = absurd (not_found n w (simp (h, q) at e))
    go false h (found m v) q r = high m v (r m v q).1 (simp (h, q) at e)

pub front_within : (s : List ℕ) (n w : ℕ) → front_number s ≡ found n w → (0 < w) × (w ≤ length s)
unfolding front_number bounded
front_within s n w e = go (decoded 5 s) refl e
  where
    go : (f : Front) → decoded 5 s ≡ f → bounded f ≡ found n w → (0 < w) × (w ≤ length s)
    go none q r = absurd (not_found n w r)
    go (found m v) q r = small (ltb m (2 ^ 32)) refl
      where
        small : (t : Bool) → ltb m (2 ^ 32) ≡ t → (0 < w) × (w ≤ length s)
        small true h =
            let z : found m v ≡ found n w = simp h at r in
            let p : v ≡ w = cc in
            omega (arith, decoded_within 5 s m v q)
        small false h = absurd (not_found n w (simp h at r))

-- the form of a number, whatever stands behind it, is read as that number; of a larger one nothing is read
pub front_encoded : (n : ℕ) (s : List ℕ) → front_number (encoded n ++ s) ≡ cond (ltb n (2 ^ 32)) (found n (length (encoded n))) none
unfolding front_number encoded bounded
front_encoded n s = rw (decoded-groups 4 n s) (go (ltb n (2 ^ 32)) refl)
  where
    go : (t : Bool) → ltb n (2 ^ 32) ≡ t → bounded (cond (ltb n (128 ^ 5)) (found n (length (groups 4 n))) none) ≡ cond (ltb n (2 ^ 32)) (found n (length (groups 4 n))) none
    go true h = simp (h, lt-ltb n (128 ^ 5) (omega (arith, ltb-true n (2 ^ 32) h)))
    go false h = large (ltb n (128 ^ 5))
      where
        large : (t : Bool) → bounded (cond t (found n (length (groups 4 n))) none) ≡ cond (ltb n (2 ^ 32)) (found n (length (groups 4 n))) none
        large true = refl
        large false = simp h

-- s starts with the form of n, a number below 2^32, which takes w octets
pub record Formed (n w : ℕ) (s : List ℕ) : Type 0 where
  pub octets : s ≡ encoded n ++ drop w s
  pub width : w ≡ length (encoded n)
  pub small : n < 2 ^ 32

-- what is read as n is below 2^32 and stands in the form of n
pub encoded_front : (s : List ℕ) (n w : ℕ) → ((i : ℕ) → get_or s i 0 < 256) → front_number s ≡ found n w → Formed n w s
unfolding front_number encoded bounded
encoded_front s n w b e = go (decoded 5 s) refl e
  where
    go : (f : Front) → decoded 5 s ≡ f → bounded f ≡ found n w → Formed n w s
    go none q r = absurd (not_found n w r)
    go (found m v) q r = small (ltb m (2 ^ 32)) refl
      where
        small : (t : Bool) → ltb m (2 ^ 32) ≡ t → Formed n w s
        small true h =
            let r' : found m v ≡ found n w = simp h at r in
            let l : Leads 4 n w s = same_front 4 m v n w s r' (groups-decoded 4 s m v b q) in
            let p : m ≡ n = cc in
            record { octets = l.octets; width = l.width; small = rw (← p) (ltb-true m (2 ^ 32) h) }
        small false h = absurd (not_found n w (simp h at r))
