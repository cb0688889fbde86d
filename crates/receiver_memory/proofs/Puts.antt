-- What putting octets into a memory leaves: its length, each octet that no put alters, and each run of octets where it was put.
use Prim.Native.Nat.{ℕ, ◌+◌, ◌-◌, ◌≤◌, ◌<◌}
use mathlib.Core.Path.{◌≡◌, refl, sym, ◌∙◌}
use mathlib.Core.List.{List, [], ◌∷◌, ◌++◌}
use mathlib.Core.Logic.{◌⊎◌, inl, inr}
use native.Mathlib.Decide.{dec_le, dec_lt}
use native.Mathlib.Omega.{arith}
use lib.ListN.{length, get_or}
use lib.Seq.{ext_get_or}
use Rattle.octets.specs.Splice.{spliced}
use Rattle.octets.specs.Part.{part_of}
use Rattle.octets.proofs.Splice.{length-spliced, spliced_past, get_or-in_spliced, get_or-before_spliced, get_or-past_spliced}
use Rattle.octets.proofs.Parts.{length_part, get_or_part}
use Rattle.receiver_memory.specs.Fields.{field_at}
use Rattle.receiver_memory.specs.Puts.{Put, put, put_all}
use Rattle.receiver_memory.proofs.Fields.{field_part}

-- an offset at which a run of octets does not lie
abbrev pub Outside : ℕ → Put → Type 0
Outside j p = (j < p.at) ⊎ (p.at + length p.octets ≤ j)

-- a run of octets that the memory has there already
abbrev pub Held : List ℕ → Put → Type 0
Held m p = (k : ℕ) → k < length p.octets → get_or p.octets k 0 ≡ get_or m (p.at + k) 0

-- a put that does not alter the octet at an offset, and puts of which none does
abbrev pub Spares : List ℕ → ℕ → Put → Type 0
Spares m j p = Outside j p ⊎ Held m p

abbrev pub AllSpare : List ℕ → ℕ → List Put → Type 0
AllSpare m j [] = Unit {0}
AllSpare m j (p ∷ l) = Spares m j p × AllSpare m j l

-- puts that follow one another from an offset up to another, and do not overlap
abbrev pub Rising : ℕ → List Put → ℕ → Type 0
Rising a [] e = a ≤ e
Rising a (p ∷ l) e = (a ≤ p.at) × Rising (p.at + length p.octets) l e

-- one of several puts
pub data Among (p : Put) : List Put → Type 0 where
  here : {l : List Put} → Among p (p ∷ l)
  later : {q : Put} {l : List Put} → Among p l → Among p (q ∷ l)

-- one put, which may fit or not
module _ (m : List ℕ) (at : ℕ) (s : List ℕ) where
  pub put-length : length (spliced m at s) ≡ length m
  put-length = go (dec_le (at + length s) (length m))
    where
      go : Dec (at + length s ≤ length m) → length (spliced m at s) ≡ length m
      go (yes h) = length-spliced m at s h
      go (no h) = rw (spliced_past m at s (omega arith))

  put_outside : (j : ℕ) → Outside j (put at s) → get_or (spliced m at s) j 0 ≡ get_or m j 0
  put_outside j o = go (dec_le (at + length s) (length m)) o
    where
      go : Dec (at + length s ≤ length m) → Outside j (put at s) → get_or (spliced m at s) j 0 ≡ get_or m j 0
      go (no h) o = rw (spliced_past m at s (omega arith))
      go (yes h) (inl k) = get_or-before_spliced m at s h j k
      go (yes h) (inr k) =
          let e : at + length s + (j - (at + length s)) ≡ j = omega arith in
          rw e at (get_or-past_spliced m at s h (j - (at + length s)))

  put_spared : (own : List ℕ) (j : ℕ) → get_or m j 0 ≡ get_or own j 0 → Spares own j (put at s) → get_or (spliced m at s) j 0 ≡ get_or own j 0
  put_spared own j e (inl o) = put_outside j o ∙ e
  put_spared own j e (inr held) = go (dec_le (at + length s) (length m)) (dec_lt j at) (dec_le (at + length s) j)
    where
      go : Dec (at + length s ≤ length m) → Dec (j < at) → Dec (at + length s ≤ j) → get_or (spliced m at s) j 0 ≡ get_or own j 0
      go (no h) k l = rw (spliced_past m at s (omega arith)) e
      go (yes h) (yes k) l = put_outside j (inl k) ∙ e
      go (yes h) (no k) (yes l) = put_outside j (inr l) ∙ e
      go (yes h) (no k) (no l) =
          let q : at + (j - at) ≡ j = omega arith in
          (rw q at (get_or-in_spliced m at s h (j - at) (omega arith))) ∙ (rw q at (held (j - at) (omega arith)))

pub put_all-length : (l : List Put) (m : List ℕ) → length (put_all l m) ≡ length m
unfolding put_all
put_all-length [] m = refl
put_all-length (p ∷ l) m = put_all-length l (spliced m p.at p.octets) ∙ put-length m p.at p.octets

pub put_all_append : (l k : List Put) (m : List ℕ) → put_all (l ++ k) m ≡ put_all k (put_all l m)
unfolding put_all
put_all_append [] k m = refl
put_all_append (p ∷ l) k m = put_all_append l k (spliced m p.at p.octets)

-- an octet that no put alters is as it was
spared_from : (l : List Put) (own m : List ℕ) (j : ℕ) → get_or m j 0 ≡ get_or own j 0 → AllSpare own j l → get_or (put_all l m) j 0 ≡ get_or own j 0
unfolding put_all
spared_from [] own m j e k = e
spared_from (p ∷ l) own m j e k =
    spared_from l own (spliced m p.at p.octets) j (put_spared m p.at p.octets own j e k.0) k.1

pub spared : (l : List Put) (m : List ℕ) (j : ℕ) → AllSpare m j l → get_or (put_all l m) j 0 ≡ get_or m j 0
spared l m j k = spared_from l m m j refl k

pub spare_append : (l k : List Put) (m : List ℕ) (j : ℕ) → AllSpare m j l → AllSpare m j k → AllSpare m j (l ++ k)
spare_append [] k m j a b = b
spare_append (p ∷ l) k m j a b = (a.0, spare_append l k m j a.1 b)

pub rising_within : (l : List Put) (a e : ℕ) → Rising a l e → a ≤ e
rising_within [] a e r = r
rising_within (p ∷ l) a e r =
    let k = rising_within l (p.at + length p.octets) e r.1 in
    omega (arith, r.0)

pub rising_from : (l : List Put) (a b e : ℕ) → a ≤ b → Rising b l e → Rising a l e
rising_from [] a b e h r = omega arith
rising_from (p ∷ l) a b e h r = (omega (arith, r.0), r.1)

pub rising_append : (l k : List Put) (a b e : ℕ) → Rising a l b → Rising b k e → Rising a (l ++ k) e
rising_append [] k a b e r s = rising_from k a b e r s
rising_append (p ∷ l) k a b e r s = (r.0, rising_append l k (p.at + length p.octets) b e r.1 s)

-- what lies in front of rising puts, and what lies behind them
pub spare_before : (l : List Put) (a e : ℕ) (m : List ℕ) (j : ℕ) → Rising a l e → j < a → AllSpare m j l
spare_before [] a e m j r h = tt
spare_before (p ∷ l) a e m j r h =
    (inl (inl (omega (arith, r.0))), spare_before l (p.at + length p.octets) e m j r.1 (omega (arith, r.0)))

pub spare_past : (l : List Put) (a e : ℕ) (m : List ℕ) (j : ℕ) → Rising a l e → e ≤ j → AllSpare m j l
spare_past [] a e m j r h = tt
spare_past (p ∷ l) a e m j r h =
    let k = rising_within l (p.at + length p.octets) e r.1 in
    (inl (inr (omega arith)), spare_past l (p.at + length p.octets) e m j r.1 h)

pub among_left : {p : Put} {l : List Put} (k : List Put) → Among p l → Among p (l ++ k)
among_left k here = here
among_left k (later x) = later (among_left k x)

pub among_right : {p : Put} (l : List Put) {k : List Put} → Among p k → Among p (l ++ k)
among_right [] x = x
among_right (q ∷ l) x = later (among_right l x)

-- a run of octets stands where it was put
pub put_there : {p : Put} (l : List Put) (a e : ℕ) (m : List ℕ) → Among p l → Rising a l e → e ≤ length m → (k : ℕ) → k < length p.octets → get_or (put_all l m) (p.at + k) 0 ≡ get_or p.octets k 0
unfolding put_all
put_there {p} all a e m (here {l = l}) r h k lt =
    let n = spliced m p.at p.octets in
    let w = rising_within l (p.at + length p.octets) e r.1 in
    spared l n (p.at + k) (spare_before l (p.at + length p.octets) e n (p.at + k) r.1 (omega arith))
    ∙ get_or-in_spliced m p.at p.octets (omega arith) k lt
put_there {p} all a e m (later {q = q} {l = l} x) r h k lt =
    put_there l (q.at + length q.octets) e (spliced m q.at q.octets) x r.1 (rw (put-length m q.at q.octets) h) k lt

-- parts and fields of two memories that agree there
pub part_agrees : (a n : ℕ) (s t : List ℕ) → a + n ≤ length s → a + n ≤ length t → ((k : ℕ) → k < n → get_or s (a + k) 0 ≡ get_or t (a + k) 0) → part_of s a (a + n) ≡ part_of t a (a + n)
part_agrees a n s t h k f =
    let long = length_part s a (a + n) (omega arith) h in
    ext_get_or 0 (part_of s a (a + n)) (part_of t a (a + n)) (long ∙ sym (length_part t a (a + n) (omega arith) k))
    (λ j l. get_or_part s a (a + n) j h (omega arith) ∙ f j (omega (arith, long)) ∙ sym (get_or_part t a (a + n) j k (omega (arith, long))))

pub field_agree : (n at : ℕ) (s t : List ℕ) → at + n ≤ length s → at + n ≤ length t → ((k : ℕ) → k < n → get_or s (at + k) 0 ≡ get_or t (at + k) 0) → field_at n s at ≡ field_at n t at
field_agree n at s t h k f = field_part n s at h ∙ part_agrees at n s t h k f ∙ sym (field_part n t at k)

-- the field that a put filled
pub field_is : (n at : ℕ) (s t : List ℕ) → at + n ≤ length s → length t ≡ n → ((k : ℕ) → k < n → get_or s (at + k) 0 ≡ get_or t k 0) → field_at n s at ≡ t
field_is n at s t h e f =
    field_part n s at h
    ∙ ext_get_or 0 (part_of s at (at + n)) t (length_part s at (at + n) (omega arith) h ∙ omega arith)
    (λ j l.
    let lt : j < n = omega (arith, length_part s at (at + n) (omega arith) h) in
    get_or_part s at (at + n) j h (omega arith) ∙ f j lt)
