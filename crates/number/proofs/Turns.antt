-- The loop of `read`: what is left to read, after the groups that it has passed, is what stood at the offset.
use Prim.Native.Nat.{ℕ, zero, suc, ◌+◌, ◌-◌, ◌*◌, ◌%◌, ◌^◌, ◌≤◌, ◌<◌}
use mathlib.Core.Path.{◌≡◌, refl, ap₂, ◌∙◌}
use mathlib.Core.List.{List, append-nil}
use Rattle.std.specs.List.{slice_range}
use Rattle.std.proofs.lemmas.List.Folds.{drop_split}
use mathlib.Core.Bool.{cond}
use native.Mathlib.Nat.{mod-lt, pow-suc, pow-le-pow_right, mul-le-mul_right}
use native.Mathlib.Numerals.{add-one}
use native.Mathlib.Omega.{arith}
use lib.ListN.{length, get_or, drop, drop_of_length-le, length-drop}
use lib.Seq.{drop-cons, drop-length}
use lib.Dec.{eqb, lit<}
use borrow.Author.Tests.{lt-ltb, le-ltb, ne_eqb}
use Rattle.number.specs.Groups.{Front, found, none, joined, decoded, bounded, front_number, placed, read_at}
use Rattle.numbers.specs.Table.{faulty_file}
use Rattle.numbers.specs.Counts.{in_octets}
use Rattle.numbers.specs.Answer.{given, refused_at}

-- what stood at the front, where k groups of the value v have been passed and f stands behind them
unfoldable pub after : ℕ → ℕ → ℕ → Front → Front
after zero scale v f = f
after (suc k) scale v none = none
after (suc k) scale v (found n w) = cond (eqb n 0) none (found (v + n * scale) (suc k + w))

after-none : (k scale v : ℕ) → after k scale v none ≡ none
unfolding after
after-none zero scale v = refl
after-none (suc k) scale v = refl

-- one group more
after-joined : (k scale v g : ℕ) (f : Front) → scale ≡ 128 ^ k → v < scale → after k scale v (joined g f) ≡ after (suc k) (scale * 128) (v + g * scale) f
unfolding after joined
after-joined zero scale v g none p q = refl
after-joined (suc k) scale v g none p q = refl
after-joined zero scale v g (found zero w) p q = refl
after-joined (suc k) scale v g (found zero w) p q = refl
after-joined zero scale v g (found (suc n) w) p q =
    let one : scale ≡ 1 = p in
    let none_yet : v ≡ 0 = omega arith in
    rw (ne_eqb (suc n) 0 (omega arith), one, none_yet) (ap₂ found (omega arith) (omega arith))
after-joined (suc k) scale v g (found (suc n) w) p q =
    rw (ne_eqb (suc n) 0 (omega arith), ne_eqb (g + 128 * suc n) 0 (omega arith)) (ap₂ found (omega arith) (omega arith))

-- the last group
after_last : (k scale v o : ℕ) → scale ≡ 128 ^ k → v < scale → (o ≡ 0 → k ≡ 0) → after k scale v (found o 1) ≡ found (v + o * scale) (k + 1)
unfolding after
after_last zero scale v o p q z =
    let one : scale ≡ 1 = p in
    let none_yet : v ≡ 0 = omega arith in
    rw (one, none_yet) (ap₂ found (omega arith) refl)
after_last (suc k) scale v o p q z =
    rw (ne_eqb o 0 (λ e. let y : suc k ≡ 0 = z e in omega arith))

-- a zero as the last group of several
after-zero : (k scale v : ℕ) → 0 < k → after k scale v (found 0 1) ≡ none
unfolding after
after-zero zero scale v p = let y : ⊥ = omega arith in absurd y
after-zero (suc k) scale v p = refl

-- the octet that the loop looks at, by its three cases
decoded-cut : (left next : ℕ) (s : List ℕ) → length s ≤ next → decoded left (drop next s) ≡ none
unfolding decoded
decoded-cut zero next s h = refl
decoded-cut (suc l) next s h = rw (drop_of_length-le s {i = next} h)

decoded_last : (left next : ℕ) (s : List ℕ) → 0 < left → next < length s → get_or s next 0 < 128 → decoded left (drop next s) ≡ found (get_or s next 0) 1
unfolding decoded
decoded_last zero next s p h b = let z : ⊥ = omega arith in absurd z
decoded_last (suc l) next s p h b = rw (drop-cons s next 0 h, lt-ltb (get_or s next 0) 128 b)

decoded_more : (left next : ℕ) (s : List ℕ) → 0 < left → next < length s → 128 ≤ get_or s next 0 → decoded left (drop next s) ≡ joined (get_or s next 0 % 128) (decoded (left - 1) (drop (next + 1) s))
unfolding decoded
decoded_more zero next s p h b = let z : ⊥ = omega arith in absurd z
decoded_more (suc l) next s p h b =
    let e : suc l - 1 ≡ l = omega arith in
    rw (e, add-one, drop-cons s next 0 h, le-ltb (get_or s next 0) 128 b)

-- where the loop stands: k groups passed
pub record Going (s : List ℕ) (value scale k : ℕ) : Type 0 where
  pub few : k ≤ 5
  pub scaled : scale ≡ 128 ^ k
  pub below : value < scale
  pub reads : decoded 5 s ≡ after k scale value (decoded (5 - k) (drop k s))

pub started : (s : List ℕ) → Going s 0 1 0
unfolding after
started s = record { few = omega arith; scaled = refl; below = lit< tt; reads = refl }

-- what a turn may add fits: at most five groups
module _ {s : List ℕ} {value scale k : ℕ} (g : Going s value scale k) (more : k < 5) where
  pub scale_small : scale ≤ 2 ^ 28
  scale_small = rw g.scaled (pow-le-pow_right {n = 128} (lit< tt) {i = k} {j = 4} (omega arith))

  pub product_small : (o : ℕ) → o < 128 → o * scale ≤ 127 * scale
  product_small o h = mul-le-mul_right scale (omega arith)

  -- an octet with its top bit set: the loop goes on
  pub goes_on : k < length s → 128 ≤ get_or s k 0 → Going s (value + get_or s k 0 % 128 * scale) (scale * 128) (k + 1)
  goes_on h b =
      let o : ℕ = get_or s k 0 in
      let fewer : 5 - k - 1 ≡ 5 - (k + 1) = omega arith in
      record {
        few = omega arith;
        scaled = rw (add-one, pow-suc, g.scaled);
        below = omega (arith, product_small (o % 128) (mod-lt o (lit< tt)), g.below);
        reads = g.reads ∙ rw (decoded_more (5 - k) k s (omega arith) h b, fewer, add-one k) (after-joined k scale value (o % 128) (decoded (5 - suc k) (drop (suc k) s)) g.scaled g.below);
      }

  -- an octet with its top bit clear ends the number
  pub ends : k < length s → get_or s k 0 < 128 → (get_or s k 0 ≡ 0 → k ≡ 0) → decoded 5 s ≡ found (value + get_or s k 0 * scale) (k + 1)
  ends h b z =
      g.reads ∙ rw (decoded_last (5 - k) k s (omega arith) h b)
      (after_last k scale value (get_or s k 0) g.scaled g.below z)

  -- a zero group at the end, and not alone
  pub longer : k < length s → get_or s k 0 ≡ 0 → 0 < k → decoded 5 s ≡ none
  longer h e d = g.reads ∙ rw (decoded_last (5 - k) k s (omega arith) h (omega arith), e) (after-zero k scale value d)

  pub cut : length s ≤ k → decoded 5 s ≡ none
  cut h = g.reads ∙ rw (decoded-cut (5 - k) k s h) (after-none k scale value)

-- what is left from an offset on
pub rest_is : (s rest : List ℕ) (at : ℕ) → at ≤ length s → rest ≡ slice_range s at (length s) → drop at s ≡ rest
rest_is s rest at h e = drop_split s at (length s) h ∙ rw (drop-length, e) (append-nil (slice_range s at (length s)))

-- an offset past the end
pub past : (s : List ℕ) (at : ℕ) → length s < at → decoded 5 (drop at s) ≡ none
past s at h = cut (started (drop at s)) (lit< tt) (omega (arith, length-drop at s))

-- five groups and none the last
pub too_many : (s : List ℕ) (value scale k : ℕ) → Going s value scale k → 5 ≤ k → decoded 5 s ≡ none
unfolding decoded
too_many s value scale k g h = let z : 5 - k ≡ 0 = omega arith in g.reads ∙ rw z (after-none k scale value)

-- what the reader answers, by what it decoded
module _ (s : List ℕ) (at : ℕ) where
  pub reads_none : decoded 5 (drop at s) ≡ none → read_at s (in_octets at) ≡ refused_at faulty_file (in_octets at)
  unfolding read_at front_number bounded placed
  reads_none e = rw e

  pub reads_large : (n w : ℕ) → decoded 5 (drop at s) ≡ found n w → 2 ^ 32 ≤ n → read_at s (in_octets at) ≡ refused_at faulty_file (in_octets at)
  unfolding read_at front_number bounded placed
  reads_large n w e h = rw (e, le-ltb n (2 ^ 32) h)

  pub reads_number : (n w : ℕ) → decoded 5 (drop at s) ≡ found n w → n < 2 ^ 32 → read_at s (in_octets at) ≡ given (n, in_octets (at + w))
  unfolding read_at front_number bounded placed
  reads_number n w e h = rw (e, lt-ltb n (2 ^ 32) h)
