-- The octets of a number, one after the other: how many they are, and the loop of `write` that lays them.
use Prim.Native.Nat.{ℕ, zero, suc, ◌+◌, ◌-◌, ◌/◌, ◌%◌, ◌^◌, ◌≤◌, ◌<◌}
use mathlib.Core.Path.{◌≡◌, refl, sym, ap, ◌∙◌}
use mathlib.Core.List.{List, [], ◌∷◌}
use mathlib.Core.Bool.{Bool, true, false, cond}
use native.Mathlib.Nat.{add-zero, pow-suc, div-lt_iff_lt-mul}
use native.Mathlib.Numerals.{add-one}
use mathlib.Core.Logic.{⊎_elim}
use native.Mathlib.Omega.{arith}
use Rattle.std.proofs.lemmas.Bool.{cases_lt}
use lib.ListN.{length, get_or, set, drop, length-drop}
use lib.Seq.{paste, paste-zero, paste-suc, length-paste, drop-drop, get_or-drop}
use lib.Dec.{ltb, lit<, lit≤}
use borrow.Author.Tests.{lt-ltb, le-ltb, le-leb, lt-leb}
use Rattle.number.specs.Groups.{groups, encoded, written_at, with_number_at}
use Rattle.numbers.specs.Table.{wrong_length}
use Rattle.numbers.specs.Counts.{in_octets}
use Rattle.numbers.specs.Answer.{given, refused}

-- a number below 128 is one octet; any other has its low group first
pub one_group : (k n : ℕ) → n < 128 → groups k n ≡ n ∷ []
unfolding groups
one_group zero n h = refl
one_group (suc k) n h = rw (lt-ltb n 128 h)

pub low_group : (k n : ℕ) → 128 ≤ n → groups (suc k) n ≡ (128 + n % 128) ∷ groups k (n / 128)
unfolding groups
low_group k n h = rw (le-ltb n 128 h)

-- where the loop stands: j octets are laid, and the form of rest is left
pub record Laid (s : List ℕ) (at n : ℕ) (octets : List ℕ) (rest j : ℕ) : Type 0 where
  pub few : j ≤ 4
  pub holds : rest < 128 ^ suc (4 - j)
  pub left : drop j (encoded n) ≡ groups (4 - j) rest
  pub room : at + length (encoded n) ≤ length s
  pub laid : octets ≡ paste s at (encoded n) j

pub laid_none : (s : List ℕ) (at n : ℕ) → n < 2 ^ 32 → at + length (encoded n) ≤ length s → Laid s at n s n 0
unfolding encoded
laid_none s at n h r =
    record { few = omega arith; holds = omega arith; left = refl; room = r; laid = paste-zero s at (groups 4 n) }

some_group : (k n : ℕ) → (o : ℕ) × (behind : List ℕ) × (groups k n ≡ o ∷ behind)
unfolding groups
some_group zero n = (n, [], refl)
some_group (suc k) n = go (ltb n 128)
  where
    go : (b : Bool) → (o : ℕ) × (behind : List ℕ) × (cond b (n ∷ []) ((128 + n % 128) ∷ groups k (n / 128)) ≡ o ∷ behind)
    go true = (n, [], refl)
    go false = (128 + n % 128, groups k (n / 128), refl)

head_at : (l : List ℕ) (j o : ℕ) (behind : List ℕ) → drop j l ≡ o ∷ behind → get_or l j 0 ≡ o
head_at l j o behind e = sym (rw add-zero at (get_or-drop j l 0 0)) ∙ ap (λ (r : List ℕ). get_or r 0 0) e

tail_at : (l : List ℕ) (j o : ℕ) (behind : List ℕ) → drop j l ≡ o ∷ behind → drop (j + 1) l ≡ behind
tail_at l j o behind e = sym (drop-drop 1 j l) ∙ ap (drop 1) e

module _ {s : List ℕ} {at n : ℕ} {octets : List ℕ} {rest j : ℕ} (l : Laid s at n octets rest j) where
  -- the octet that is due, and those behind it
  due : (o : ℕ) (behind : List ℕ) → groups (4 - j) rest ≡ o ∷ behind → drop j (encoded n) ≡ o ∷ behind
  due o behind e = l.left ∙ e

  within : (o : ℕ) (behind : List ℕ) → groups (4 - j) rest ≡ o ∷ behind → j < length (encoded n)
  within o behind e = omega (arith, length-drop j (encoded n), ap length (due o behind e))

  stored : (o : ℕ) (behind : List ℕ) → groups (4 - j) rest ≡ o ∷ behind → set octets (at + j) o ≡ paste s at (encoded n) (j + 1)
  stored o behind e =
      let h : j < length (encoded n) = within o behind e in
      rw (l.laid, ← head_at (encoded n) j o behind (due o behind e), add-one)
      (paste-suc s at (encoded n) j 0 (omega (arith, l.room)) h)

  pub length_same : length octets ≡ length s
  length_same =
      let g = some_group (4 - j) rest in
      let h : j < length (encoded n) = within g.0 g.1 g.2 in
      rw l.laid (length-paste s at (encoded n) j (omega (arith, l.room)) (omega arith))

  -- the last group is below 128, and it alone
  last_alone : rest < 128 → j + 1 ≡ length (encoded n)
  last_alone h =
      let g : groups (4 - j) rest ≡ rest ∷ [] = one_group (4 - j) rest h in
      omega (arith, within rest [] g, length-drop (j + 1) (encoded n), ap length (tail_at (encoded n) j rest [] (l.left ∙ g)))

  pub more_left : j + 1 < length (encoded n) → 128 ≤ rest
  more_left h = ⊎_elim (λ (small : rest < 128). absurd (omega (arith, last_alone small))) (λ (large : 128 ≤ rest). large) (cases_lt rest 128)

  two_left : (k : ℕ) → 4 - j ≡ k → 128 ≤ rest → j + 1 < length (encoded n)
  two_left zero e h = absurd (omega (arith, rw e at l.holds))
  two_left (suc k) e h =
      let g : groups (suc k) rest ≡ (128 + rest % 128) ∷ groups k (rest / 128) = low_group k rest h in
      let next = some_group k (rest / 128) in
      let behind : length (groups k (rest / 128)) ≡ suc (length next.1) = ap length next.2 in
      omega (arith, length-drop j (encoded n), ap length (rw e at l.left ∙ g), behind)

  pub none_left : length (encoded n) ≤ j + 1 → rest < 128
  none_left h = ⊎_elim (λ (small : rest < 128). small) (λ (large : 128 ≤ rest). absurd (omega (arith, two_left (4 - j) refl large))) (cases_lt rest 128)

-- a group with another behind it
pub laid_more : (s : List ℕ) (at n : ℕ) (octets : List ℕ) (rest j : ℕ) → Laid s at n octets rest j → j + 1 < length (encoded n) → Laid s at n (set octets (at + j) (rest % 128 + 128)) (rest / 128) (j + 1)
laid_more s at n octets rest j l h = from (4 - j) refl
  where
    large : 128 ≤ rest
    large = more_left l h

    from : (k : ℕ) → 4 - j ≡ k → Laid s at n (set octets (at + j) (rest % 128 + 128)) (rest / 128) (j + 1)
    from zero e = absurd (omega (arith, large, rw e at l.holds))
    from (suc k) e =
        let o : rest % 128 + 128 ≡ 128 + rest % 128 = omega arith in
        let fewer : 4 - (j + 1) ≡ k = omega arith in
        let g : groups (suc k) rest ≡ (128 + rest % 128) ∷ groups k (rest / 128) = low_group k rest large in
        record {
          few = omega arith;
          holds = rw fewer ((div-lt_iff_lt-mul {k = 128} {x = rest} {y = 128 ^ suc k} (lit< tt)).1 (rw (← pow-suc 128 (suc k)) (rw e at l.holds)));
          left = rw fewer (tail_at (encoded n) j _ _ (rw e at l.left ∙ g));
          room = l.room;
          laid = rw o (stored l (128 + rest % 128) (groups k (rest / 128)) (rw e g));
        }

-- the last group
module _ (s : List ℕ) (at n : ℕ) (octets : List ℕ) (rest j : ℕ) (l : Laid s at n octets rest j) (whole : j + 1 ≡ length (encoded n)) where
  pub written_octets : set octets (at + j) rest ≡ with_number_at s (in_octets at) n
  unfolding with_number_at
  written_octets =
      rw (le-leb _ _ l.room, ← whole) (stored l rest [] (one_group (4 - j) rest (none_left l (omega arith))))

  pub written_next : given (in_octets (at + length (encoded n))) ≡ written_at s (in_octets at) n
  unfolding written_at
  written_next = rw (le-leb _ _ l.room)

-- where it does not fit
module _ (s : List ℕ) (at n : ℕ) (h : length s < at + length (encoded n)) where
  pub short_answer : refused wrong_length ≡ written_at s (in_octets at) n
  unfolding written_at
  short_answer = rw (lt-leb _ _ h)

  pub short_octets : s ≡ with_number_at s (in_octets at) n
  unfolding with_number_at
  short_octets = rw (lt-leb _ _ h)

groups_short : (k n : ℕ) → length (groups k n) ≤ suc k
unfolding groups
groups_short zero n = lit≤ tt
groups_short (suc k) n = go (ltb n 128) (groups_short k (n / 128))
  where
    go : (b : Bool) → length (groups k (n / 128)) ≤ suc k → length (cond b (n ∷ []) ((128 + n % 128) ∷ groups k (n / 128))) ≤ suc (suc k)
    go true h = omega arith
    go false h = omega arith

-- a number takes one octet at least
pub encoded_some : (n : ℕ) → 0 < length (encoded n)
unfolding encoded
encoded_some n = let g = some_group 4 n in omega (arith, ap length g.2)

-- a number takes five octets at most
pub encoded_short : (n : ℕ) → length (encoded n) ≤ 5
unfolding encoded
encoded_short n = groups_short 4 n

-- how many octets a number takes
module _ (n : ℕ) where
  pub width_one : n < 128 → length (encoded n) ≡ 1
  unfolding encoded
  width_one h = rw (one_group 4 n h)

  pub width_two : 128 ≤ n → n < 16384 → length (encoded n) ≡ 2
  unfolding encoded
  width_two a b = rw (low_group 3 n a, one_group 3 (n / 128) (omega arith))

  pub width_three : 16384 ≤ n → n < 2097152 → length (encoded n) ≡ 3
  unfolding encoded
  width_three a b =
      let p : 128 ≤ n / 128 = omega arith in
      let q : n / 128 < 16384 = omega arith in
      rw (low_group 3 n (omega arith), low_group 2 (n / 128) p, one_group 2 (n / 128 / 128) (omega arith))

  pub width_four : 2097152 ≤ n → n < 268435456 → length (encoded n) ≡ 4
  unfolding encoded
  width_four a b =
      let p : 16384 ≤ n / 128 = omega arith in
      let q : n / 128 < 2097152 = omega arith in
      let p' : 128 ≤ n / 128 / 128 = omega arith in
      let q' : n / 128 / 128 < 16384 = omega arith in
      rw (low_group 3 n (omega arith), low_group 2 (n / 128) (omega arith), low_group 1 (n / 128 / 128) p', one_group 1 (n / 128 / 128 / 128) (omega arith))

  pub width_five : 268435456 ≤ n → length (encoded n) ≡ 5
  unfolding encoded groups
  width_five a =
      let p : 2097152 ≤ n / 128 = omega arith in
      let p' : 16384 ≤ n / 128 / 128 = omega arith in
      let p'' : 128 ≤ n / 128 / 128 / 128 = omega arith in
      rw (low_group 3 n (omega arith), low_group 2 (n / 128) (omega arith), low_group 1 (n / 128 / 128) (omega arith), low_group 0 (n / 128 / 128 / 128) p'')
