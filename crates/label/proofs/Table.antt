-- What the first octet tells of its row of RFC 3629's table: each law is one test that is computed over all octets.
use mathlib.Core.Path.{◌≡◌, refl, sym, ap, ◌∙◌}
use mathlib.Core.Bool.{Bool, true, false, cond, ◌&&◌, false≢true}
use mathlib.Core.List.{List, [], ◌∷◌}
use mathlib.Core.Logic.{⊎_elim}
use Prim.Native.Nat.{ℕ, zero, suc, ◌+◌, ◌-◌, ◌≤◌, ◌<◌}
use native.Mathlib.Nat.{eq-or-lt_of_le, le_of_suc-le-suc}
use native.Mathlib.Omega.{arith}
use borrow.Author.Tests.{eqb-true, lt-ltb, le-ltb}
use lib.Dec.{ltb, eqb}
use lib.ListN.{length, get_or, drop}
use lib.Seq.{get_or-drop}
use Rattle.label.specs.Utf8.{Range, tail, table, begins}
use Rattle.label.specs.Lead.{row_among, row_of}

pub and_true : (a b : Bool) → a && b ≡ true → (a ≡ true) × (b ≡ true)
and_true true b e = (refl, e)
and_true false b e = absurd (false≢true e)

-- the test passes at each number below a bound
every : (ℕ → Bool) → ℕ → Bool
every test zero = true
every test (suc n) = test n && every test n

below : (test : ℕ → Bool) (n : ℕ) → every test n ≡ true → (k : ℕ) → k < n → test k ≡ true
unfolding every
below test zero passes k h = absurd (omega arith)
below test (suc n) passes k h =
    let both : (test n ≡ true) × (every test n ≡ true) = and_true (test n) (every test n) passes in
    ⊎_elim (λ (e : k ≡ n). ap test e ∙ both.0) (λ (l : k < n). below test n both.1 k l) (eq-or-lt_of_le (le_of_suc-le-suc h))

is_tail : Range → Bool
is_tail range = eqb range.least 0x80 && eqb range.greatest 0xBF

tail_is : (range : Range) → is_tail range ≡ true → range ≡ tail
unfolding is_tail
tail_is range t =
    let both : (eqb range.least 0x80 ≡ true) × (eqb range.greatest 0xBF ≡ true) = and_true (eqb range.least 0x80) (eqb range.greatest 0xBF) t in
    λ i. record { least = eqb-true range.least 0x80 both.0 i; greatest = eqb-true range.greatest 0xBF both.1 i }

tails : List Range → Bool
tails [] = true
tails (range ∷ row) = is_tail range && tails row

tails_at : (row : List Range) → tails row ≡ true → (i : ℕ) → get_or row i tail ≡ tail
unfolding tails
tails_at [] t i = refl
tails_at (range ∷ row) t zero = tail_is range (and_true (is_tail range) (tails row) t).0
tails_at (range ∷ row) t (suc i) = tails_at row (and_true (is_tail range) (tails row) t).1 i

length_test : ℕ → Bool
length_test lead = eqb (length (row_of lead)) (cond (ltb lead 0x80) 1 (cond (ltb lead 0xC2) 0 (cond (ltb lead 0xE0) 2 (cond (ltb lead 0xF0) 3 (cond (ltb lead 0xF5) 4 0)))))

least_test : ℕ → Bool
least_test lead = eqb (get_or (row_of lead) 1 tail).least (cond (eqb lead 0xE0) 0xA0 (cond (eqb lead 0xF0) 0x90 0x80))

greatest_test : ℕ → Bool
greatest_test lead = eqb (get_or (row_of lead) 1 tail).greatest (cond (eqb lead 0xED) 0x9F (cond (eqb lead 0xF4) 0x8F 0xBF))

later_test : ℕ → Bool
later_test lead = tails (drop 2 (row_of lead))

module _ (lead : ℕ) (octet : lead < 256) where
  pub row_length : length (row_of lead) ≡ cond (ltb lead 0x80) 1 (cond (ltb lead 0xC2) 0 (cond (ltb lead 0xE0) 2 (cond (ltb lead 0xF0) 3 (cond (ltb lead 0xF5) 4 0))))
  unfolding table begins row_among row_of every length_test
  row_length = eqb-true _ _ (below length_test 256 refl lead octet)

  pub one_octet : lead < 0x80 → length (row_of lead) ≡ 1
  one_octet h = rw (row_length, lt-ltb _ _ h)

  pub none_between : 0x80 ≤ lead → lead < 0xC2 → length (row_of lead) ≡ 0
  none_between low high = rw (row_length, le-ltb _ _ low, lt-ltb _ _ high)

  pub two_octets : 0xC2 ≤ lead → lead < 0xE0 → length (row_of lead) ≡ 2
  two_octets low high = rw (row_length, le-ltb lead 0x80 (omega arith), le-ltb _ _ low, lt-ltb _ _ high)

  pub three_octets : 0xE0 ≤ lead → lead < 0xF0 → length (row_of lead) ≡ 3
  three_octets low high = rw (row_length, le-ltb lead 0x80 (omega arith), le-ltb lead 0xC2 (omega arith), le-ltb _ _ low, lt-ltb _ _ high)

  pub four_octets : 0xF0 ≤ lead → lead < 0xF5 → length (row_of lead) ≡ 4
  four_octets low high = rw (row_length, le-ltb lead 0x80 (omega arith), le-ltb lead 0xC2 (omega arith), le-ltb lead 0xE0 (omega arith), le-ltb _ _ low, lt-ltb _ _ high)

  pub none_above : 0xF5 ≤ lead → length (row_of lead) ≡ 0
  none_above low = rw (row_length, le-ltb lead 0x80 (omega arith), le-ltb lead 0xC2 (omega arith), le-ltb lead 0xE0 (omega arith), le-ltb lead 0xF0 (omega arith), le-ltb _ _ low)

  pub second_least : (get_or (row_of lead) 1 tail).least ≡ cond (eqb lead 0xE0) 0xA0 (cond (eqb lead 0xF0) 0x90 0x80)
  unfolding table begins row_among row_of every least_test
  second_least = eqb-true _ _ (below least_test 256 refl lead octet)

  pub second_greatest : (get_or (row_of lead) 1 tail).greatest ≡ cond (eqb lead 0xED) 0x9F (cond (eqb lead 0xF4) 0x8F 0xBF)
  unfolding table begins row_among row_of every greatest_test
  second_greatest = eqb-true _ _ (below greatest_test 256 refl lead octet)

  later-tails : tails (drop 2 (row_of lead)) ≡ true
  unfolding table begins row_among row_of every is_tail tails later_test
  later-tails = below later_test 256 refl lead octet

  -- every range after the second is that of a tail octet
  pub later : (place : ℕ) → 2 ≤ place → get_or (row_of lead) place tail ≡ tail
  later place h =
      let e : place ≡ 2 + (place - 2) = omega arith in
      ap (λ (i : ℕ). get_or (row_of lead) i tail) e ∙ (sym (get_or-drop 2 (row_of lead) (place - 2) tail) ∙ tails_at (drop 2 (row_of lead)) later-tails (place - 2))
