-- The decimal digits of a number, laid from the end of an array.
use Prim.Native.Nat.{ℕ, zero, suc, ◌+◌, ◌-◌, ◌/◌, ◌%◌, ◌^◌, ◌≤◌, ◌<◌}
use mathlib.Core.Path.{◌≡◌, refl, sym, ◌∙◌}
use mathlib.Core.Bool.{Bool, true, false, cond}
use mathlib.Core.List.{List, [], ◌∷◌, ◌++◌, append_assoc, append-nil}
use native.Mathlib.Nat.{pow-suc, div-lt_iff_lt-mul}
use native.Mathlib.Omega.{arith}
use lib.ListN.{length, take, drop, set, length-append, length-set, drop_of_length-le}
use lib.Seq.{set_split, drop_at, length-take-le}
use lib.Dec.{ltb, lit<, lit≤}
use borrow.Author.Tests.{lt-ltb, le-ltb}
use Rattle.text.specs.Text.{decimal, decimal_text}

one_digit : (k n : ℕ) → n < 10 → decimal k n ≡ (48 + n) ∷ []
unfolding decimal
one_digit zero n h = refl
one_digit (suc k) n h = rw (lt-ltb n 10 h)

last_digit : (k n : ℕ) → 10 ≤ n → decimal (suc k) n ≡ decimal k (n / 10) ++ ((48 + n % 10) ∷ [])
unfolding decimal
last_digit k n h = rw (le-ltb n 10 h)

-- how many digits there are at most
decimal_most : (k n : ℕ) → length (decimal k n) ≤ suc k
unfolding decimal
decimal_most zero n = lit≤ tt
decimal_most (suc k) n = go (ltb n 10) (decimal_most k (n / 10))
  where
    go : (b : Bool) → length (decimal k (n / 10)) ≤ suc k → length (cond b ((48 + n) ∷ []) (decimal k (n / 10) ++ ((48 + n % 10) ∷ []))) ≤ suc (suc k)
    go true h = omega arith
    go false h = rw length-append (omega arith)

pub text_most : (n : ℕ) → length (decimal_text n) ≤ 20
unfolding decimal_text
text_most n = decimal_most 19 n

stored : (l : List ℕ) (i a : ℕ) → i < length l → drop i (set l i a) ≡ a ∷ drop (suc i) l
stored l i a h = rw (set_split l i a h) (drop_at (take i l) (a ∷ drop (suc i) l) i (length-take-le i l (omega arith)))

-- where the loop stands: the digits of rest are due before those laid from an offset on
pub record Laid (n rest from : ℕ) (digits : List ℕ) : Type 0 where
  pub long : length digits ≡ 20
  pub some : 1 ≤ from
  pub most : from ≤ 20
  pub holds : rest < 10 ^ from
  pub is : decimal_text n ≡ decimal (from - 1) rest ++ drop from digits

pub none_laid : (n : ℕ) (digits : List ℕ) → n < 2 ^ 64 → length digits ≡ 20 → Laid n n 20 digits
unfolding decimal_text
none_laid n digits h e =
    record {
      long = e;
      some = lit≤ tt;
      most = lit≤ tt;
      holds = omega arith;
      is = rw (drop_of_length-le digits {i = 20} (omega arith)) (sym (append-nil (decimal 19 n)));
    }

-- one digit more
pub digit_laid : (n rest from : ℕ) (digits : List ℕ) → Laid n rest from digits → 10 ≤ rest → Laid n (rest / 10) (from - 1) (set digits (from - 1) (48 + rest % 10))
digit_laid n rest zero digits l h = let z : ⊥ = omega (arith, l.some) in absurd z
digit_laid n rest (suc zero) digits l h = let z : ⊥ = omega (arith, l.holds) in absurd z
digit_laid n rest (suc (suc k)) digits l h =
    let e : suc (suc k) - 1 ≡ suc k = omega arith in
    let f : suc k - 1 ≡ k = omega arith in
    rw e
    (record {
      long = rw length-set l.long;
      some = omega arith;
      most = omega (arith, l.most);
      holds = (div-lt_iff_lt-mul {k = 10} {x = rest} {y = 10 ^ suc k} (lit< tt)).1 (rw (← pow-suc 10 (suc k)) l.holds);
      is =
          l.is
          ∙ rw (e, f, last_digit k rest h, append_assoc, stored digits (suc k) (48 + rest % 10) (omega (arith, l.long, l.most)));
    })

-- the first digit
pub all_laid : (n rest from : ℕ) (digits : List ℕ) → Laid n rest from digits → rest < 10 → drop (from - 1) (set digits (from - 1) (48 + rest)) ≡ decimal_text n
all_laid n rest zero digits l h = let z : ⊥ = omega (arith, l.some) in absurd z
all_laid n rest (suc k) digits l h =
    let e : suc k - 1 ≡ k = omega arith in
    sym (l.is ∙ rw (e, one_digit k rest h, stored digits k (48 + rest) (omega (arith, l.long, l.most))))
