-- The receiver's test: octets with 16 bits after them are divisible by D(X) exactly if these are the octets' key, since the two sums cancel.
-- Assumes nothing.
use mathlib.Core.Path.{◌≡◌, refl, sym, ap, ap₂, ◌∙◌}
use mathlib.Core.Bool.{Bool, true, false}
use mathlib.Core.List.{List, [], ◌∷◌, ◌++◌, append-nil}
use mathlib.Core.Logic.{◌↔◌}
use Prim.Native.Nat.{ℕ, zero, suc, ◌+◌, ◌-◌, ◌*◌, ◌/◌, ◌%◌, ◌≤◌, ◌<◌}
use native.Mathlib.Omega.{arith}
use borrow.Author.Tests.{eq-eqb, ne_eqb, eqb-true, eqb-false}
use lib.Bits.{bit_xor, xor_self, xor_lt, xor_add_and, and_le_l, and_le_r}
use lib.Dec.{eqb, eqb-suc-zero}
use lib.ListN.{length, take, drop, get_or, replicate, take-append-drop, drop_of_length-le}
use lib.Seq.{drop-cons}
use Rattle.crc.specs.Transmission.{bits, number, transmitted}
use Rattle.crc.specs.AnnexE.{remainder, check_key, check_key_octets, is_zero, divides}
use Rattle.crc.proofs.Bits.{number-bits, bits_octets, transmitted_append}
use Rattle.crc.proofs.Remainder.{times_powers}
use Rattle.crc.proofs.CheckKey.{check_key_lt, remainder-check_key}

is_zero-number : (p : List Bool) → is_zero p ≡ eqb (number p) 0
unfolding is_zero number
is_zero-number [] = refl
is_zero-number (true ∷ p) = sym (ne_eqb (number p * 2 + 1) 0 (λ e. omega arith))
is_zero-number (false ∷ p) = is_zero-number p ∙ go (number p)
  where
    go : (n : ℕ) → eqb n 0 ≡ eqb (n * 2 + 0) 0
    go zero = refl
    go (suc n) = eqb-suc-zero n ∙ sym (ne_eqb (suc n * 2 + 0) 0 (λ e. omega arith))

-- octets are divisible exactly if their key is 0
pub divides-check_key : (s : List ℕ) → divides s ≡ eqb (check_key s) 0
unfolding divides check_key
divides-check_key s = sym (times_powers 16 (transmitted s)) ∙ is_zero-number (remainder (transmitted s ++ replicate 16 false))

xor_zero : (a b : ℕ) → bit_xor a b ≡ 0 → a ≡ b
xor_zero a b e = omega (arith, xor_add_and a b, and_le_l a b, and_le_r a b)

eqb_xor : (a b : ℕ) → eqb (bit_xor a b) 0 ≡ eqb a b
eqb_xor a b = go (eqb a b) refl
  where
    go : (t : Bool) → eqb a b ≡ t → eqb (bit_xor a b) 0 ≡ t
    go true e = eq-eqb (bit_xor a b) 0 (ap (bit_xor a) (sym (eqb-true a b e)) ∙ xor_self a)
    go false e = ne_eqb (bit_xor a b) 0 (λ z. eqb-false a b e (xor_zero a b z))

-- two octets more: the receiver's test compares them with the key
pub divides_octets : (s : List ℕ) (low high : ℕ) → low < 256 → high < 256 → divides (s ++ (low ∷ high ∷ [])) ≡ eqb (check_key s) (high * 256 + low)
unfolding divides transmitted
divides_octets s low high hl hh =
    ap (λ (p : List Bool). is_zero (remainder p))
    (transmitted_append s (low ∷ high ∷ []) ∙ ap (λ (p : List Bool). transmitted s ++ p)
    (ap (λ (p : List Bool). bits 8 low ++ p) (append-nil (bits 8 high)) ∙ sym (bits_octets low high hl)))
    ∙ ap is_zero (remainder-check_key s (high * 256 + low)) ∙ is_zero-number (bits 16 (bit_xor (check_key s) (high * 256 + low)))
    ∙ ap (λ (n : ℕ). eqb n 0)
    (number-bits 16 (bit_xor (check_key s) (high * 256 + low)) (xor_lt 16 (check_key s) (high * 256 + low) (check_key_lt s) (omega arith)))
    ∙ eqb_xor (check_key s) (high * 256 + low)

-- octets followed by their key pass the test (E.2, E.3)
pub check_key_appended : (s : List ℕ) → divides (s ++ check_key_octets s) ≡ true
check_key_appended s =
    let h : check_key s < 65536 = check_key_lt s in
    divides_octets s (check_key s % 256) (check_key s / 256) (omega arith) (omega arith)
    ∙ eq-eqb (check_key s) (check_key s / 256 * 256 + check_key s % 256) (omega arith)

-- the last two octets of a list
pub last_octets : (t : List ℕ) → 2 ≤ length t → drop (length t - 2) t ≡ get_or t (length t - 2) 0 ∷ get_or t (length t - 1) 0 ∷ []
last_octets t h =
    let e : suc (length t - 2) ≡ length t - 1 = omega arith in
    drop-cons t (length t - 2) 0 (omega arith)
    ∙ ap {B = List ℕ} (λ l. get_or t (length t - 2) 0 ∷ l)
    (ap (λ (n : ℕ). drop n t) e ∙ drop-cons t (length t - 1) 0 (omega arith)
    ∙ ap {B = List ℕ} (λ l. get_or t (length t - 1) 0 ∷ l) (drop_of_length-le t {i = suc (length t - 1)} (omega arith)))

-- at least two octets pass the test exactly if the last two are the key of the rest
module _ (t : List ℕ) (octets : (i : ℕ) → get_or t i 0 < 256) (h : 2 ≤ length t) where
  own_check_key : divides t ≡ true → drop (length t - 2) t ≡ check_key_octets (take (length t - 2) t)
  own_check_key d =
      let s : List ℕ = take (length t - 2) t in
      let low : ℕ = get_or t (length t - 2) 0 in
      let high : ℕ = get_or t (length t - 1) 0 in
      let hl : low < 256 = octets (length t - 2) in
      let split : s ++ (low ∷ high ∷ []) ≡ t = ap (λ (l : List ℕ). s ++ l) (sym (last_octets t h)) ∙ take-append-drop (length t - 2) t in
      let e : check_key s ≡ high * 256 + low
      = eqb-true (check_key s) (high * 256 + low) (sym (divides_octets s low high hl (octets (length t - 1))) ∙ ap divides split ∙ d) in
      last_octets t h ∙ ap₂ {C = List ℕ} (λ l r. l ∷ r ∷ []) (let q : low ≡ check_key s % 256 = omega arith in q) (let q : high ≡ check_key s / 256 = omega arith in q)

  pub divides_exactly : divides t ≡ true ↔ drop (length t - 2) t ≡ check_key_octets (take (length t - 2) t)
  divides_exactly = (
    own_check_key,
    λ e. ap divides (sym (take-append-drop (length t - 2) t) ∙ ap (λ (l : List ℕ). take (length t - 2) t ++ l) e) ∙ check_key_appended (take (length t - 2) t),
  )
