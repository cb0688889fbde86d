-- A word and a parity represent octets: the check key is found from them, and they are added to those of octets that follow. Every step of
-- specs/Residues keeps exclusive or, so a law of words holds if it holds at the single bits, which antt computes.
-- Assumes nothing.
use mathlib.Core.Path.{◌≡◌, refl, sym, ap, ap₂, ◌∙◌}
use mathlib.Core.Bool.{Bool, true, false, xor}
use mathlib.Core.List.{List, [], ◌∷◌, ◌++◌, reverse}
use Prim.Native.Nat.{ℕ, ◌+◌, ◌-◌, ◌*◌, ◌^◌, ◌≤◌, ◌<◌}
use native.Mathlib.Numerals.{add-one}
use native.Mathlib.Omega.{arith}
use lib.Bits.{bit_xor, xor_lt}
use lib.Dec.{T}
use lib.ListN.{length, drop, get_or, replicate, length-drop}
use lib.Seq.{drop-cons}
use Rattle.computed.specs.Steps.{Steps, value}
use Rattle.computed.specs.Steps.{left}
use Rattle.computed.proofs.Tests.{below, at}
use Rattle.computed.proofs.Xor.{xor_pairs}
use Rattle.computed.proofs.Additive.{after, added, agreeing, agree, Additive-value}
use Rattle.crc.specs.Polynomial.{plus, times, step, reduce}
use Rattle.crc.specs.Transmission.{bits, number}
use Rattle.crc.specs.AnnexE.{divisor, remainder, check_key}
use Rattle.crc.specs.Residues.{moved, of_word, of_parity, check_key_of, Represent}
use Rattle.crc.proofs.CheckKey.{check_key_nil, remainder_of, Additive-remainder_of, check_key_one, check_key_append}

-- D(X) = (X + 1) (X^15 + X + 1), the lowest power first
pub factors : times (true ∷ true ∷ []) (true ∷ true ∷ (replicate 13 false ++ true ∷ [])) ≡ reverse divisor
unfolding times plus xor
factors = refl

-- v and p are what represents s, moved on by the octets t
followed : (s t : List ℕ) (n : ℕ) → length t ≡ n → {v p w q : ℕ} → v < 2 ^ 64 → p < 2 ^ 64 → check_key_of v p ≡ remainder_of (n * 8) (check_key s)
    → Represent w q t → Represent (bit_xor v w) (bit_xor p q) (s ++ t)
unfolding check_key_of
followed s t n l {v} {p} {w} {q} hv hp e r = record {
  word_fits = xor_lt 64 v w hv r.word_fits;
  parity_fits = xor_lt 64 p q hp r.parity_fits;
  same_check_key = ap₂ bit_xor ((Additive-value of_word).law v w) ((Additive-value of_parity).law p q)
      ∙ xor_pairs (value of_word v) (value of_word w) (value of_parity p) (value of_parity q)
      ∙ ap₂ bit_xor e r.same_check_key ∙ sym (check_key_append s t n l);
}

-- ---- at most eight octets

pub no_octets : Represent 0 0 []
unfolding check_key_of
no_octets = record { word_fits = omega arith; parity_fits = omega arith; same_check_key = sym check_key_nil }

-- the octet that n octets follow
abbrev octet_test : ℕ → Bool
octet_test n = agreeing (λ o. check_key_of (value (left (56 - n * 8)) o) (value (left (56 - n * 8)) o)) (λ o. remainder_of (n * 8) (remainder_of 8 o)) 8

octet_tests : T (below 8 octet_test)
unfolding check_key_of remainder_of remainder reduce step plus xor bits number
octet_tests = tt

one_octet : (n o : ℕ) → n < 8 → o < 256
    → check_key_of (value (left (56 - n * 8)) o) (value (left (56 - n * 8)) o) ≡ remainder_of (n * 8) (check_key (o ∷ []))
unfolding check_key_of
one_octet n o h b =
    let place = Additive-value (left (56 - n * 8)) in
    agree (after place (added (Additive-value of_word) (Additive-value of_parity))) (after (Additive-remainder_of 8) (Additive-remainder_of (n * 8))) 8
    (at 8 octet_test octet_tests n h) o b
    ∙ ap (remainder_of (n * 8)) (sym (check_key_one o b))

-- the octet at i, before those after it
pub next_octet : (s : List ℕ) (i o : ℕ) → length s ≤ 8 → i < length s → o ≡ get_or s i 0 → o < 256 → {x : ℕ} → Represent x x (drop (i + 1) s)
    → let w : ℕ = bit_xor (value (left (64 - 8 * (length s - i))) o) x in Represent w w (drop i s)
next_octet s i o h l e b r =
    let n : ℕ = length s - (i + 1) in
    let z : 64 - 8 * (length s - i) ≡ 56 - n * 8 = omega arith in
    rw (z, drop-cons s i 0, ← add-one i, ← e)
    (followed (o ∷ []) (drop (i + 1) s) n (length-drop (i + 1) s) (omega arith) (omega arith) (one_octet n o (omega arith) b) r)

-- ---- more octets

-- the steps are the product with X^m by X^15 + X + 1; by X + 1 it is 1
pub record Moves (m : ℕ) (on : Steps) : Type 0 where
  pub word : T (agreeing (λ v. value of_word (value on v)) (λ v. remainder_of m (value of_word v)) 64)
  pub parity : T (agreeing (value of_parity) (λ p. remainder_of m (value of_parity p)) 64)

-- X^64 = X^8 + X^4, X^128 = X^16 + X^8
pub eight_octets : Moves (8 * 8) (moved 8 4)
unfolding remainder_of remainder reduce step plus xor bits number
eight_octets = record { word = tt; parity = tt }

pub sixteen_octets : Moves (16 * 8) (moved 16 8)
unfolding remainder_of remainder reduce step plus xor bits number
sixteen_octets = record { word = tt; parity = tt }

-- n octets after those before them
pub next_octets : (n : ℕ) {on : Steps} → Moves (n * 8) on → (s t : List ℕ) → length t ≡ n → {v p w q a : ℕ}
    → Represent v p s → Represent w q t → a ≡ value on v → a < 2 ^ 64 → Represent (bit_xor a w) (bit_xor p q) (s ++ t)
unfolding check_key_of
next_octets n {on} m s t l {v} {p} {w} {q} {a} h g e b =
    followed s t n l b h.parity_fits
    (ap (λ (x : ℕ). check_key_of x p) e
    ∙ ap₂ bit_xor
    (agree (after (Additive-value on) (Additive-value of_word)) (after (Additive-value of_word) (Additive-remainder_of (n * 8))) 64 m.word v h.word_fits)
    (agree (Additive-value of_parity) (after (Additive-value of_parity) (Additive-remainder_of (n * 8))) 64 m.parity p h.parity_fits)
    ∙ sym ((Additive-remainder_of (n * 8)).law (value of_word v) (value of_parity p)) ∙ ap (remainder_of (n * 8)) h.same_check_key)
    g
