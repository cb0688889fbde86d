-- The parity bits of the key, bits 8, 16 .. 64, play no part: PC-1 selects none of them.
-- It selects every other bit, so C and D tell the rest of the key.
-- Assumes nothing.
use mathlib.Core.Path.{◌≡◌, ap, sym, ◌∙◌, subst}
use mathlib.Core.List.{List, [], ◌∷◌, ◌++◌, flat_map}
use Prim.Native.Nat.{ℕ, zero, suc, ◌+◌, ◌-◌, ◌*◌, ◌/◌, ◌%◌, ◌^◌, ◌<◌}
use native.Mathlib.Nat.{zero-div, div-add-mod, mod-eq_of_lt}
use native.Mathlib.Omega.{arith}
use lib.Dec.{ltb, ltb→lt}
use lib.ListN.{length, get_or, get_or-append}
use lib.Pow.{shr-shr}
use lib.Seq.{ext_get_or, get_or-append-add}
use Rattle.des.specs.Tables.{PC1, PC2, IP, inverse_ip, left_shifts}
use Rattle.des.specs.Des.{bits_of, number, bits, octets, permuted, exchanged, both_shifted, key_halves, round_key, computation, encipher, decipher}
use Rattle.des.specs.Rows.{count}
use Rattle.computed.proofs.Tests.{below, at}
use Rattle.des.proofs.Strings.{length-bits_of, get_or-bits_of, number-bits_of}
use Rattle.des.proofs.Permutations.{length-permuted, get_or-permuted, named_same}
use Rattle.des.proofs.Feistel.{rounds_same}
use Rattle.des.proofs.Inverse.{AreOctets}

-- bit r of octet q, both counted from 0
get_or-bits : (o : List ℕ) (q r : ℕ) → r < 8 → get_or (bits o) (8 * q + r) 0 ≡ get_or o q 0 / 2 ^ (7 - r) % 2
unfolding bits flat_map
get_or-bits [] q r h = sym (ap (λ (x : ℕ). x % 2) (zero-div (2 ^ (7 - r))))
get_or-bits (x ∷ o) zero r h =
    let e : 8 * 0 + r ≡ r = omega arith in
    let f : 8 - suc r ≡ 7 - r = omega arith in
    ap (λ (i : ℕ). get_or (bits_of 8 x ++ bits o) i 0) e
    ∙ get_or-append (bits_of 8 x) (bits o) 0 r (subst (λ (n : ℕ). r < n) (sym (length-bits_of 8 x)) h)
    ∙ get_or-bits_of 8 x r h
    ∙ ap (λ (n : ℕ). x / 2 ^ n % 2) f
get_or-bits (x ∷ o) (suc q) r h =
    let e : 8 * suc q + r ≡ 8 + (8 * q + r) = omega arith in
    ap (λ (i : ℕ). get_or (bits_of 8 x ++ bits o) i 0) (e ∙ ap (λ (n : ℕ). n + (8 * q + r)) (sym (length-bits_of 8 x)))
    ∙ get_or-append-add (bits_of 8 x) (bits o) (8 * q + r) 0
    ∙ get_or-bits o q r h

-- a bit that is not the last of its octet is a bit of the octet's half
get_or-bits_half : (o : List ℕ) (q r : ℕ) → r < 7 → get_or (bits o) (8 * q + r) 0 ≡ get_or (bits_of 7 (get_or o q 0 / 2)) r 0
get_or-bits_half o q r h =
    let x = get_or o q 0 in
    let e : 7 - r ≡ 1 + (7 - suc r) = omega arith in
    get_or-bits o q r (omega arith)
    ∙ ap (λ (n : ℕ). x / 2 ^ n % 2) e
    ∙ ap (λ (y : ℕ). y % 2) (sym (shr-shr x 1 (7 - suc r)))
    ∙ sym (get_or-bits_of 7 (x / 2) r h)

-- the last bit of each octet apart, the keys are the same
abbrev pub Alike : List ℕ → List ℕ → Type 0
Alike a b = (i : ℕ) → get_or a i 0 / 2 ≡ get_or b i 0 / 2

module _ (a b : List ℕ) (alike : Alike a b) where
  -- a bit that is not the last of its octet is the same in both
  same_bit : (i : ℕ) → i % 8 < 7 → get_or (bits a) i 0 ≡ get_or (bits b) i 0
  same_bit i h =
      let q = i / 8 in
      let r = i % 8 in
      let at_octet : (o : List ℕ) → get_or (bits o) i 0 ≡ get_or (bits_of 7 (get_or o q 0 / 2)) r 0 =
      λ o. ap (λ (n : ℕ). get_or (bits o) n 0) (sym (div-add-mod i 8)) ∙ get_or-bits_half o q r h in
      at_octet a ∙ ap (λ (x : ℕ). get_or (bits_of 7 x) r 0) (alike q) ∙ sym (at_octet b)

  same_choice : permuted PC1 (bits a) ≡ permuted PC1 (bits b)
  unfolding PC1
  same_choice =
      ext_get_or 0 (permuted PC1 (bits a)) (permuted PC1 (bits b)) (length-permuted PC1 (bits a) ∙ sym (length-permuted PC1 (bits b)))
      (λ i h.
      let l : i < length PC1 = subst (λ (n : ℕ). i < n) (length-permuted PC1 (bits a)) h in
      let j = get_or PC1 i 0 - 1 in
      get_or-permuted PC1 (bits a) i l
      ∙ same_bit j (ltb→lt (j % 8) 7 (at 56 (λ i. ltb ((get_or PC1 i 0 - 1) % 8) 7) tt i l))
      ∙ sym (get_or-permuted PC1 (bits b) i l))

  pub same_halves : (n : ℕ) → key_halves a n ≡ key_halves b n
  unfolding key_halves
  same_halves zero = same_choice
  same_halves (suc n) = ap (both_shifted (get_or left_shifts n 0)) (same_halves n)

  pub same_round_key : (n : ℕ) → round_key a n ≡ round_key b n
  unfolding round_key
  same_round_key n = ap (permuted PC2) (same_halves n)

  pub encipher_parity : (block : List ℕ) → encipher a block ≡ encipher b block
  unfolding encipher computation
  encipher_parity block =
      ap (λ (x : List ℕ). octets 8 (permuted inverse_ip (exchanged x)))
      (rounds_same (round_key a) (round_key b) (permuted IP (bits block)) same_round_key 16)

  pub decipher_parity : (block : List ℕ) → decipher a block ≡ decipher b block
  unfolding decipher computation
  decipher_parity block =
      ap (λ (x : List ℕ). octets 8 (permuted inverse_ip (exchanged x)))
      (rounds_same (λ n. round_key a (17 - n)) (λ n. round_key b (17 - n)) (permuted IP (bits block)) (λ n. same_round_key (17 - n)) 16)

-- ---- what C and D tell of the key

-- PC-1 names each of the first seven bits of each octet
PC1_names : (q r : ℕ) → q < 8 → r < 7 → 0 < count (suc (8 * q + r)) PC1
unfolding PC1 count
PC1_names q r h k =
    ltb→lt 0 (count (suc (8 * q + r)) PC1)
    (at 7 (λ r. ltb 0 (count (suc (8 * q + r)) PC1)) (at 8 (λ q. below 7 (λ r. ltb 0 (count (suc (8 * q + r)) PC1))) tt q h) r k)

-- the half of an octet is the number of its first seven bits
number_half : (x : ℕ) → x < 256 → number (bits_of 7 (x / 2)) ≡ x / 2
number_half x h = number-bits_of 7 (x / 2) ∙ mod-eq_of_lt (omega arith)

-- keys with the same C and D are the same, the last bit of each octet apart
pub choice_alike : (a b : List ℕ) → AreOctets a → AreOctets b → permuted PC1 (bits a) ≡ permuted PC1 (bits b)
    → (q : ℕ) → q < 8 → get_or a q 0 / 2 ≡ get_or b q 0 / 2
choice_alike a b oa ob e q h =
    let x = get_or a q 0 / 2 in
    let y = get_or b q 0 / 2 in
    let same_bits : bits_of 7 x ≡ bits_of 7 y =
    ext_get_or 0 (bits_of 7 x) (bits_of 7 y) (length-bits_of 7 x ∙ sym (length-bits_of 7 y))
    (λ r l.
    let k : r < 7 = omega (arith, length-bits_of 7 x) in
    sym (get_or-bits_half a q r k) ∙ named_same PC1 (bits a) (bits b) e (8 * q + r) (PC1_names q r h k) ∙ get_or-bits_half b q r k) in
    sym (number_half (get_or a q 0) (oa q)) ∙ ap number same_bits ∙ number_half (get_or b q 0) (ob q)
