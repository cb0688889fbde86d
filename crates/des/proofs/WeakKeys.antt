-- DES's weak keys are the keys that have one round key in all sixteen rounds, and enciphering twice under one gives the block back.
-- Assumes nothing.
use mathlib.Core.Path.{◌≡◌, refl, ap, sym, ◌∙◌, subst}
use mathlib.Core.Bool.{Bool, true, false, ◌||◌, false≢true}
use mathlib.Core.List.{List, [], ◌∷◌, ◌++◌, map, flat_map}
use Prim.Native.Nat.{ℕ, zero, suc, ◌+◌, ◌-◌, ◌*◌, ◌/◌, ◌%◌, ◌<◌, ◌≤◌}
use native.Mathlib.Omega.{arith}
use lib.Dec.{T, ltb, ltb→lt, lit<}
use lib.ListN.{length, get_or, take, drop, replicate, get_or-map, length-map}
use lib.Pow.{are_bytes}
use lib.Seq.{ext_get_or}
use Rattle.octets.specs.Part.{same}
use Rattle.octets.proofs.Same.{same_equal}
use Rattle.des.specs.Tables.{PC1, PC2}
use Rattle.des.specs.Des.{bits_of, bits, permuted, left_shift, both_shifted, key_halves, round_key, encipher}
use Rattle.des.specs.WeakKeys.{without_parity, weak_keys, among, weak}
use Rattle.computed.proofs.Tests.{first_of, second_of}
use Rattle.des.proofs.Strings.{AreBits, AreBits-take, AreBits-drop, AreBits-bits, AreBits-permuted}
use Rattle.des.proofs.KeySchedule.{length-key_halves}
use Rattle.des.proofs.Inverse.{AreOctets, computation_back}
use Rattle.des.proofs.Parity.{Alike, same_halves, choice_alike}
use Rattle.des.proofs.EqualRoundKeys.{Unmoved, unmoved_halves, unmoved_bits, equal_unmoved}

-- the round keys of the sixteen rounds are one and the same
abbrev pub OneRoundKey : List ℕ → Type 0
OneRoundKey key = (n : ℕ) → 0 < n → n ≤ 16 → round_key key n ≡ round_key key 1

-- ---- the weak keys have one round key

-- an octet without its parity bit is its half
get_or-without_parity : (key : List ℕ) (i : ℕ) → get_or (without_parity key) i 0 ≡ get_or key i 0 / 2
unfolding without_parity
get_or-without_parity key i = get_or-map (λ o. o / 2) key i 0

length-without_parity : (key : List ℕ) → length (without_parity key) ≡ length key
unfolding without_parity
length-without_parity key = length-map key (λ o. o / 2)

-- keys that are the same without their parity bits are alike
alike : (a b : List ℕ) → without_parity a ≡ without_parity b → Alike a b
alike a b e i = sym (get_or-without_parity a i) ∙ ap (λ (l : List ℕ). get_or l i 0) e ∙ get_or-without_parity b i

-- P holds of each of these keys
abbrev Each : (List ℕ → Type 0) → List (List ℕ) → Type 0
Each P [] = Unit {0}
Each P (w ∷ ws) = P w × Each P ws

-- what holds of each of these keys, whatever its parity bits, holds of a key that is among them
among_each : (P : List ℕ → Type 0) (key : List ℕ) → ((w : List ℕ) → without_parity key ≡ without_parity w → P w → P key)
    → (ws : List (List ℕ)) → Each P ws → among key ws ≡ true → P key
among_each P key carried [] each e = absurd (false≢true e)
among_each P key carried (w ∷ ws) each e = go (same (without_parity key) (without_parity w)) refl e (among_each P key carried ws each.1)
  where
    go : (found : Bool) → same (without_parity key) (without_parity w) ≡ found → (found || among key ws) ≡ true → (among key ws ≡ true → P key) → P key
    go true s e later = carried w (same_equal (without_parity key) (without_parity w) s) each.0
    go false s e later = later e

-- a left shift leaves C and D of each key of the list as they are: antt computes both
each_unmoved : Each (λ w. Unmoved (key_halves w 0)) weak_keys
unfolding weak_keys bits_of bits flat_map permuted PC1 key_halves left_shift both_shifted
each_unmoved = (refl, (refl, (refl, (refl, tt))))

module _ (key : List ℕ) (e : weak key ≡ true) where
  -- a left shift leaves C and D of a weak key as they are
  weak_unmoved : Unmoved (key_halves key 0)
  unfolding weak
  weak_unmoved =
      among_each (λ w. Unmoved (key_halves w 0)) key (λ w h. subst Unmoved (sym (same_halves key w (alike key w h) 0))) weak_keys each_unmoved e

  -- a weak key has one and the same round key in all sixteen rounds
  pub weak_one_round_key : OneRoundKey key
  unfolding round_key
  weak_one_round_key n h k =
      ap (permuted PC2) (unmoved_halves key weak_unmoved n k ∙ sym (unmoved_halves key weak_unmoved 1 (omega arith)))

  -- enciphering twice under a weak key gives the block back
  pub weak_undone : (block : List ℕ) → length block ≡ 8 → AreOctets block → encipher key (encipher key block) ≡ block
  unfolding encipher
  weak_undone block =
      computation_back (round_key key) block (round_key key)
      (λ i h k. weak_one_round_key i h k ∙ sym (weak_one_round_key (17 - i) (omega arith) (omega arith)))

-- ---- no other key has one round key

-- every element that antt finds below 256 is an octet
tested_octets : (o : List ℕ) → T (are_bytes o) → AreOctets o
tested_octets [] t i = lit< tt
tested_octets (x ∷ o) t zero = ltb→lt x 256 (first_of (ltb x 256) (are_bytes o) t)
tested_octets (x ∷ o) t (suc i) = tested_octets o (second_of (ltb x 256) (are_bytes o) t) i

-- keys that are the same without their parity bits are both weak or neither is
weak_parity : (a b : List ℕ) → without_parity a ≡ without_parity b → weak a ≡ weak b
unfolding weak weak_keys
weak_parity a b e = rw e

module _ (key : List ℕ) (long : length key ≡ 8) (octets : AreOctets key) where
  -- a key with C and D of a weak key is weak
  halves_weak : (w : List ℕ) → length w ≡ 8 → T (are_bytes w) → weak w ≡ true → key_halves key 0 ≡ key_halves w 0 → weak key ≡ true
  unfolding key_halves
  halves_weak w w_long t w_weak e =
      let same_half : without_parity key ≡ without_parity w =
      ext_get_or 0 (without_parity key) (without_parity w) (length-without_parity key ∙ long ∙ sym (length-without_parity w ∙ w_long))
      (λ i h.
      get_or-without_parity key i
      ∙ choice_alike key w octets (tested_octets w t) e i (omega (arith, length-without_parity key))
      ∙ sym (get_or-without_parity w i)) in
      weak_parity key w same_half ∙ w_weak

  -- a key whose C is one bit throughout, and whose D is, is weak: each choice of the two bits is that of a weak key
  bits-weak : (c d : ℕ) → c < 2 → d < 2 → key_halves key 0 ≡ replicate 28 c ++ replicate 28 d → weak key ≡ true
  unfolding weak_keys weak without_parity bits_of bits flat_map permuted PC1 key_halves
  bits-weak zero zero h k e = halves_weak (get_or weak_keys 0 []) refl tt refl e
  bits-weak zero (suc zero) h k e = halves_weak (get_or weak_keys 3 []) refl tt refl e
  bits-weak (suc zero) zero h k e = halves_weak (get_or weak_keys 2 []) refl tt refl e
  bits-weak (suc zero) (suc zero) h k e = halves_weak (get_or weak_keys 1 []) refl tt refl e
  bits-weak zero (suc (suc d)) h k e = absurd (omega arith)
  bits-weak (suc zero) (suc (suc d)) h k e = absurd (omega arith)
  bits-weak (suc (suc c)) d h k e = absurd (omega arith)

  -- a key with the same round key in the first two rounds, and in the last two, is weak
  pub four_rounds_weak : round_key key 1 ≡ round_key key 2 → round_key key 15 ≡ round_key key 16 → weak key ≡ true
  unfolding key_halves
  four_rounds_weak first last =
      let cd = key_halves key 0 in
      let cd_bits : AreBits cd = AreBits-permuted PC1 (bits key) (AreBits-bits key) in
      bits-weak (get_or (take 28 cd) 0 0) (get_or (drop 28 cd) 0 0) (AreBits-take 28 cd cd_bits 0) (AreBits-drop 28 cd cd_bits 0)
      (unmoved_bits cd (length-key_halves key 0) (equal_unmoved key first last))

  -- no key but a weak one has one and the same round key in all sixteen rounds
  pub one_round_key-weak : OneRoundKey key → weak key ≡ true
  one_round_key-weak one =
      four_rounds_weak (sym (one 2 (omega arith) (omega arith)))
      (one 15 (omega arith) (omega arith) ∙ sym (one 16 (omega arith) (omega arith)))

-- ---- computed rows

-- the key with every parity bit turned
parity_turned : List ℕ → List ℕ
parity_turned key = map (λ o. o / 2 * 2 + (1 - o % 2)) key

-- the weak keys are weak as they stand, and with every parity bit turned
listed_weak : Each (λ w. (weak w ≡ true) × (weak (parity_turned w) ≡ true)) weak_keys
unfolding weak_keys weak without_parity parity_turned
listed_weak = ((refl, refl), ((refl, refl), ((refl, refl), ((refl, refl), tt))))

-- the key 0123456789ABCDEF is not weak, and a semi-weak key is not
others_not_weak :
    (weak (0x01 ∷ 0x23 ∷ 0x45 ∷ 0x67 ∷ 0x89 ∷ 0xAB ∷ 0xCD ∷ 0xEF ∷ []) ≡ false)
    × (weak (0x01 ∷ 0xFE ∷ 0x01 ∷ 0xFE ∷ 0x01 ∷ 0xFE ∷ 0x01 ∷ 0xFE ∷ []) ≡ false)
unfolding weak_keys weak without_parity
others_not_weak = (refl, refl)
