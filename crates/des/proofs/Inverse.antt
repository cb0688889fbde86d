-- Deciphering undoes enciphering and enciphering undoes deciphering; what each gives is eight octets.
-- Assumes nothing.
use mathlib.Core.Path.{◌≡◌, refl, ap, ◌∙◌, subst}
use mathlib.Core.List.{List}
use Prim.Native.Nat.{ℕ, ◌-◌, ◌*◌, ◌<◌, ◌≤◌}
use native.Mathlib.Omega.{arith}
use lib.ListN.{length, get_or}
use Rattle.des.specs.Tables.{IP, inverse_ip}
use Rattle.des.specs.Des.{bits, octets, permuted, rounds, exchanged, computation, round_key, encipher, decipher}
use Rattle.des.proofs.Strings.{AreBits, AreBits-bits, AreBits-permuted, length-bits, length-octets, octets_lt, octets-bits, bits-octets}
use Rattle.des.proofs.Permutations.{length-permuted, inverse_after_initial, initial_after_inverse}
use Rattle.des.proofs.Feistel.{length-exchanged, AreBits-exchanged, exchanged_twice, length-rounds, AreBits-rounds, rounds_undone}

-- every element is an octet
abbrev pub AreOctets : List ℕ → Type 0
AreOctets o = (i : ℕ) → get_or o i 0 < 256

-- ---- the computation with the round keys K

computation_output : (K : ℕ → List ℕ) (block b : List ℕ) → exchanged (rounds K 16 (permuted IP (bits block))) ≡ b
    → computation K block ≡ octets 8 (permuted inverse_ip b)
unfolding computation
computation_output K block b e = ap (λ (x : List ℕ). octets 8 (permuted inverse_ip x)) e

module _ (K : ℕ → List ℕ) (block : List ℕ) where
  input_long : length (permuted IP (bits block)) ≡ 64
  unfolding IP
  input_long = length-permuted IP (bits block)

  input_bits : AreBits (permuted IP (bits block))
  input_bits = AreBits-permuted IP (bits block) (AreBits-bits block)

  -- the preoutput block
  last : List ℕ
  last = exchanged (rounds K 16 (permuted IP (bits block)))

  last_long : length last ≡ 64
  unfolding last
  last_long = length-exchanged _ (length-rounds K (permuted IP (bits block)) input_long 16)

  last_bits : AreBits last
  unfolding last
  last_bits = AreBits-exchanged _ (AreBits-rounds K (permuted IP (bits block)) input_bits 16)

  computation_long : length (computation K block) ≡ 8
  unfolding computation
  computation_long = length-octets 8 _

  computation-octets : AreOctets (computation K block)
  unfolding computation last
  computation-octets = octets_lt 8 (permuted inverse_ip last) (AreBits-permuted inverse_ip last last_bits)

  -- the bits that the computation gives, before IP and after
  computation_input : permuted IP (bits (computation K block)) ≡ last
  unfolding computation last inverse_ip
  computation_input =
      ap (permuted IP) (bits-octets 8 (permuted inverse_ip last) (length-permuted inverse_ip last) (AreBits-permuted inverse_ip last last_bits))
      ∙ initial_after_inverse last last_long

  -- the computation with the round keys in the reverse order gives the block back
  pub computation_back : (K' : ℕ → List ℕ) → ((i : ℕ) → 0 < i → i ≤ 16 → K' i ≡ K (17 - i)) → length block ≡ 8 → AreOctets block
      → computation K' (computation K block) ≡ block
  unfolding last
  computation_back K' reverse l o =
      let b = permuted IP (bits block) in
      let b64 : length (bits block) ≡ 64 = length-bits block ∙ ap (λ (n : ℕ). 8 * n) l in
      let back : exchanged (rounds K' 16 (permuted IP (bits (computation K block)))) ≡ b =
      ap (λ (x : List ℕ). exchanged (rounds K' 16 x)) computation_input
      ∙ ap exchanged (rounds_undone K K' reverse b input_long input_bits)
      ∙ exchanged_twice b input_long in
      computation_output K' (computation K block) b back
      ∙ ap (octets 8) (inverse_after_initial (bits block) b64)
      ∙ subst (λ (n : ℕ). octets n (bits block) ≡ block) l (octets-bits block o)

-- ---- both ways

module _ (key block : List ℕ) where
  pub length-encipher : length (encipher key block) ≡ 8
  unfolding encipher
  length-encipher = computation_long (round_key key) block

  pub length-decipher : length (decipher key block) ≡ 8
  unfolding decipher
  length-decipher = computation_long (λ n. round_key key (17 - n)) block

  pub octets-encipher : AreOctets (encipher key block)
  unfolding encipher
  octets-encipher = computation-octets (round_key key) block

  pub octets-decipher : AreOctets (decipher key block)
  unfolding decipher
  octets-decipher = computation-octets (λ n. round_key key (17 - n)) block

  pub decipher-encipher : length block ≡ 8 → AreOctets block → decipher key (encipher key block) ≡ block
  unfolding encipher decipher
  decipher-encipher = computation_back (round_key key) block (λ n. round_key key (17 - n)) (λ i h k. refl)

  pub encipher-decipher : length block ≡ 8 → AreOctets block → encipher key (decipher key block) ≡ block
  unfolding encipher decipher
  encipher-decipher =
      computation_back (λ n. round_key key (17 - n)) block (round_key key)
      (λ i h k. let e : i ≡ 17 - (17 - i) = omega arith in ap (round_key key) e)
