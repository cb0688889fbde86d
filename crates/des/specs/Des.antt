-- DES of FIPS 46-3 on one block. A string of bits is a list, bit 1 first: FIPS 46-3 numbers bits from left to right, from 1.
-- Assumes nothing.
use mathlib.Core.List.{List, [], ◌∷◌, ◌++◌, map, flat_map, zip_with}
use Rattle.std.specs.Prelude.{ℕ, zero, suc, ◌+◌, ◌-◌, ◌*◌, ◌/◌, ◌%◌, ◌^◌, length, get_or, take, drop}
use Rattle.des.specs.Tables.{IP, inverse_ip, E, P, PC1, PC2, left_shifts, boxes}

-- ---- strings of bits, numbers and octets

-- the n low bits of a number
unfoldable pub bits_of : ℕ → ℕ → List ℕ
bits_of zero w = []
bits_of (suc n) w = w / 2 ^ n % 2 ∷ bits_of n w

-- the number that a string of bits writes in base 2
unfoldable pub number : List ℕ → ℕ
number [] = 0
number (b ∷ bs) = b * 2 ^ length bs + number bs

-- the bits of a list of octets: the first octet has bits 1 to 8
unfoldable pub bits : List ℕ → List ℕ
bits o = flat_map (bits_of 8) o

-- the first n octets of a string of bits
unfoldable pub octets : ℕ → List ℕ → List ℕ
octets zero b = []
octets (suc n) b = number (take 8 b) ∷ octets n (drop 8 b)

-- ---- the cipher function f

-- the bits that a table names, in the table's order: IP, E, P, PC-1 and PC-2 all select so
unfoldable pub permuted : List ℕ → List ℕ → List ℕ
permuted table b = map (λ i. get_or b (i - 1) 0) table

-- ⊕: bit-by-bit addition modulo 2
infixl 66 ◌⊕◌
unfoldable pub ◌⊕◌ : List ℕ → List ℕ → List ℕ
a ⊕ b = zip_with (λ x y. (x + y) % 2) a b

-- the selection function S(j + 1) of six bits: the first and the last bit are the row, the four between them the column
unfoldable pub s_box : ℕ → List ℕ → List ℕ
s_box j b = bits_of 4 (get_or boxes (j * 64 + number (get_or b 0 0 ∷ get_or b 5 0 ∷ []) * 16 + number (take 4 (drop 1 b))) 0)

-- S1(B1) S2(B2) .. Sn(Bn), where B1, B2 .. are the blocks of six bits
unfoldable pub selected : ℕ → List ℕ → List ℕ
selected zero b = []
selected (suc n) b = selected n b ++ s_box n (take 6 (drop (6 * n) b))

-- f(R, K) = P(S1(B1) .. S8(B8)), where B1 .. B8 = K ⊕ E(R)
unfoldable pub f : List ℕ → List ℕ → List ℕ
f r k = permuted P (selected 8 (permuted E r ⊕ k))

-- ---- the rounds, which FIPS 46-3 calls iterations

-- a round with the key K, from LR to L'R': L' = R and R' = L ⊕ f(R, K)
unfoldable pub round : List ℕ → List ℕ → List ℕ
round k lr = drop 32 lr ++ (take 32 lr ⊕ f (drop 32 lr) k)

-- LR after n rounds, of which round i has the key K i
unfoldable pub rounds : (ℕ → List ℕ) → ℕ → List ℕ → List ℕ
rounds K zero lr = lr
rounds K (suc n) lr = round (K (suc n)) (rounds K n lr)

-- RL: what the rounds give, L16 R16, becomes the preoutput block R16 L16
unfoldable pub exchanged : List ℕ → List ℕ
exchanged lr = drop 32 lr ++ take 32 lr

-- ---- the key schedule KS

-- n left shifts: the bits that leave on the left come in on the right
unfoldable pub left_shift : ℕ → List ℕ → List ℕ
left_shift n b = drop n b ++ take n b

-- C and D, 28 bits each, after n left shifts of each
unfoldable pub both_shifted : ℕ → List ℕ → List ℕ
both_shifted n cd = left_shift n (take 28 cd) ++ left_shift n (drop 28 cd)

-- Cn Dn; C0 D0 is permuted choice 1 of the key
unfoldable pub key_halves : List ℕ → ℕ → List ℕ
key_halves key zero = permuted PC1 (bits key)
key_halves key (suc n) = both_shifted (get_or left_shifts n 0) (key_halves key n)

-- Kn, the round key of round n in enciphering: permuted choice 2 of Cn Dn
unfoldable pub round_key : List ℕ → ℕ → List ℕ
round_key key n = permuted PC2 (key_halves key n)

-- ---- both ways

-- a block through IP, sixteen rounds, the preoutput block and the inverse of IP
unfoldable pub computation : (ℕ → List ℕ) → List ℕ → List ℕ
computation K block = octets 8 (permuted inverse_ip (exchanged (rounds K 16 (permuted IP (bits block)))))

unfoldable pub encipher : List ℕ → List ℕ → List ℕ
encipher key block = computation (round_key key) block

-- deciphering is the same computation with the round keys in the reverse order: K16 in the first round, K1 in the last
unfoldable pub decipher : List ℕ → List ℕ → List ℕ
decipher key block = computation (λ n. round_key key (17 - n)) block
