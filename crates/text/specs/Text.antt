-- Octets and numbers as text, and where a text ends that is written into a buffer.
use Rattle.std.specs.Prelude.{◌≡◌, ℕ, zero, suc, ◌+◌, ◌/◌, ◌%◌, List, [], ◌∷◌, ◌++◌, cond, length, leb, ltb}
use Rattle.octets.specs.Splice.{spliced}

-- 01, Swap file, prints the octet 0A as `0A`: a hexadecimal digit is `0` to `9`, then `A` to `F`
unfoldable pub digit_of : ℕ → ℕ
digit_of d = cond (ltb d 10) (48 + d) (55 + d)

-- and the octets of an address as `112233445566`: two digits to an octet, the high one first, nothing between
unfoldable pub hex_text : List ℕ → List ℕ
hex_text [] = []
hex_text (o ∷ s) = digit_of (o / 16) ∷ digit_of (o % 16) ∷ hex_text s

-- n in decimal digits, as 01 prints counts and offsets: no zero in front but that of 0 itself; at most suc k digits
unfoldable pub decimal : ℕ → ℕ → List ℕ
decimal zero n = (48 + n) ∷ []
decimal (suc k) n = cond (ltb n 10) ((48 + n) ∷ []) (decimal k (n / 10) ++ ((48 + n % 10) ∷ []))

-- twenty digits hold every number below 2^64
unfoldable pub decimal_text : ℕ → List ℕ
decimal_text n = decimal 19 n

-- the offset after a text s that is written from offset at on; at itself where s does not fit
unfoldable pub offset_after : List ℕ → ℕ → List ℕ → ℕ
offset_after m at s = cond (leb (at + length s) (length m)) (at + length s) at

-- what a call that writes s into m gives and leaves: the offset after s, and s over the octets of m
abbrev pub Written : List ℕ → ℕ → List ℕ → ℕ → List ℕ → Type 0
Written m at s end left = (end ≡ offset_after m at s) × (left ≡ spliced m at s)
