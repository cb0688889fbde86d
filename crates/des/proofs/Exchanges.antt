-- The permutations of the code, each made in steps: antt tests each bit.
-- Assumes nothing.
use mathlib.Core.List.{List, [], ◌∷◌}
use Prim.Native.Nat.{ℕ, ◌^◌, ◌<◌}
use Rattle.computed.specs.Steps.{Steps, value, left, right, kept, then, sum}
use Rattle.des.specs.Tables.{IP, inverse_ip, PC1}
use Rattle.des.specs.Des.{bits_of, number, permuted}
use Rattle.des.specs.Words.{Word}
use Rattle.des.specs.Windows.{wrapped}
use Rattle.des.specs.Exchanges.{exchange, reversed, gathered}
use Rattle.des.proofs.Selecting.{selection, selecting, by_steps}

-- ---- IP and its inverse: five exchanges, and the same in the reverse order

abbrev pub by3 : Steps
by3 = exchange 3 0x1111111111111111

abbrev pub by6 : Steps
by6 = exchange 6 0x0303030303030303

abbrev pub by9 : Steps
by9 = exchange 9 0x0055005500550055

abbrev pub by18 : Steps
by18 = exchange 18 0x0000333300003333

abbrev pub by36 : Steps
by36 = exchange 36 0x000000000F0F0F0F

pub is_initial : (w : ℕ) → w < 2 ^ 64 → Word 64 (permuted IP (bits_of 64 w)) (value (then (then (then (then by3 by6) by9) by18) by36) w)
unfolding selecting selection number permuted bits_of IP
is_initial = by_steps 64 IP (then (then (then (then by3 by6) by9) by18) by36) tt

pub is_inverse : (w : ℕ) → w < 2 ^ 64 → Word 64 (permuted inverse_ip (bits_of 64 w)) (value (then (then (then (then by36 by18) by9) by6) by3) w)
unfolding selecting selection number permuted bits_of inverse_ip
is_inverse = by_steps 64 inverse_ip (then (then (then (then by36 by18) by9) by6) by3) tt

-- ---- permuted choice 1

-- the eight octets in the reverse order
abbrev last_first : List ℕ
last_first =
    57 ∷ 58 ∷ 59 ∷ 60 ∷ 61 ∷ 62 ∷ 63 ∷ 64 ∷
    49 ∷ 50 ∷ 51 ∷ 52 ∷ 53 ∷ 54 ∷ 55 ∷ 56 ∷
    41 ∷ 42 ∷ 43 ∷ 44 ∷ 45 ∷ 46 ∷ 47 ∷ 48 ∷
    33 ∷ 34 ∷ 35 ∷ 36 ∷ 37 ∷ 38 ∷ 39 ∷ 40 ∷
    25 ∷ 26 ∷ 27 ∷ 28 ∷ 29 ∷ 30 ∷ 31 ∷ 32 ∷
    17 ∷ 18 ∷ 19 ∷ 20 ∷ 21 ∷ 22 ∷ 23 ∷ 24 ∷
    9 ∷ 10 ∷ 11 ∷ 12 ∷ 13 ∷ 14 ∷ 15 ∷ 16 ∷
    1 ∷ 2 ∷ 3 ∷ 4 ∷ 5 ∷ 6 ∷ 7 ∷ 8 ∷
    []

pub is_reversed : (w : ℕ) → w < 2 ^ 64 → Word 64 (permuted last_first (bits_of 64 w)) (value reversed w)
unfolding selecting selection number permuted bits_of
is_reversed = by_steps 64 last_first reversed tt

abbrev pub by7 : Steps
by7 = exchange 7 0x00AA00AA00AA00AA

abbrev pub by14 : Steps
by14 = exchange 14 0x0000CCCC0000CCCC

abbrev pub by28 : Steps
by28 = exchange 28 0x00000000F0F0F0F0

pub is_choice : (w : ℕ) → w < 2 ^ 64 → Word 56 (permuted PC1 (bits_of 64 w)) (value (then (then (then (then reversed by7) by14) by28) gathered) w)
unfolding selecting selection number permuted bits_of PC1
is_choice = by_steps 64 PC1 (then (then (then (then reversed by7) by14) by28) gathered) tt

-- ---- the windows of R

pub is_wrapped : (r : ℕ) → r < 2 ^ 32 → Word 34 (permuted wrapped (bits_of 32 r)) (value (sum (sum (then (kept 1) (left 33)) (left 1)) (right 31)) r)
unfolding selecting selection number permuted bits_of
is_wrapped = by_steps 32 wrapped (sum (sum (then (kept 1) (left 33)) (left 1)) (right 31)) tt
