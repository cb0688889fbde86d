-- Each of the 32 rows of the S-boxes holds 0 to 15 once, and so each entry has four bits; one bit of input changes two of output. One test over the
-- whole table for each, which antt computes.
-- Assumes nothing.
use mathlib.Core.Path.{◌≡◌, refl}
use mathlib.Core.List.{zip_with}
use Prim.Native.Nat.{ℕ, ◌^◌, ◌<◌, ◌≤◌}
use lib.Bits.{bit_xor}
use lib.Dec.{eqb, eqb→eq, ltb, ltb→lt, leb, leb→le}
use lib.ListN.{length, get_or}
use Rattle.des.specs.Tables.{boxes}
use Rattle.des.specs.Des.{bits_of, number, ◌⊕◌, s_box}
use Rattle.des.specs.Rows.{row, count}
use Rattle.computed.proofs.Tests.{below, at, at₂}

pub rows : (i v : ℕ) → i < 32 → v < 16 → count v (row i) ≡ 1
unfolding row count boxes
rows i v hi hv =
    eqb→eq (count v (row i)) 1
    (at 16 (λ v. eqb (count v (row i)) 1) (at 32 (λ i. below 16 (λ v. eqb (count v (row i)) 1)) tt i hi) v hv)

pub length-boxes : length boxes ≡ 512
unfolding boxes
length-boxes = refl

pub entry_lt : (k : ℕ) → k < 512 → get_or boxes k 0 < 16
unfolding boxes
entry_lt k h = ltb→lt (get_or boxes k 0) 16 (at 512 (λ k. ltb (get_or boxes k 0) 16) tt k h)

-- the S-boxes' published criterion: one bit of the six changed changes at least two of the four that are selected
pub two_bits : (j v i : ℕ) → j < 8 → v < 64 → i < 6 → 2 ≤ count 1 (s_box j (bits_of 6 v) ⊕ s_box j (bits_of 6 (bit_xor v (2 ^ i))))
unfolding count s_box bits_of number boxes ◌⊕◌ zip_with
two_bits j v i hj hv hi =
    leb→le 2 (count 1 (s_box j (bits_of 6 v) ⊕ s_box j (bits_of 6 (bit_xor v (2 ^ i)))))
    (at 6 (λ i. leb 2 (count 1 (s_box j (bits_of 6 v) ⊕ s_box j (bits_of 6 (bit_xor v (2 ^ i))))))
    (at₂ 8 64 (λ j v. below 6 (λ i. leb 2 (count 1 (s_box j (bits_of 6 v) ⊕ s_box j (bits_of 6 (bit_xor v (2 ^ i))))))) tt j v hj hv) i hi)
