-- The rounds on LR: lengths, bits, and that a round is taken back by the same round on R'L'.
-- Assumes nothing.
use mathlib.Core.Path.{◌≡◌, refl, ap, ap₂, sym, ◌∙◌}
use mathlib.Core.List.{List, [], ◌∷◌, ◌++◌, zip_with}
use Prim.Native.Nat.{ℕ, zero, suc, ◌+◌, ◌-◌, ◌*◌, ◌/◌, ◌%◌, ◌^◌, ◌<◌, ◌≤◌}
use native.Mathlib.Numerals.{add-one}
use native.Mathlib.Omega.{arith}
use lib.Bits.{bit_xor}
use lib.ListN.{length, take, drop, length-append, length-drop, take-append-drop}
use lib.Seq.{take_at, drop_at, length-take-le}
use Rattle.des.specs.Tables.{P}
use Rattle.des.specs.Des.{bits_of, ◌⊕◌, f, round, rounds, exchanged}
use Rattle.des.specs.Words.{Word}
use Rattle.des.proofs.Strings.{length-bits_of, AreBits, AreBits_append, AreBits-take, AreBits-drop, AreBits_xor}
use Rattle.des.proofs.Held.{itself, joined, added, upper, lower}
use Rattle.des.proofs.Permutations.{length-permuted}

-- ---- addition modulo 2

length_xor : (a b : List ℕ) → length a ≤ length b → length (a ⊕ b) ≡ length a
unfolding ◌⊕◌ zip_with
length_xor [] b h = refl
length_xor (x ∷ a) [] h = absurd (omega arith)
length_xor (x ∷ a) (y ∷ b) h = ap suc (length_xor a b (omega arith))

xor_back : (a b : List ℕ) → length a ≤ length b → AreBits a → (a ⊕ b) ⊕ b ≡ a
unfolding ◌⊕◌ zip_with
xor_back [] b h k = refl
xor_back (x ∷ a) [] h k = absurd (omega arith)
xor_back (x ∷ a) (y ∷ b) h k =
    let e : ((x + y) % 2 + y) % 2 ≡ x = omega (arith, k 0) in
    ap₂ (λ (z : ℕ) (l : List ℕ). z ∷ l) e (xor_back a b (omega arith) (λ i. k (suc i)))

-- ---- one round

length-f : (r k : List ℕ) → length (f r k) ≡ 32
unfolding f P
length-f r k = length-permuted P _

-- a block of 64 bits in its two halves of 32
pub record Halves (b : List ℕ) : Type 0 where
  pub first : length (take 32 b) ≡ 32
  pub second : length (drop 32 b) ≡ 32

pub halves : (b : List ℕ) → length b ≡ 64 → Halves b
halves b h = record { first = length-take-le 32 b (omega arith); second = simp length-drop (omega arith) }

round_parts : (k a b : List ℕ) → length a ≡ 32 → round k (a ++ b) ≡ b ++ (a ⊕ f b k)
unfolding round
round_parts k a b h = rw (take_at a b 32 h, drop_at a b 32 h)

exchanged_parts : (a b : List ℕ) → length a ≡ 32 → exchanged (a ++ b) ≡ b ++ a
unfolding exchanged
exchanged_parts a b h = rw (take_at a b 32 h, drop_at a b 32 h)

pub length-round : (k b : List ℕ) → length b ≡ 64 → length (round k b) ≡ 64
unfolding round
length-round k b h =
    let s = halves b h in
    let l = take 32 b in
    let r = drop 32 b in
    let x : length (l ⊕ f r k) ≡ 32 = length_xor l (f r k) (omega (arith, s.first, length-f r k)) ∙ s.first in
    length-append r (l ⊕ f r k) ∙ ap₂ (λ (m n : ℕ). m + n) s.second x

pub AreBits-round : (k b : List ℕ) → AreBits b → AreBits (round k b)
unfolding round
AreBits-round k b h = AreBits_append (drop 32 b) (take 32 b ⊕ f (drop 32 b) k) (AreBits-drop 32 b h) (AreBits_xor (take 32 b) (f (drop 32 b) k))

pub round_back : (k b : List ℕ) → length b ≡ 64 → AreBits b → round k (exchanged (round k b)) ≡ exchanged b
unfolding round exchanged
round_back k b h bs =
    let s = halves b h in
    let l = take 32 b in
    let r = drop 32 b in
    let x = l ⊕ f r k in
    let x32 : length x ≡ 32 = length_xor l (f r k) (omega (arith, s.first, length-f r k)) ∙ s.first in
    ap (round k) (exchanged_parts r x s.second)
    ∙ round_parts k x r x32
    ∙ ap (λ (y : List ℕ). r ++ y) (xor_back l (f r k) (omega (arith, s.first, length-f r k)) (AreBits-take 32 b bs))

-- a block in two words, its halves
pub record HeldApart (b : List ℕ) (l r : ℕ) : Type 0 where
  pub left : Word 32 (take 32 b) l
  pub right : Word 32 (drop 32 b) r

-- a round on words: R goes to the left, and L is added to f of R and the key
pub round_apart : (k b : List ℕ) (l r v : ℕ) → HeldApart b l r → Word 32 (f (drop 32 b) k) v → HeldApart (round k b) r (bit_xor l v)
unfolding round
round_apart k b l r v h w =
    let n : length (drop 32 b) ≡ 32 = ap length (sym h.right.same) ∙ length-bits_of 32 r in
    let x = take 32 b ⊕ f (drop 32 b) k in
    record {
      left = rw (take_at (drop 32 b) x 32 n) h.right;
      right = rw (drop_at (drop 32 b) x 32 n) (added h.left w);
    }

pub apart : (w : ℕ) → w < 2 ^ 64 → HeldApart (bits_of 64 w) (w / 2 ^ 32) (w % 2 ^ 32)
apart w h = let x = itself 64 w h in record { left = upper 32 32 x; right = lower 32 32 x }

pub together : (b : List ℕ) (l r : ℕ) → HeldApart b l r → Word 64 b (l * 2 ^ 32 + r)
together b l r h = rw (take-append-drop 32 b) at (joined h.left h.right)

-- ---- the halves exchanged

pub length-exchanged : (b : List ℕ) → length b ≡ 64 → length (exchanged b) ≡ 64
unfolding exchanged
length-exchanged b h = let s = halves b h in length-append (drop 32 b) (take 32 b) ∙ ap₂ (λ (m n : ℕ). m + n) s.second s.first

pub AreBits-exchanged : (b : List ℕ) → AreBits b → AreBits (exchanged b)
unfolding exchanged
AreBits-exchanged b h = AreBits_append (drop 32 b) (take 32 b) (AreBits-drop 32 b h) (AreBits-take 32 b h)

pub exchanged_twice : (b : List ℕ) → length b ≡ 64 → exchanged (exchanged b) ≡ b
unfolding exchanged
exchanged_twice b h = exchanged_parts (drop 32 b) (take 32 b) (halves b h).second ∙ take-append-drop 32 b

-- ---- sixteen rounds

module _ (K : ℕ → List ℕ) (b : List ℕ) where
  pub length-rounds : length b ≡ 64 → (n : ℕ) → length (rounds K n b) ≡ 64
  unfolding rounds
  length-rounds h zero = h
  length-rounds h (suc n) = length-round (K (suc n)) (rounds K n b) (length-rounds h n)

  pub AreBits-rounds : AreBits b → (n : ℕ) → AreBits (rounds K n b)
  unfolding rounds
  AreBits-rounds h zero = h
  AreBits-rounds h (suc n) = AreBits-round (K (suc n)) (rounds K n b) (AreBits-rounds h n)

pub rounds_more : (K : ℕ → List ℕ) (b : List ℕ) (n : ℕ) → round (K (n + 1)) (rounds K n b) ≡ rounds K (n + 1) b
unfolding rounds
rounds_more K b n = rw add-one

pub rounds_same : (K K' : ℕ → List ℕ) (b : List ℕ) → ((i : ℕ) → K i ≡ K' i) → (n : ℕ) → rounds K n b ≡ rounds K' n b
unfolding rounds
rounds_same K K' b h zero = refl
rounds_same K K' b h (suc n) = ap₂ round (h (suc n)) (rounds_same K K' b h n)

-- with the round keys in the reverse order, the rounds on R16 L16 go back one by one
module _ (K K' : ℕ → List ℕ) (reverse : (i : ℕ) → 0 < i → i ≤ 16 → K' i ≡ K (17 - i)) (b : List ℕ) (l : length b ≡ 64) (bs : AreBits b) where
  rounds_back : (n : ℕ) → n ≤ 16 → rounds K' n (exchanged (rounds K 16 b)) ≡ exchanged (rounds K (16 - n) b)
  unfolding rounds
  rounds_back zero k = refl
  rounds_back (suc n) k =
      let m = 16 - suc n in
      let e : 16 - n ≡ suc m = omega arith in
      let g : 17 - suc n ≡ suc m = omega arith in
      ap₂ round (reverse (suc n) (omega arith) k ∙ ap K g) (rounds_back n (omega arith) ∙ ap (λ (j : ℕ). exchanged (rounds K j b)) e)
      ∙ round_back (K (suc m)) (rounds K m b) (length-rounds K b l m) (AreBits-rounds K b bs m)

  pub rounds_undone : rounds K' 16 (exchanged (rounds K 16 b)) ≡ exchanged b
  unfolding rounds
  rounds_undone = rounds_back 16 (omega arith)
