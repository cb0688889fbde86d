-- Each number has one form: reading takes back what writing gave, what was read is written the same, and two forms of one number are equal.
use Prim.Native.Nat.{ℕ, ◌+◌, ◌≤◌, ◌<◌, ◌^◌}
use mathlib.Core.Path.{◌≡◌, refl, sym, ap, ◌∙◌}
use mathlib.Core.Bool.{Bool, true, false}
use mathlib.Core.List.{List, ◌++◌, append-nil, append_assoc}
use native.Mathlib.Omega.{arith}
use lib.ListN.{length, get_or, take, drop}
use lib.Seq.{take-length, drop_at, length-take-le, drop-length, take_at, get_or-drop}
use lib.Dec.{ltb}
use borrow.Author.Tests.{lt-ltb, le-leb}
use Rattle.number.specs.Groups.{encoded, Front, found, none, front_number, placed, read_at, with_number_at}
use Rattle.numbers.specs.Table.{faulty_file}
use Rattle.numbers.specs.Counts.{in_octets}
use Rattle.numbers.specs.declared.Octets.{Octets}
use Rattle.numbers.specs.Answer.{Answer, given, refused_at}
use Rattle.number.proofs.Fronts.{front_encoded, encoded_front, Formed}

-- the form of n with anything behind it
pub front_form : (n : ℕ) (s : List ℕ) → n < 2 ^ 32 → front_number (encoded n ++ s) ≡ found n (length (encoded n))
front_form n s h = front_encoded n s ∙ rw (lt-ltb n (2 ^ 32) h)

-- what is read of the form of m is m
pub own_form : (m : ℕ) (s : List ℕ) (n w : ℕ) → front_number (encoded m ++ s) ≡ found n w → (m ≡ n) × (length (encoded m) ≡ w)
own_form m s n w e = go (ltb m (2 ^ 32)) refl
  where
    go : (b : Bool) → ltb m (2 ^ 32) ≡ b → (m ≡ n) × (length (encoded m) ≡ w)
    go true h =
        let r : found m (length (encoded m)) ≡ found n w = rw (front_encoded m s, h) at e in
        let p : m ≡ n = cc in
        let q : length (encoded m) ≡ w = cc in
        (p, q)
    go false h =
        let r : none ≡ found n w = rw (front_encoded m s, h) at e in
        let z : ◌≡◌ {A = ℕ} 0 1 = cc in
        let y : ⊥ = omega arith in
        absurd y

-- a number that was written is read where it was written
pub read_written : (s : List ℕ) (at n : ℕ) → n < 2 ^ 32 → at + length (encoded n) ≤ length s → read_at (with_number_at s (in_octets at) n) (in_octets at) ≡ given (n, in_octets (at + length (encoded n)))
unfolding read_at with_number_at placed
read_written s at n h r =
    let p : length (take at s) ≡ at = length-take-le at s (omega arith) in
    rw (le-leb _ _ r, take-length (encoded n), append_assoc (take at s) (encoded n), drop_at (take at s) _ at p, front_form n _ h)

-- two answers with a number and an offset are one only if both are
same_given : (m n : ℕ) (a b : Octets) → ◌≡◌ {A = Answer (ℕ × Octets)} (given (m, a)) (given (n, b)) → (m ≡ n) × (a.0 ≡ b.0)
same_given m n a b e =
    let p : ◌≡◌ {A = ℕ × Octets} (m, a) (n, b) = cc in
    (ap (λ (v : ℕ × Octets). v.0) p, ap (λ (v : ℕ × Octets). v.1.0) p)

-- what is read as n stands in n's own octets
pub written_read : (s : List ℕ) (at n w : ℕ) → ((i : ℕ) → get_or s i 0 < 256) → read_at s (in_octets at) ≡ given (n, in_octets (at + w)) → take w (drop at s) ≡ encoded n
unfolding read_at placed
written_read s at n w b e = go (front_number (drop at s)) refl e
  where
    go : (f : Front) → front_number (drop at s) ≡ f → placed (in_octets at) f ≡ given (n, in_octets (at + w)) → take w (drop at s) ≡ encoded n
    go none q r = let z : ◌≡◌ {A = ℕ} 0 1 = cc in let y : ⊥ = omega arith in absurd y
    go (found m v) q r =
        let g = same_given m n _ _ r in
        let p : m ≡ n = g.0 in
        let k : at + v ≡ at + w = g.1 in
        let k' : v ≡ w = omega arith in
        let f : Formed m v (drop at s) = encoded_front (drop at s) m v (λ i. rw get_or-drop (b (at + i))) q in
        rw (← p, ← k', f.octets) (take_at (encoded m) _ v (sym f.width))

-- two octet lists that are read whole as the same number are equal
pub one_form : (s t : List ℕ) (n : ℕ) → ((i : ℕ) → get_or s i 0 < 256) → ((i : ℕ) → get_or t i 0 < 256) → front_number s ≡ found n (length s) → front_number t ≡ found n (length t) → s ≡ t
one_form s t n bs bt p q = whole s bs p ∙ sym (whole t bt q)
  where
    whole : (r : List ℕ) → ((i : ℕ) → get_or r i 0 < 256) → front_number r ≡ found n (length r) → r ≡ encoded n
    whole r b e = (encoded_front r n (length r) b e).octets ∙ rw (drop-length r, append-nil)

-- the reader's answer, as the number at the front of what stands from the offset on
pub read_front : (s : List ℕ) (at n next : ℕ) → read_at s (in_octets at) ≡ given (n, in_octets next) → (w : ℕ) × (front_number (drop at s) ≡ found n w) × (next ≡ at + w)
unfolding read_at placed
read_front s at n next e = go (front_number (drop at s)) refl e
  where
    go : (f : Front) → front_number (drop at s) ≡ f → placed (in_octets at) f ≡ given (n, in_octets next) → (w : ℕ) × (front_number (drop at s) ≡ found n w) × (next ≡ at + w)
    go none q r = let z : ◌≡◌ {A = ℕ} 0 1 = cc in let y : ⊥ = omega arith in absurd y
    go (found m v) q r =
        let g = same_given m n _ _ r in
        (v, q ∙ rw g.0, sym g.1)

pub read_faulty : (s : List ℕ) (at : ℕ) → read_at s (in_octets at) ≡ refused_at faulty_file (in_octets at) → front_number (drop at s) ≡ none
unfolding read_at placed
read_faulty s at e = go (front_number (drop at s)) e
  where
    go : (f : Front) → placed (in_octets at) f ≡ refused_at faulty_file (in_octets at) → f ≡ none
    go none r = refl
    go (found m v) r = let z : ◌≡◌ {A = ℕ} 0 1 = cc in let y : ⊥ = omega arith in absurd y
