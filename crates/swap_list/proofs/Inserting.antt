-- A piece inserted by three copies.
use Prim.Native.Nat.{ℕ, ◌+◌, ◌-◌, ◌≤◌, ◌<◌, min}
use mathlib.Core.Path.{◌≡◌, refl, sym, ap, ◌∙◌}
use mathlib.Core.List.{List, ◌++◌, append-nil}
use mathlib.Core.Bool.{Bool, true, false}
use native.Mathlib.Nat.{le_of_lt, min-eq_left, min-eq_right}
use native.Mathlib.Omega.{arith}
use lib.ListN.{length, take, drop, replicate, length-replicate, length-append, length-drop, drop_of_length-le, take-append-drop}
use lib.Dec.{leb}
use lib.Seq.{length-take-le, take_all}
use borrow.Author.Tests.{leb-true, leb-false}
use Rattle.octets.specs.Splice.{spliced, fronted}
use Rattle.octets.proofs.Splice.{spliced_front, spliced_next, take-fronted}
use Rattle.swap.proofs.Parts.{part_rest}
use Rattle.swap_list.specs.Adding.{inserted}

-- an offset past the end is the end
module _ (s : List ℕ) (at : ℕ) where
  cut_same : (take (min at (length s)) s ≡ take at s) × (drop (min at (length s)) s ≡ drop at s)
  cut_same = go (leb at (length s)) refl
    where
      go : (b : Bool) → leb at (length s) ≡ b → (take (min at (length s)) s ≡ take at s) × (drop (min at (length s)) s ≡ drop at s)
      go true e = rw (min-eq_left (leb-true at (length s) e)) (refl, refl)
      go false e =
          let h : length s < at = leb-false at (length s) e in
          rw (min-eq_right (le_of_lt h)) (take_all (length s) s (omega arith) ∙ sym (take_all at s (omega arith)), drop_of_length-le s {i = length s} (omega arith) ∙ sym (drop_of_length-le s {i = at} (omega arith)))

  pub length-inserted : (piece : List ℕ) → length (inserted s at piece) ≡ length s + length piece
  unfolding inserted
  length-inserted piece =
      simp length-append (omega (arith, simp length-append at (ap length (take-append-drop at s))))

  pub three_copies : (m piece : List ℕ) → length s + length piece ≤ length m → spliced (spliced (spliced m 0 (take (min at (length s)) s)) (min at (length s)) piece) (min at (length s) + length piece) (drop (min at (length s)) s) ≡ fronted (inserted s at piece) m
  unfolding inserted
  three_copies m piece h =
      let cut : ℕ = min at (length s) in
      let k : cut ≤ length s = omega arith in
      let l : length (take cut s) ≡ cut = length-take-le cut s k in
      let d : length (drop cut s) ≡ length s - cut = length-drop cut s in
      let both : length (take cut s ++ piece) ≡ cut + length piece = length-append (take cut s) piece ∙ ap (λ (n : ℕ). n + length piece) l in
      rw (
        spliced_front m (take cut s) (omega arith),
        spliced_next (take cut s) m piece cut l (omega arith),
        spliced_next (take cut s ++ piece) m (drop cut s) (cut + length piece) both (omega arith),
        cut_same.0,
        cut_same.1,
      )

  -- the same, copy by copy
  pub copied : (cut : ℕ) (m piece m₁ m₂ m₃ : List ℕ) → cut ≡ min at (length s) → length s + length piece ≤ length m → m₁ ≡ spliced m 0 (take cut s) → m₂ ≡ spliced m₁ cut piece → m₃ ≡ spliced m₂ (cut + length piece) (take (length s - cut) (drop cut s)) → m₃ ≡ fronted (inserted s at piece) m
  copied cut m piece m₁ m₂ m₃ c h e₁ e₂ e₃ = e₃ ∙ rw (part_rest s cut, e₂, e₁, c) (three_copies m piece h)

-- six octets and four make a head
pub headed : (ads rest m₁ m₂ : List ℕ) → length ads ≡ 6 → length rest ≡ 4 → m₁ ≡ spliced (replicate 10 0) 0 ads → m₂ ≡ spliced m₁ 6 rest → m₂ ≡ ads ++ rest
unfolding fronted
headed ads rest m₁ m₂ a r e₁ e₂ =
    let b : length (ads ++ rest) ≡ 10 = simp length-append (omega arith) in
    e₂ ∙ rw (e₁, spliced_front (replicate 10 0) ads (omega arith), spliced_next ads (replicate 10 0) rest 6 a (omega arith), b, append-nil)

-- the front part of s and a piece have room in fresh storage
pub room : (most n : ℕ) (s piece : List ℕ) → n ≤ length s → n + length piece ≤ most → length (take n s) + length piece ≤ length {A = ℕ} (replicate most 0)
room most n s piece h l = rw (length-take-le n s h, length-replicate {A = ℕ} most 0) l

-- what stands at the front of m after a piece was inserted into the front part of s there
module _ (k n at : ℕ) (s piece m t : List ℕ) (h : n ≤ length s) (l : k ≡ n + length piece) (e : t ≡ fronted (inserted (take n s) at piece) m) where
  whole : length (inserted (take n s) at piece) ≡ k
  whole = length-inserted (take n s) at piece ∙ rw (length-take-le n s h, l)

  pub front_inserted : take k t ≡ inserted (take n s) at piece
  front_inserted = rw (e, ← whole) (take-fronted (inserted (take n s) at piece) m)

  pub front_length : length (take k t) ≡ k
  front_length = ap length front_inserted ∙ whole
