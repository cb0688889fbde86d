-- The laws of `spliced` and `fronted`: lengths, reading at an index, one splice after another, and the parts before, in and after a splice.
use Prim.Native.Nat.{ℕ, ◌+◌, ◌-◌, ◌≤◌, ◌<◌}
use mathlib.Core.Path.{◌≡◌, refl, sym, ap, ◌∙◌}
use mathlib.Core.List.{List, [], ◌++◌, append_assoc, append-nil}
use mathlib.Core.Bool.{Bool, true, false, cond}
use native.Mathlib.Nat.{zero-add, add-zero, add_assoc}
use native.Mathlib.Omega.{arith}
use lib.Dec.{leb}
use lib.ListN.{length, take, drop, get_or, length-append, length-drop, take-append-drop, drop_of_length-le, get_or-append}
use lib.Seq.{length-take-le, take_at, drop_at, drop-append-add, drop-drop, get_or-drop, get_or-take}
use borrow.Author.Tests.{le-leb, lt-leb}
use borrow.Rule.Slice.PartMut.{put_mid, Post-is}
use Rattle.octets.specs.Splice.{spliced, fronted}

pub spliced_fits : (m : List ℕ) (at : ℕ) (s : List ℕ) → at + length s ≤ length m → spliced m at s ≡ take at m ++ s ++ drop (at + length s) m
unfolding spliced
spliced_fits m at s h = rw (le-leb (at + length s) (length m) h)

pub spliced_past : (m : List ℕ) (at : ℕ) (s : List ℕ) → length m < at + length s → spliced m at s ≡ m
unfolding spliced
spliced_past m at s h = rw (lt-leb (at + length s) (length m) h)

-- what a part of m that was lent and filled with s leaves
pub lent_spliced : (m s : List ℕ) (at : ℕ) → at + length s ≤ length m → put_mid at (at + length s - at) m s ≡ spliced m at s
lent_spliced m s at h =
    rw (Post-is at (at + length s) m (omega arith), spliced_fits m at s h)
    (sym (append_assoc (take at m) s (drop (at + length s) m)))

module _ (m : List ℕ) (at : ℕ) (s : List ℕ) (h : at + length s ≤ length m) where
  before : length (take at m) ≡ at
  before = length-take-le at m (omega arith)

  to_end : length (take at m ++ s) ≡ at + length s
  to_end = length-append (take at m) s ∙ ap (λ (k : ℕ). k + length s) before

  pub length-spliced : length (spliced m at s) ≡ length m
  length-spliced =
      rw (spliced_fits m at s h, length-append, to_end, length-drop) (omega arith)

  pub take-spliced : take at (spliced m at s) ≡ take at m
  take-spliced =
      rw (spliced_fits m at s h, append_assoc (take at m) s)
      (take_at (take at m) (s ++ drop (at + length s) m) at before)

  pub drop-spliced : drop at (spliced m at s) ≡ s ++ drop (at + length s) m
  drop-spliced =
      rw (spliced_fits m at s h, append_assoc (take at m) s)
      (drop_at (take at m) (s ++ drop (at + length s) m) at before)

  pub upto_spliced : take (at + length s) (spliced m at s) ≡ take at m ++ s
  upto_spliced =
      rw (spliced_fits m at s h)
      (take_at (take at m ++ s) (drop (at + length s) m) (at + length s) to_end)

  pub past_spliced : drop (at + length s) (spliced m at s) ≡ drop (at + length s) m
  past_spliced =
      rw (spliced_fits m at s h)
      (drop_at (take at m ++ s) (drop (at + length s) m) (at + length s) to_end)

  pub in_spliced : take (length s) (drop at (spliced m at s)) ≡ s
  in_spliced = rw drop-spliced (take_at s (drop (at + length s) m) (length s) refl)

  pub get_or-in_spliced : (j : ℕ) → j < length s → get_or (spliced m at s) (at + j) 0 ≡ get_or s j 0
  get_or-in_spliced j k =
      rw (← get_or-drop at (spliced m at s) j 0, drop-spliced)
      (get_or-append s (drop (at + length s) m) 0 j k)

  pub get_or-before_spliced : (j : ℕ) → j < at → get_or (spliced m at s) j 0 ≡ get_or m j 0
  get_or-before_spliced j k =
      rw (← get_or-take at (spliced m at s) j 0 k, take-spliced) (get_or-take at m j 0 k)

  pub get_or-past_spliced : (j : ℕ) → get_or (spliced m at s) (at + length s + j) 0 ≡ get_or m (at + length s + j) 0
  get_or-past_spliced j =
      rw (← get_or-drop (at + length s) (spliced m at s) j 0, past_spliced) (get_or-drop (at + length s) m j 0)

pub spliced_nothing : (m : List ℕ) (at : ℕ) → spliced m at [] ≡ m
unfolding spliced
spliced_nothing m at = rw (add-zero, append-nil, take-append-drop) (either (leb at (length m)))
  where
    either : (t : Bool) → cond t m m ≡ m
    either true = refl
    either false = refl

-- s in the place of all of m
pub spliced_whole : (m s : List ℕ) → length s ≡ length m → spliced m 0 s ≡ s
spliced_whole m s e =
    rw (spliced_fits m 0 s (omega arith), zero-add, drop_of_length-le m {i = length s} (omega arith)) (append-nil s)

-- a run of splices, each where the last one ended, starts at the front
pub spliced_front : (m s : List ℕ) → length s ≤ length m → spliced m 0 s ≡ fronted s m
unfolding fronted
spliced_front m s h = rw (spliced_fits m 0 s (omega arith), zero-add)

pub spliced_next : (p m s : List ℕ) (at : ℕ) → length p ≡ at → at + length s ≤ length m → spliced (fronted p m) at s ≡ fronted (p ++ s) m
unfolding fronted
spliced_next p m s at e h =
    rw (
      spliced_fits (p ++ drop (length p) m) at s (rw (length-append, length-drop) (omega arith)),
      take_at p (drop (length p) m) at e,
      ← e,
      drop-append-add,
      drop-drop,
      length-append,
    )

pub length-fronted : (s m : List ℕ) → length s ≤ length m → length (fronted s m) ≡ length m
unfolding fronted
length-fronted s m h = rw (length-append, length-drop) (omega arith)

pub take-fronted : (s m : List ℕ) → take (length s) (fronted s m) ≡ s
unfolding fronted
take-fronted s m = take_at s (drop (length s) m) (length s) refl

pub drop-fronted : (s m : List ℕ) → drop (length s) (fronted s m) ≡ drop (length s) m
unfolding fronted
drop-fronted s m = drop_at s (drop (length s) m) (length s) refl

-- one splice where another ends
pub spliced_after : (m : List ℕ) (at : ℕ) (s t : List ℕ) → at + length s + length t ≤ length m → spliced (spliced m at s) (at + length s) t ≡ spliced m at (s ++ t)
spliced_after m at s t h =
    let k : at + length s ≤ length m = omega arith in
    let long : length (s ++ t) ≡ length s + length t = length-append s t in
    rw (
      spliced_fits (spliced m at s) (at + length s) t (rw (length-spliced m at s k) h),
      spliced_fits m at (s ++ t) (omega arith),
      long,
      ← drop-drop (length t) (at + length s) (spliced m at s),
      past_spliced m at s k,
      drop-drop (length t) (at + length s) m,
      add_assoc at (length s) (length t),
      upto_spliced m at s k,
    )
    (ap (λ (p : List ℕ). p ++ drop (at + (length s + length t)) m) (append_assoc (take at m) s t))
