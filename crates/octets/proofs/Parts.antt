-- What `part_of` is where the list has the part, and where not.
use Prim.Native.Nat.{ℕ, suc, ◌+◌, ◌-◌, ◌≤◌, ◌<◌}
use mathlib.Core.Path.{◌≡◌, refl, sym, ap, ◌∙◌}
use mathlib.Core.List.{List, [], ◌∷◌, ◌++◌}
use mathlib.Core.Bool.{Bool, true, false, cond}
use native.Mathlib.Decide.{dec_le}
use native.Mathlib.Nat.{sub-zero}
use native.Mathlib.Omega.{arith}
use lib.Dec.{leb}
use lib.ListN.{length, take, drop, get_or, length-drop, length-append}
use lib.Seq.{length-take-le, get_or-take, get_or-drop, drop_at, take-append_seam, take-add, drop-cons, drop-drop, take_all, ext_get_or}
use borrow.Author.Tests.{le-leb, lt-leb}
use Rattle.std.specs.Option.{unwrap_or}
use Rattle.std.specs.Prelude.{Option, None, Some}
use Rattle.std.specs.Slice.{IsGetRangeResult}
use Rattle.std.specs.Borrow.{Bor}
use Rattle.std.proofs.Common.{inl, inr}
use Rattle.octets.specs.Part.{part_of}

pub part_there : (s : List ℕ) (a e : ℕ) → e ≤ length s → part_of s a e ≡ take (e - a) (drop a s)
unfolding part_of
part_there s a e h = rw (le-leb e (length s) h)

pub part_past : (s : List ℕ) (a e : ℕ) → length s < e → part_of s a e ≡ []
unfolding part_of
part_past s a e h = rw (lt-leb e (length s) h)

pub part_none : (s : List ℕ) (a e : ℕ) → e ≤ a → part_of s a e ≡ []
unfolding part_of
part_none s a e h =
    let z : e - a ≡ 0 = omega arith in
    rw z (either (leb e (length s)))
  where
    either : (t : Bool) → ◌≡◌ {A = List ℕ} (cond t [] []) []
    either true = refl
    either false = refl

-- what `get` gives at a range, with a list that is empty where it gives nothing
pub part_got : (s : List ℕ) (a e : ℕ) (r : Option (Bor (List ℕ))) (d : Bor (List ℕ)) → d.now ≡ [] → IsGetRangeResult s a e r → (unwrap_or r d).now ≡ part_of s a e
part_got s a e None d z (inl h, _) = z ∙ sym (part_none s a e (omega arith))
part_got s a e None d z (inr h, _) = z ∙ sym (part_past s a e h)
part_got s a e (Some x) d z (h, _) = h.2 ∙ sym (part_there s a e h.1)

pub length_part : (s : List ℕ) (a e : ℕ) → a ≤ e → e ≤ length s → length (part_of s a e) ≡ e - a
length_part s a e h k = rw (part_there s a e k) (length-take-le (e - a) (drop a s) (rw length-drop (omega arith)))

pub get_or_part : (s : List ℕ) (a e j : ℕ) → e ≤ length s → j < e - a → get_or (part_of s a e) j 0 ≡ get_or s (a + j) 0
get_or_part s a e j h k = rw (part_there s a e h, get_or-take (e - a) (drop a s) j 0 k, get_or-drop)

-- a part that is known as the middle of three lists
pub part_middle : (p v t : List ℕ) (a e : ℕ) → length p ≡ a → a + length v ≡ e → part_of (p ++ (v ++ t)) a e ≡ v
part_middle p v t a e h k =
    let n : e - a ≡ length v = omega arith in
    rw (
      part_there (p ++ (v ++ t)) a e (rw (length-append, length-append) (omega arith)),
      drop_at p (v ++ t) a h,
      n,
      take-append_seam,
    )

-- two parts that meet
pub part_join : (s : List ℕ) (a e g : ℕ) → a ≤ e → e ≤ g → g ≤ length s → part_of s a e ++ part_of s e g ≡ part_of s a g
part_join s a e g h k l =
    let n : g - a ≡ (e - a) + (g - e) = omega arith in
    let m : a + (e - a) ≡ e = omega arith in
    rw (
      part_there s a e (omega arith),
      part_there s e g l,
      part_there s a g l,
      n,
      take-add (e - a) (g - e) (drop a s),
      drop-drop (e - a) a s,
      m,
    )

-- lists that agree at the offsets of a part
pub part_agree : (s t : List ℕ) (a e : ℕ) → length s ≡ length t → ((i : ℕ) → a ≤ i → i < e → get_or s i 0 ≡ get_or t i 0) → part_of s a e ≡ part_of t a e
part_agree s t a e long same = go (dec_le e (length s)) (dec_le a e)
  where
    go : Dec (e ≤ length s) → Dec (a ≤ e) → part_of s a e ≡ part_of t a e
    go (no h) o = part_past s a e (omega arith) ∙ sym (part_past t a e (omega arith))
    go (yes h) (no k) = part_none s a e (omega arith) ∙ sym (part_none t a e (omega arith))
    go (yes h) (yes k) =
        ext_get_or 0 (part_of s a e) (part_of t a e)
        (length_part s a e k h ∙ sym (length_part t a e k (omega arith)))
        (λ j l.
        let n : j < e - a = omega (arith, length_part s a e k h) in
        get_or_part s a e j h n ∙ same (a + j) (omega arith) (omega arith) ∙ sym (get_or_part t a e j (omega arith) n))

pub part_cons : (s : List ℕ) (a e : ℕ) → a < e → e ≤ length s → part_of s a e ≡ get_or s a 0 ∷ part_of s (suc a) e
part_cons s a e h k =
    let n : e - a ≡ suc (e - suc a) = omega arith in
    rw (part_there s a e k, part_there s (suc a) e k, drop-cons s a 0 (omega arith), n)

pub part_front : (s : List ℕ) (e : ℕ) → e ≤ length s → part_of s 0 e ≡ take e s
part_front s e h = rw (part_there s 0 e h, sub-zero)

pub part_all : (s : List ℕ) (n : ℕ) → length s ≡ n → part_of s 0 n ≡ s
part_all s n e = part_front s n (omega arith) ∙ take_all n s (omega arith)

-- a part of one octet, and one that starts with two
pub part_one : (s : List ℕ) (a : ℕ) → suc a ≤ length s → part_of s a (suc a) ≡ get_or s a 0 ∷ []
part_one s a h = part_cons s a (suc a) (omega arith) h ∙ ap (λ (l : List ℕ). get_or s a 0 ∷ l) (part_none s (suc a) (suc a) (omega arith))

pub part_two : (s : List ℕ) (a e : ℕ) → suc (suc a) ≤ e → e ≤ length s → part_of s a e ≡ get_or s a 0 ∷ get_or s (suc a) 0 ∷ part_of s (suc (suc a)) e
part_two s a e h k = part_cons s a e (omega arith) k ∙ ap (λ (l : List ℕ). get_or s a 0 ∷ l) (part_cons s (suc a) e (omega arith) k)
