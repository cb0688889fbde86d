-- One field, written and read: a field that is read back, a field that is written as it was read, and a field of two frames that agree.
use Prim.Native.Nat.{ℕ, suc, ◌+◌, ◌-◌, ◌≤◌, ◌<◌}
use mathlib.Core.Path.{◌≡◌, refl, sym, ◌∙◌}
use mathlib.Core.List.{List, [], ◌∷◌, ◌++◌, reverse, reverse-reverse}
use mathlib.Core.Bool.{true, false, and-false}
use native.Mathlib.Nat.{add-zero}
use native.Mathlib.Omega.{arith}
use lib.ListN.{length, get_or, replicate, length-reverse, length-replicate, get_or-replicate}
use lib.Seq.{get_or_at, ext_get_or}
use lib.Dec.{leb}
use borrow.Author.Tests.{le-leb, lt-leb, lt-ltb, le-ltb}
use Rattle.octets.specs.Part.{part_of}
use Rattle.octets.proofs.Parts.{part_middle, part_none, part_agree, part_cons, length_part, get_or_part}
use Rattle.octets.proofs.Splice.{spliced_whole}
use Rattle.frame.specs.declared.layout.Presence.{Presence}
use Rattle.frame.specs.declared.layout.Presence.TheVariants.{Absent, Zero, Carried}
use Rattle.frame.specs.Layout.{width}
use Rattle.frame.specs.Content.{turned, on_wire, value_at, octet_at, carried_by, carried_octet, in_zero}

pub value_on_wire : (p : Presence) (v : List ℕ) (n : ℕ) (before after : List ℕ) (at : ℕ) → length v ≡ n → length before ≡ at → value_at p n (before ++ (on_wire p v ++ after)) at ≡ carried_by p v
unfolding on_wire value_at carried_by
value_on_wire Absent v n before after at e h = rw e
value_on_wire Zero v n before after at e h = rw e
value_on_wire Carried v n before after at e h =
    let k : length (reverse v) ≡ n = length-reverse v ∙ e in
    rw (part_middle before (reverse v) after at (at + n) h (omega arith), reverse-reverse)
    (spliced_whole (replicate n 0) v (e ∙ sym (length-replicate n 0)))

pub octet_on_wire : (p : Presence) (x : ℕ) (before after : List ℕ) (at : ℕ) → length before ≡ at → octet_at p (before ++ (on_wire p (x ∷ []) ++ after)) at ≡ carried_octet p x
unfolding on_wire octet_at carried_octet
octet_on_wire Absent x before after at h = refl
octet_on_wire Zero x before after at h = refl
octet_on_wire Carried x before after at h = get_or_at before x after 0 at h

-- a field that carries no value
pub value_elsewhere : (p : Presence) (n : ℕ) (s : List ℕ) (at : ℕ) → (p ≡ Carried → ⊥) → value_at p n s at ≡ replicate n 0
unfolding value_at
value_elsewhere Absent n s at h = refl
value_elsewhere Zero n s at h = refl
value_elsewhere Carried n s at h = absurd (h refl)

-- a carried field that the frame has
value_carried : (n : ℕ) (s : List ℕ) (at : ℕ) → at + n ≤ length s → value_at Carried n s at ≡ turned (part_of s at (at + n))
unfolding value_at
value_carried n s at h =
    let k : at + n - at ≡ n = omega arith in
    spliced_whole (replicate n 0) (reverse (part_of s at (at + n)))
    (length-reverse (part_of s at (at + n)) ∙ length_part s at (at + n) (omega arith) h ∙ k ∙ sym (length-replicate n 0))

-- a part whose octets are all zero
zero_part : (s : List ℕ) (at n : ℕ) → at + n ≤ length s → ((i : ℕ) → at ≤ i → i < at + n → get_or s i 0 ≡ 0) → replicate n 0 ≡ part_of s at (at + n)
zero_part s at n h zero =
    let long : length (part_of s at (at + n)) ≡ n = length_part s at (at + n) (omega arith) h ∙ omega arith in
    ext_get_or 0 (replicate n 0) (part_of s at (at + n)) (length-replicate n 0 ∙ sym long)
    (λ j k.
    let small : j < n = omega (arith, length-replicate {A = ℕ} n 0) in
    get_or-replicate n j 0 0 small ∙ sym (get_or_part s at (at + n) j h (omega arith) ∙ zero (at + j) (omega arith) (omega arith)))

pub wire_of_value : (p : Presence) (n : ℕ) (s : List ℕ) (at : ℕ) → at + width p n ≤ length s → ((i : ℕ) → in_zero p n at i ≡ true → get_or s i 0 ≡ 0) → on_wire p (value_at p n s at) ≡ part_of s at (at + width p n)
unfolding on_wire value_at in_zero
wire_of_value Absent n s at h zero = rw add-zero (sym (part_none s at at (omega arith)))
wire_of_value Zero n s at h zero =
    rw (length-replicate {A = ℕ} n 0)
    (zero_part s at n h (λ i a b. zero i (rw (le-leb at i a, lt-ltb i (at + n) b))))
wire_of_value Carried n s at h zero = rw (value_carried n s at h) (reverse-reverse (part_of s at (at + n)))

pub wire_of_octet : (p : Presence) (s : List ℕ) (at : ℕ) → at + width p 1 ≤ length s → ((i : ℕ) → in_zero p 1 at i ≡ true → get_or s i 0 ≡ 0) → on_wire p (octet_at p s at ∷ []) ≡ part_of s at (at + width p 1)
unfolding on_wire octet_at in_zero
wire_of_octet Absent s at h zero = rw add-zero (sym (part_none s at at (omega arith)))
wire_of_octet Zero s at h zero = zero_part s at 1 h (λ i a b. zero i (rw (le-leb at i a, lt-ltb i (at + 1) b)))
wire_of_octet Carried s at h zero =
    rw (part_cons s at (at + 1) (omega arith) h, part_none s (suc at) (at + 1) (omega arith))

pub value_agrees : (p : Presence) (n : ℕ) (s t : List ℕ) (at : ℕ) → length s ≡ length t → (p ≡ Carried → (i : ℕ) → at ≤ i → i < at + n → get_or s i 0 ≡ get_or t i 0) → value_at p n s at ≡ value_at p n t at
unfolding value_at
value_agrees Absent n s t at e same = refl
value_agrees Zero n s t at e same = refl
value_agrees Carried n s t at e same = rw (part_agree s t at (at + n) e (same refl))

pub octet_agrees : (p : Presence) (s t : List ℕ) (at : ℕ) → (p ≡ Carried → get_or s at 0 ≡ get_or t at 0) → octet_at p s at ≡ octet_at p t at
unfolding octet_at
octet_agrees Absent s t at same = refl
octet_agrees Zero s t at same = refl
octet_agrees Carried s t at same = same refl

-- offsets that lie in no zero field: before it, after it, and where the field carries a value
pub zero_not_before : (p : Presence) (n at i : ℕ) → i < at → in_zero p n at i ≡ false
unfolding in_zero
zero_not_before Absent n at i h = refl
zero_not_before Zero n at i h = rw (lt-leb at i h)
zero_not_before Carried n at i h = refl

pub zero_not_after : (p : Presence) (n at i : ℕ) → at + width p n ≤ i → in_zero p n at i ≡ false
unfolding in_zero
zero_not_after Absent n at i h = refl
zero_not_after Zero n at i h = rw (le-ltb i (at + n) h) (and-false (leb at i))
zero_not_after Carried n at i h = refl

pub zero_not_carried : (p : Presence) (n at i : ℕ) → p ≡ Carried → in_zero p n at i ≡ false
unfolding in_zero
zero_not_carried p n at i e = rw e
