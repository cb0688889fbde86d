-- What a record shows that was judged good, item by item, and that these facts make it good.
use Prim.Native.Nat.{ℕ, ◌+◌, ◌≤◌}
use mathlib.Core.Path.{◌≡◌, refl}
use mathlib.Core.Bool.{Bool, true, false, cond, and-eq-true_iff}
use mathlib.Core.List.{List}
use native.Mathlib.Omega.{arith}
use lib.ListN.{length, get_or, take, drop, length-drop}
use lib.Seq.{drop-drop, get_or-drop}
use lib.Dec.{leb, ltb}
use borrow.Author.Tests.{lt-ltb, le-leb, leb-true}
use Rattle.number.specs.Groups.{Front, found, none, front_number}
use Rattle.number.proofs.Fronts.{front_within}
use Rattle.swap.specs.declared.kind.Kind.{Kind}
use Rattle.swap.specs.Record.{known_kind, kind_of, length_limit, fits_kind, rank_of}
use Rattle.swap.specs.Items.{Judged, bad, good, judged, judged_content, length_field, limited, good_content, good_kind, good_address}

-- the items of a good record at the front of t: its length takes w octets and is n
pub record Shown (least : ℕ) (t : List ℕ) (w n : ℕ) : Type 0 where
  pub high : least ≤ rank_of (take 7 t)
  pub known : known_kind (get_or t 7 0) ≡ true
  pub front : front_number (drop 8 t) ≡ found n w
  pub short : n ≤ length_limit (kind_of (get_or t 7 0))
  pub fits : 8 + w + n ≤ length t
  pub text : fits_kind (kind_of (get_or t 7 0)) (take n (drop (8 + w) t)) ≡ true

not_good : (o w n : ℕ) → bad o ≡ good w n → ⊥
not_good o w n e = let z : ◌≡◌ {A = ℕ} 0 1 = cc in omega arith

-- each test on the way to a good record was passed
passed : (b : Bool) (j : Judged) (o w n : ℕ) → cond b j (bad o) ≡ good w n → (b ≡ true) × (j ≡ good w n)
passed true j o w n e = (refl, e)
passed false j o w n e = absurd (not_good o w n e)

pub within_limit : (most : ℕ) (f : Front) (n w : ℕ) → limited most f ≡ found n w → (f ≡ found n w) × (n ≤ most)
unfolding limited
within_limit most none n w e = let z : ◌≡◌ {A = ℕ} 0 1 = cc in let y : ⊥ = omega arith in absurd y
within_limit most (found m v) n w e = go (leb m most) refl
  where
    go : (b : Bool) → leb m most ≡ b → (found m v ≡ found n w) × (n ≤ most)
    go true h =
        let r : found m v ≡ found n w = rw h at e in
        let p : m ≡ n = cc in
        (r, rw (← p) (leb-true m most h))
    go false h = let r = rw h at e in let z : ◌≡◌ {A = ℕ} 0 1 = cc in let y : ⊥ = omega arith in absurd y

content_shown : (kind : Kind) (f : Front) (s : List ℕ) (w n : ℕ) → judged_content kind f s ≡ good w n → (f ≡ found n w) × (good_content kind n (drop w s) ≡ true)
unfolding judged_content
content_shown kind none s w n e = absurd (not_good 8 w n e)
content_shown kind (found m v) s w n e =
    let p = passed (good_content kind m (drop v s)) (good v m) (8 + v) w n e in
    let r : good v m ≡ good w n = p.1 in
    let q : m ≡ n = cc in
    let u : v ≡ w = cc in
    (rw (q, u), rw (← q, ← u) p.0)

pub shown : (least : ℕ) (t : List ℕ) (w n : ℕ) → judged least t ≡ good w n → Shown least t w n
unfolding judged good_address good_kind good_content length_field
shown least t w n e =
    let kind : Kind = kind_of (get_or t 7 0) in
    let p = passed (good_address least t) _ 0 w n e in
    let a = (and-eq-true_iff (leb 7 (length t)) (leb least (rank_of (take 7 t)))).0 p.0 in
    let q = passed (good_kind (drop 7 t)) _ 7 w n p.1 in
    let k = (and-eq-true_iff (ltb 0 (length (drop 7 t))) (known_kind (get_or (drop 7 t) 0 0))).0 q.0 in
    let c = content_shown kind (length_field kind (drop 8 t)) (drop 8 t) w n q.1 in
    let l = within_limit (length_limit kind) (front_number (drop 8 t)) n w c.0 in
    let g = (and-eq-true_iff (leb n (length (drop w (drop 8 t)))) (fits_kind kind (take n (drop w (drop 8 t))))).0 c.1 in
    let f = front_within (drop 8 t) n w l.0 in
    record {
      high = leb-true _ _ a.1;
      known = rw (get_or-drop 7 t 0 0) at k.1;
      front = l.0;
      short = l.1;
      fits = omega (arith, leb-true n (length (drop w (drop 8 t))) g.0, length-drop w (drop 8 t), length-drop 8 t, f.0, f.1);
      text = rw drop-drop at g.1;
    }

-- and the other way round
pub shown-good : (least : ℕ) (t : List ℕ) (w n : ℕ) → Shown least t w n → judged least t ≡ good w n
unfolding judged good_address good_kind good_content length_field limited judged_content
shown-good least t w n h =
    let a : leb 7 (length t) ≡ true = le-leb 7 (length t) (omega (arith, h.fits)) in
    let b : leb least (rank_of (take 7 t)) ≡ true = le-leb _ _ h.high in
    let c : ltb 0 (length (drop 7 t)) ≡ true = lt-ltb 0 (length (drop 7 t)) (omega (arith, h.fits, length-drop 7 t)) in
    let d : known_kind (get_or (drop 7 t) 0 0) ≡ true = rw (get_or-drop 7 t 0 0) h.known in
    let e : leb n (length_limit (kind_of (get_or t 7 0))) ≡ true = le-leb _ _ h.short in
    let f : leb n (length (drop w (drop 8 t))) ≡ true = le-leb n (length (drop w (drop 8 t))) (omega (arith, h.fits, length-drop w (drop 8 t), length-drop 8 t)) in
    rw (a, b, c, d, h.front, e, f, drop-drop w 8 t, h.text)
