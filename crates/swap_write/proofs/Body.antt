-- The octets of a head with its data, as the reader judges them: the head and the data alone say what it finds.
use Prim.Native.Nat.{ℕ, suc, ◌+◌, ◌^◌, ◌≤◌, ◌<◌}
use mathlib.Core.Path.{◌≡◌, refl, sym, ap, ◌∙◌}
use mathlib.Core.Bool.{Bool, true, false, cond, and-eq-true_iff}
use mathlib.Core.List.{List, ◌++◌, append_assoc}
use native.Mathlib.Omega.{arith}
use lib.ListN.{length, get_or, take, drop, length-append, length-drop, get_or-append}
use lib.Seq.{take-append-le, take_at, drop_at, get_or-drop, get_or-take, take-take, length-take-le}
use lib.Dec.{leb, ltb, lit<, lit≤}
use borrow.Author.Tests.{le-leb, lt-leb, lt-ltb, leb-true}
use Rattle.numbers.specs.declared.Octets.{Octets}
use Rattle.numbers.specs.Counts.{in_octets}
use Rattle.number.specs.Groups.{encoded, found, none}
use Rattle.number.proofs.Forms.{front_form}
use Rattle.swap.specs.declared.kind.Kind.{Kind}
use Rattle.swap.specs.Record.{known_kind, kind_of, length_limit, fits_kind, rank_of}
use Rattle.swap.specs.Items.{Judged, bad, good, judged, judged_content, length_field, limited, good_address, good_kind, good_content}
use Rattle.swap_write.specs.declared.judge.BadItem.{BadItem}
use Rattle.std.specs.Prelude.{Result, Ok, Err}
use Rattle.swap_write.specs.Heads.{head_length, front_octets, body_of}
use Rattle.swap_write.specs.Heading.{data_judged, head_judged}

-- what the reader finds where a head makes this
abbrev pub as_judged : Result Octets BadItem → Judged
as_judged (Err o) = bad o.0.0
as_judged (Ok n) = good (length (encoded n.0)) n.0

data_laid : (kind : Kind) (n : ℕ) (c : List ℕ) → judged_content kind (limited (length_limit kind) (found n (length (encoded n)))) (encoded n ++ c) ≡ as_judged (data_judged kind n c)
unfolding judged_content limited data_judged
data_laid kind n c = go (leb n (length_limit kind))
  where
    pick : (g : Bool) → cond g (good (length (encoded n)) n) (bad (8 + length (encoded n))) ≡ as_judged (cond g (Ok (in_octets n)) (Err (record { 0 = in_octets (8 + length (encoded n)) })))
    pick true = refl
    pick false = refl

    go : (a : Bool) → judged_content kind (cond a (found n (length (encoded n))) none) (encoded n ++ c) ≡ as_judged (cond a (cond (good_content kind n c) (Ok (in_octets n)) (Err (record { 0 = in_octets (8 + length (encoded n)) }))) (Err (record { 0 = in_octets 8 })))
    go false = refl
    go true = rw (drop_at (encoded n) c (length (encoded n)) refl) (pick (good_content kind n c))

-- eight octets, a length and what follows
module _ (p : List ℕ) (n : ℕ) (c : List ℕ) (eight : length p ≡ 8) (small : n < 2 ^ 32) where
  laid_long : 8 ≤ length ((p ++ encoded n) ++ c)
  laid_long = simp length-append (omega (arith, eight))

  laid_rank : take 7 ((p ++ encoded n) ++ c) ≡ take 7 p
  laid_rank = rw (append_assoc, take-append-le 7 p (encoded n ++ c) (omega (arith, eight)))

  laid_kind : get_or ((p ++ encoded n) ++ c) 7 0 ≡ get_or p 7 0
  laid_kind = rw append_assoc (get_or-append p (encoded n ++ c) 0 7 (omega (arith, eight)))

  laid_rest : drop 8 ((p ++ encoded n) ++ c) ≡ encoded n ++ c
  laid_rest = rw append_assoc (drop_at p (encoded n ++ c) 8 eight)

  laid_judged : (least : ℕ) → judged least ((p ++ encoded n) ++ c) ≡ cond (leb least (rank_of (take 7 p))) (cond (known_kind (get_or p 7 0)) (as_judged (data_judged (kind_of (get_or p 7 0)) n c)) (bad 7)) (bad 0)
  unfolding judged good_address good_kind length_field data_judged
  laid_judged least =
      let t : List ℕ = (p ++ encoded n) ++ c in
      let a : leb 7 (length t) ≡ true = le-leb 7 (length t) (omega (arith, laid_long)) in
      let b : ltb 0 (length (drop 7 t)) ≡ true = lt-ltb 0 (length (drop 7 t)) (omega (arith, laid_long, length-drop 7 t)) in
      let d : get_or (drop 7 t) 0 0 ≡ get_or p 7 0 = get_or-drop 7 t 0 0 ∙ laid_kind in
      rw (a, b, d, laid_rank, laid_kind, laid_rest, front_form n c small, data_laid (kind_of (get_or p 7 0)) n c)

as_judged_cases : (a b : Bool) (h : Result Octets BadItem) → cond a (cond b (as_judged h) (bad 7)) (bad 0) ≡ as_judged (cond a (cond b h (Err (record { 0 = in_octets 7 }))) (Err (record { 0 = in_octets 0 })))
as_judged_cases false b h = refl
as_judged_cases true false h = refl
as_judged_cases true true h = refl

-- the head at the front of hs, with its data at the front of ds
module _ (k : ℕ) (hs ds : List ℕ) (ten : 10 ≤ length hs) (small : head_length hs < 2 ^ 32) where
  eight : length (take 8 hs) ≡ 8
  eight = length-take-le 8 hs (omega arith)

  -- what follows the length
  follows : Bool → List ℕ
  follows true = take (head_length hs) ds ++ body_of k (drop 10 hs) (drop (head_length hs) ds)
  follows false = ds

  body_split : (b : Bool) → leb (head_length hs) (length ds) ≡ b → body_of (suc k) hs ds ≡ (take 8 hs ++ encoded (head_length hs)) ++ follows b
  unfolding body_of front_octets follows
  body_split true e = rw e
  body_split false e = rw e

  content_follows : (kind : Kind) (b : Bool) → leb (head_length hs) (length ds) ≡ b → good_content kind (head_length hs) (follows b) ≡ good_content kind (head_length hs) ds
  unfolding follows good_content
  content_follows kind false e = refl
  content_follows kind true e =
      let n : ℕ = head_length hs in
      let h : n ≤ length ds = leb-true n (length ds) e in
      let l : length (take n ds) ≡ n = length-take-le n ds h in
      rw (
        le-leb n (length (take n ds ++ body_of k (drop 10 hs) (drop n ds))) (rw length-append (omega arith)),
        e,
        take_at (take n ds) (body_of k (drop 10 hs) (drop n ds)) n l,
      )

  pub body_judged : (least : ℕ) → judged least (body_of (suc k) hs ds) ≡ as_judged (head_judged least hs ds)
  unfolding head_judged data_judged
  body_judged least = go (leb (head_length hs) (length ds)) refl
    where
      go : (b : Bool) → leb (head_length hs) (length ds) ≡ b → judged least (body_of (suc k) hs ds) ≡ as_judged (head_judged least hs ds)
      go b e =
          rw (body_split b e, laid_judged (take 8 hs) (head_length hs) (follows b) eight small least, take-take 7 8 hs (lit≤ tt), get_or-take 8 hs 7 0 (lit< tt), content_follows (kind_of (get_or hs 7 0)) b e)
          (as_judged_cases (leb least (rank_of (take 7 hs))) (known_kind (get_or hs 7 0)) _)

  pub body_rank : rank_of (take 7 (body_of (suc k) hs ds)) ≡ rank_of (take 7 hs)
  body_rank = go (leb (head_length hs) (length ds)) refl
    where
      go : (b : Bool) → leb (head_length hs) (length ds) ≡ b → rank_of (take 7 (body_of (suc k) hs ds)) ≡ rank_of (take 7 hs)
      go b e = rw (body_split b e, laid_rank (take 8 hs) (head_length hs) (follows b) eight small, take-take 7 8 hs (lit≤ tt))

  -- where the data runs out
  pub length_cut : length ds < head_length hs → length (body_of (suc k) hs ds) ≡ 8 + length (encoded (head_length hs)) + length ds
  unfolding follows
  length_cut h = rw (body_split false (lt-leb (head_length hs) (length ds) h)) (simp length-append (omega (arith, eight)))

  -- and where it does not
  module _ (fits : head_length hs ≤ length ds) where
    pub whole : body_of (suc k) hs ds ≡ ((take 8 hs ++ encoded (head_length hs)) ++ take (head_length hs) ds) ++ body_of k (drop 10 hs) (drop (head_length hs) ds)
    unfolding follows
    whole = body_split true (le-leb (head_length hs) (length ds) fits)
        ∙ sym (append_assoc (take 8 hs ++ encoded (head_length hs)) (take (head_length hs) ds) (body_of k (drop 10 hs) (drop (head_length hs) ds)))

    pub front_long : length ((take 8 hs ++ encoded (head_length hs)) ++ take (head_length hs) ds) ≡ 8 + length (encoded (head_length hs)) + head_length hs
    front_long = simp length-append (omega (arith, eight, length-take-le (head_length hs) ds fits))

    pub body_next : drop (8 + length (encoded (head_length hs)) + head_length hs) (body_of (suc k) hs ds) ≡ body_of k (drop 10 hs) (drop (head_length hs) ds)
    body_next = rw whole (drop_at ((take 8 hs ++ encoded (head_length hs)) ++ take (head_length hs) ds) (body_of k (drop 10 hs) (drop (head_length hs) ds)) _ front_long)

    pub length_next : length (body_of (suc k) hs ds) ≡ 8 + length (encoded (head_length hs)) + head_length hs + length (body_of k (drop 10 hs) (drop (head_length hs) ds))
    length_next = rw (whole, length-append, front_long)

passed : (b : Bool) (h : Result Octets BadItem) (o n : ℕ) → cond b h (Err (record { 0 = in_octets o })) ≡ Ok (in_octets n) → (b ≡ true) × (h ≡ Ok (in_octets n))
passed true h o n e = (refl, e)
passed false h o n e = let z : ◌≡◌ {A = ℕ} 0 1 = cc in let y : ⊥ = omega arith in absurd y

-- a good head states its length, which the data has
pub head_good : (least : ℕ) (hs ds : List ℕ) (n : ℕ) → head_judged least hs ds ≡ Ok (in_octets n) → (n ≡ head_length hs) × (head_length hs ≤ length ds)
unfolding head_judged data_judged good_content
head_good least hs ds n e =
    let kind : Kind = kind_of (get_or hs 7 0) in
    let a = passed (leb least (rank_of (take 7 hs))) _ 0 n e in
    let b = passed (known_kind (get_or hs 7 0)) _ 7 n a.1 in
    let c = passed (leb (head_length hs) (length_limit kind)) _ 8 n b.1 in
    let d = passed (good_content kind (head_length hs) ds) _ (8 + length (encoded (head_length hs))) n c.1 in
    let f = (and-eq-true_iff (leb (head_length hs) (length ds)) (fits_kind kind (take (head_length hs) ds))).0 d.0 in
    let g : Ok (in_octets (head_length hs)) ≡ Ok (in_octets n) = d.1 in
    let k : in_octets (head_length hs) ≡ in_octets n = cc in
    let m : head_length hs ≡ n = ap (λ (o : Octets). o.0) k in
    (sym m, leb-true (head_length hs) (length ds) f.0)
