-- Each way out of the functions that judge one head, against the definition.
use Prim.Native.Nat.{ℕ, ◌+◌, ◌≤◌, ◌<◌}
use mathlib.Core.Path.{◌≡◌}
use mathlib.Core.Bool.{Bool, true, false, cond, and-false}
use mathlib.Core.List.{List}
use lib.ListN.{length, get_or, take}
use lib.Dec.{leb, lit≤}
use borrow.Author.Tests.{le-leb, lt-leb}
use native.Mathlib.Omega.{arith}
use Rattle.numbers.specs.declared.Octets.{Octets}
use Rattle.swap_write.specs.declared.judge.BadItem.{BadItem}
use Rattle.numbers.specs.Counts.{in_octets}
use Rattle.number.proofs.Laying.{encoded_short}
use Rattle.number.specs.Groups.{encoded}
use Rattle.swap.specs.declared.kind.Kind.{Kind}
use Rattle.swap.specs.Record.{known_kind, kind_of, length_limit, fits_kind, rank_of}
use Rattle.swap.specs.Items.{good_content}
use Rattle.std.specs.Prelude.{Result, Ok, Err}
use Rattle.swap_write.specs.Heads.{head_length}
use Rattle.swap_write.specs.Heading.{data_judged, head_judged}

module _ (kind : Kind) (n : ℕ) (ds : List ℕ) where
  pub data_long : length_limit kind < n → Err (record { 0 = in_octets 8 }) ≡ data_judged kind n ds
  unfolding data_judged
  data_long h = rw (lt-leb n (length_limit kind) h)

  module _ (h : n ≤ length_limit kind) where
    data_refused : good_content kind n ds ≡ false → Err (record { 0 = in_octets (8 + length (encoded n)) }) ≡ data_judged kind n ds
    unfolding data_judged
    data_refused e = rw (le-leb n (length_limit kind) h, e)

    pub data_cut : length ds < n → Err (record { 0 = in_octets (8 + length (encoded n)) }) ≡ data_judged kind n ds
    unfolding good_content
    data_cut c = data_refused (rw (lt-leb n (length ds) c))

    pub data_ill : fits_kind kind (take n ds) ≡ false → Err (record { 0 = in_octets (8 + length (encoded n)) }) ≡ data_judged kind n ds
    unfolding good_content
    data_ill e = data_refused (rw e (and-false (leb n (length ds))))

    pub data_good : n ≤ length ds → fits_kind kind (take n ds) ≡ true → Ok (in_octets n) ≡ data_judged kind n ds
    unfolding data_judged good_content
    data_good c e = rw (le-leb n (length_limit kind) h, le-leb n (length ds) c, e)

module _ (least : ℕ) (hs ds : List ℕ) where
  pub head_low : rank_of (take 7 hs) < least → Err (record { 0 = in_octets 0 }) ≡ head_judged least hs ds
  unfolding head_judged
  head_low h = rw (lt-leb least (rank_of (take 7 hs)) h)

  module _ (h : least ≤ rank_of (take 7 hs)) where
    pub head_unknown : known_kind (get_or hs 7 0) ≡ false → Err (record { 0 = in_octets 7 }) ≡ head_judged least hs ds
    unfolding head_judged
    head_unknown e = rw (le-leb least (rank_of (take 7 hs)) h, e)

    pub head_data : known_kind (get_or hs 7 0) ≡ true → data_judged (kind_of (get_or hs 7 0)) (head_length hs) ds ≡ head_judged least hs ds
    unfolding head_judged
    head_data e = rw (le-leb least (rank_of (take 7 hs)) h, e)

-- a bad item stands within the octets before the data's end
pub head_bad : (least : ℕ) (hs ds : List ℕ) (o : BadItem) → head_judged least hs ds ≡ Err o → o.0.0 ≤ 13
unfolding head_judged data_judged
head_bad least hs ds o e = go (leb least (rank_of (take 7 hs))) (known_kind (get_or hs 7 0)) (leb n (length_limit kind)) (good_content kind n ds) e
  where
    n : ℕ
    n = head_length hs

    kind : Kind
    kind = kind_of (get_or hs 7 0)

    small : (p : BadItem) → ◌≡◌ {A = Result Octets BadItem} (Err p) (Err o) → p.0.0 ≤ 13 → o.0.0 ≤ 13
    small p q h = let e : p ≡ o = cc in rw (← e) h

    go : (a b c d : Bool) → cond a (cond b (cond c (cond d (Ok (in_octets n)) (Err (record { 0 = in_octets (8 + length (encoded n)) }))) (Err (record { 0 = in_octets 8 }))) (Err (record { 0 = in_octets 7 }))) (Err (record { 0 = in_octets 0 })) ≡ Err o → o.0.0 ≤ 13
    go false b c d q = small (record { 0 = in_octets 0 }) q (lit≤ tt)
    go true false c d q = small (record { 0 = in_octets 7 }) q (lit≤ tt)
    go true true false d q = small (record { 0 = in_octets 8 }) q (lit≤ tt)
    go true true true false q = small (record { 0 = in_octets (8 + length (encoded n)) }) q (omega (arith, encoded_short n))
    go true true true true q = let z : ◌≡◌ {A = ℕ} 0 1 = cc in let y : ⊥ = omega arith in absurd y
