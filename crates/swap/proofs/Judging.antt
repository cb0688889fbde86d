-- Each way out of the functions that judge a record's items, against the definition.
use Prim.Native.Nat.{ℕ, ◌+◌, ◌-◌, ◌≤◌, ◌<◌}
use mathlib.Core.Path.{◌≡◌, sym, ap, ◌∙◌}
use mathlib.Core.Bool.{true, false, cond, and-false}
use mathlib.Core.List.{List}
use native.Mathlib.Omega.{arith}
use lib.ListN.{length, get_or, take, drop, length-drop}
use lib.Seq.{drop-drop, get_or-drop}
use lib.Dec.{leb, ltb}
use borrow.Author.Tests.{lt-ltb, le-ltb, le-leb, lt-leb}
use Rattle.numbers.specs.Counts.{in_octets}
use Rattle.number.specs.Groups.{found, none, front_number}
use Rattle.swap.specs.declared.kind.Kind.{Kind}
use Rattle.std.specs.Prelude.{Ok, Err}
use Rattle.swap.specs.Record.{known_kind, kind_of, length_limit, fits_kind, rank_of}
use Rattle.swap.specs.Items.{bad, good, judged, judged_content, length_field, limited, good_content, good_kind, good_address}
use Rattle.swap.specs.Cursor.{placed_item, item_at, content_at}

module _ (kind : Kind) (s : List ℕ) (at : ℕ) where
  pub content_none : front_number (drop (at + 8) s) ≡ none → Err (record { 0 = in_octets (at + 8) }) ≡ content_at kind s at
  unfolding content_at placed_item judged_content length_field limited
  content_none e = rw e

  pub content_long : (n w : ℕ) → front_number (drop (at + 8) s) ≡ found n w → length_limit kind < n → Err (record { 0 = in_octets (at + 8) }) ≡ content_at kind s at
  unfolding content_at placed_item judged_content length_field limited
  content_long n w e h = rw (e, lt-leb n (length_limit kind) h)

  module _ (n w next : ℕ) (e : front_number (drop (at + 8) s) ≡ found n w) (h : n ≤ length_limit kind) (p : next ≡ at + 8 + w) where
    -- the data from next on
    from_next : drop w (drop (at + 8) s) ≡ drop next s
    from_next = rw (drop-drop, p)

    content_is : content_at kind s at ≡ placed_item at kind (drop at s) (cond (good_content kind n (drop next s)) (good w n) (bad (8 + w)))
    unfolding content_at judged_content length_field limited
    content_is = rw (e, le-leb n (length_limit kind) h, from_next)

    content_refused : good_content kind n (drop next s) ≡ false → Err (record { 0 = in_octets next }) ≡ content_at kind s at
    unfolding placed_item
    content_refused g = let q : at + (8 + w) ≡ next = omega arith in sym (content_is ∙ rw (g, q))

    pub content_cut : next ≤ length s → length s - next < n → Err (record { 0 = in_octets next }) ≡ content_at kind s at
    unfolding good_content
    content_cut a c = content_refused (rw (lt-leb n (length (drop next s)) (omega (arith, length-drop next s))))

    pub content_ill : fits_kind kind (take n (drop next s)) ≡ false → Err (record { 0 = in_octets next }) ≡ content_at kind s at
    unfolding good_content
    content_ill f = content_refused (rw f (and-false (leb n (length (drop next s)))))

    pub content_good : next ≤ length s → n ≤ length s - next → fits_kind kind (take n (drop next s)) ≡ true → Ok (record { at = in_octets at; tab = get_or s (at + 6) 0; kind = kind; from = in_octets next; length = in_octets n }) ≡ content_at kind s at
    unfolding good_content placed_item
    content_good a c f =
        let q : at + 8 + w ≡ next = omega arith in
        sym (content_is ∙ rw (le-leb n (length (drop next s)) (omega (arith, length-drop next s)), f, q, get_or-drop at s 6 0))

-- t is the part of the file from the record's start on
module _ (least : ℕ) (s : List ℕ) (at : ℕ) (t : List ℕ) (part : t ≡ drop at s) where
  item_refused : (o : ℕ) → judged least t ≡ bad o → Err (record { 0 = in_octets (at + o) }) ≡ item_at least s at
  unfolding item_at placed_item
  item_refused o e = rw (← part, e)

  address_refused : good_address least t ≡ false → Err (record { 0 = in_octets at }) ≡ item_at least s at
  unfolding judged
  address_refused g = let z : at ≡ at + 0 = omega arith in ap (λ (n : ℕ). Err (record { 0 = in_octets n })) z ∙ item_refused 0 (rw g)

  pub item_cut : length t < 7 → Err (record { 0 = in_octets at }) ≡ item_at least s at
  unfolding good_address
  item_cut h = address_refused (rw (lt-leb 7 (length t) h))

  pub item_low : rank_of (take 7 t) < least → Err (record { 0 = in_octets at }) ≡ item_at least s at
  unfolding good_address
  item_low h = address_refused (rw (lt-leb least (rank_of (take 7 t)) h) (and-false (leb 7 (length t))))

  module _ (long : 7 ≤ length t) (high : least ≤ rank_of (take 7 t)) where
    address_good : good_address least t ≡ true
    unfolding good_address
    address_good = rw (le-leb 7 (length t) long, le-leb least (rank_of (take 7 t)) high)

    kind_refused : good_kind (drop 7 t) ≡ false → Err (record { 0 = in_octets (at + 7) }) ≡ item_at least s at
    unfolding judged
    kind_refused g = item_refused 7 (rw (address_good, g))

    pub item_short : length t < 8 → Err (record { 0 = in_octets (at + 7) }) ≡ item_at least s at
    unfolding good_kind
    item_short h = kind_refused (rw (le-ltb 0 (length (drop 7 t)) (omega (arith, length-drop 7 t))))

    pub item_unknown : known_kind (get_or t 7 0) ≡ false → Err (record { 0 = in_octets (at + 7) }) ≡ item_at least s at
    unfolding good_kind
    item_unknown h = kind_refused (rw (get_or-drop 7 t 0 0, h) (and-false (ltb 0 (length (drop 7 t)))))

    pub item_content : 8 ≤ length t → known_kind (get_or t 7 0) ≡ true → content_at (kind_of (get_or t 7 0)) s at ≡ item_at least s at
    unfolding item_at judged content_at good_kind
    item_content l h =
        let d : drop 8 t ≡ drop (at + 8) s = rw (part, drop-drop) in
        rw (← part, address_good, lt-ltb 0 (length (drop 7 t)) (omega (arith, length-drop 7 t)), get_or-drop 7 t 0 0, h, d)
