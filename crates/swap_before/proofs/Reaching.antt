-- From a record's start the next items are reached: its kind, and, if all its items are good, what is due after it.
use Prim.Native.Nat.{ℕ, suc, ◌+◌}
use mathlib.Core.Path.{◌≡◌, subst}
use mathlib.Core.Bool.{true}
use mathlib.Core.List.{List}
use native.Mathlib.Omega.{arith}
use borrow.Author.Tests.{lt-ltb, le-leb}
use lib.ListN.{length, get_or, take, drop, length-drop}
use lib.Seq.{drop-drop, get_or-drop}
use Rattle.swap.specs.declared.kind.Kind.{Kind}
use Rattle.swap.specs.Record.{kind_of, rank_of, length_limit}
use Rattle.swap.specs.Items.{good_address, good_kind, good_content, length_field, limited}
use Rattle.swap.specs.Faults.{address_due, kind_due, length_due, content_due, records_due, length_read, item, Reached, passed}
use Rattle.swap.proofs.Shown.{Shown}

module _ (s : List ℕ) (k least at : ℕ) (here : Reached s (address_due k least) at) where
  -- the octets from the record's start on
  abbrev t : List ℕ
  t = drop at s

  abbrev rank : ℕ
  rank = rank_of (take 7 (drop at s))

  pub kind_reached : good_address least (drop at s) ≡ true → Reached s (kind_due k (rank_of (take 7 (drop at s)))) (at + 7)
  unfolding item
  kind_reached e = passed {next = kind_due k rank} {w = 7} here (rw e)

  module _ (w n : ℕ) (h : Shown least (drop at s) w n) where
    address_good : good_address least t ≡ true
    unfolding good_address
    address_good = rw (le-leb 7 (length t) (omega (arith, h.fits)), le-leb least rank h.high)

    abbrev kind : Kind
    kind = kind_of (get_or (drop at s) 7 0)

    length_reached : Reached s (length_due k rank kind) (at + 7 + 1)
    unfolding item good_kind
    length_reached =
        let some = lt-ltb 0 (length (drop 7 t)) (omega (arith, h.fits, length-drop 7 t)) in
        passed {next = length_due k rank kind} {w = 1} (kind_reached address_good) (rw (← drop-drop 7 at s, some, get_or-drop 7 t 0 0, h.known))

    content_reached : Reached s (content_due k rank kind n) (at + 7 + 1 + w)
    unfolding item length_read length_field limited
    content_reached =
        let p : at + 7 + 1 ≡ at + 8 = omega arith in
        passed {next = content_due k rank kind n} {w = w} length_reached (rw (p, ← drop-drop 8 at s, h.front, le-leb n (length_limit kind) h.short))

    -- a good record leads to what is due after it
    pub record_reached : Reached s (records_due k (suc (rank_of (take 7 (drop at s))))) (at + (8 + w + n))
    unfolding item good_content
    record_reached =
        let p : at + 7 + 1 + w ≡ at + (8 + w) = omega arith in
        let q : at + 7 + 1 + w + n ≡ at + (8 + w + n) = omega arith in
        let whole = le-leb n (length (drop (8 + w) t)) (omega (arith, h.fits, length-drop (8 + w) t)) in
        subst (λ (o : ℕ). Reached s (records_due k (suc rank)) o) q
        (passed {next = records_due k (suc rank)} {w = n} content_reached (rw (p, ← drop-drop (8 + w) at s, whole, h.text)))
