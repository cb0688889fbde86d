-- What an admitted request has passed, and what it sends of what was lent.
use Prim.Native.Nat.{ℕ, ◌≤◌, ◌<◌}
use mathlib.Core.Path.{◌≡◌, refl}
use mathlib.Core.Bool.{Bool, true, false, cond, ◌&&◌, and-false}
use mathlib.Core.List.{List}
use native.Mathlib.Omega.{arith}
use lib.Dec.{eqb, leb}
use lib.ListN.{length}
use borrow.Author.Tests.{eqb-true, leb-true, le-leb, lt-leb}
use Rattle.numbers.specs.Table.{none, wrong_address, too_long, broken_rule, busy, weak_key}
use Rattle.octets.specs.Between.{between}
use Rattle.octets.proofs.Impossible.{impossible}
use Rattle.frame.specs.Layout.{layout_of, within}
use Rattle.wake.specs.declared.Request.{Request}
use Rattle.wake.specs.declared.Request.TheVariants.{Enq, Trf, Rec, Trb, Ib}
use Rattle.tool.specs.declared.Tool.{Tool}
use Rattle.frame.specs.Sizes.{address_width, number_width, most_programmed, most_transferred, longest_frame}
use Rattle.tool.specs.Parts.{idle}
use Rattle.tool.specs.Soundness.{sound}
use Rattle.tool.specs.Requests.{Asking, sent_command, addressable, weakly_keyed, limit_of, lent_rightly, admission, after_asking}

-- what is lent for a request is as long as it must be
pub record Lent (ads key na1 : List ℕ) (buffer_length : ℕ) : Type 0 where
  pub address : length ads ≡ address_width
  pub secret : length key ≡ number_width
  pub first : length na1 ≡ number_width
  pub buffer : longest_frame ≤ buffer_length

pub lent : (ads key na1 : List ℕ) (buffer_length : ℕ) → lent_rightly ads key na1 buffer_length ≡ true → Lent ads key na1 buffer_length
lent ads key na1 buffer_length =
    go (eqb (length ads) address_width) (eqb (length key) number_width) (eqb (length na1) number_width) (leb longest_frame buffer_length) refl refl refl refl
  where
    go : (a b c d : Bool) → eqb (length ads) address_width ≡ a → eqb (length key) number_width ≡ b → eqb (length na1) number_width ≡ c → leb longest_frame buffer_length ≡ d
        → (a && (b && (c && d))) ≡ true → Lent ads key na1 buffer_length
    go true true true true ea eb ec ed e =
        record { address = eqb-true _ _ ea; secret = eqb-true _ _ eb; first = eqb-true _ _ ec; buffer = leb-true _ _ ed }
    go true true true false ea eb ec ed e = impossible (cc)
    go true true false d ea eb ec ed e = impossible (cc)
    go true false c d ea eb ec ed e = impossible (cc)
    go false b c d ea eb ec ed e = impossible (cc)

-- a buffer that is too short is not lent rightly, and how long a longer one is does not matter
module _ (ads key na1 : List ℕ) (buffer_length : ℕ) where
  pub lent_short : buffer_length < longest_frame → lent_rightly ads key na1 buffer_length ≡ false
  lent_short h = rw (lt-leb _ _ h, and-false (eqb (length na1) number_width), and-false (eqb (length key) number_width), and-false (eqb (length ads) address_width))

  pub lent_long : longest_frame ≤ buffer_length → lent_rightly ads key na1 buffer_length ≡ lent_rightly ads key na1 longest_frame
  lent_long h = rw (le-leb _ _ h)

pub asked_long : (t : Tool) (q : Asking) (buffer_length : ℕ) → longest_frame ≤ buffer_length → after_asking t q longest_frame ≡ after_asking t q buffer_length
unfolding after_asking
asked_long t q buffer_length h = rw (lent_long q.ads q.key q.na1 buffer_length h)

pub record Admits (t : Tool) (q : Asking) : Type 0 where
  pub sound : sound t ≡ true
  pub idle : idle t.phase ≡ true
  pub sort : addressable q.request q.ads ≡ true
  pub key : weakly_keyed q.request q.key ≡ false
  pub within : length q.content ≤ limit_of q.request

pub admits : (t : Tool) (q : Asking) → admission t q ≡ none → Admits t q
unfolding admission
admits t q =
    go (sound t) (idle t.phase) (addressable q.request q.ads) (weakly_keyed q.request q.key) (leb (length q.content) (limit_of q.request)) refl refl refl refl refl
  where
    go : (s i x k y : Bool) → sound t ≡ s → idle t.phase ≡ i → addressable q.request q.ads ≡ x → weakly_keyed q.request q.key ≡ k
        → leb (length q.content) (limit_of q.request) ≡ y
        → cond s (cond i (cond x (cond k weak_key (cond y none too_long)) wrong_address) busy) broken_rule ≡ none → Admits t q
    go true true true false true es ei ex ek ey e = record { sound = es; idle = ei; sort = ex; key = ek; within = leb-true _ _ ey }
    go true true true false false es ei ex ek ey e = impossible (cc)
    go true true true true y es ei ex ek ey e = impossible (cc)
    go true true false k y es ei ex ek ey e = impossible (cc)
    go true false x k y es ei ex ek ey e = impossible (cc)
    go false i x k y es ei ex ek ey e = impossible (cc)

-- the limit of 01 is that of the request's frame
pub limit_within : (r : Request) (n : ℕ) → n ≤ limit_of r → within (layout_of (sent_command r)) n ≡ true
unfolding within layout_of between
limit_within Enq n h = rw (le-leb 0 n (omega arith), le-leb n 0 h)
limit_within Trf n h = rw (le-leb 0 n (omega arith), le-leb n most_transferred h)
limit_within Rec n h = rw (le-leb 0 n (omega arith), le-leb n most_programmed h)
limit_within Trb n h = rw (le-leb 0 n (omega arith), le-leb n most_transferred h)
limit_within Ib n h = rw (le-leb 0 n (omega arith), le-leb n 0 h)
