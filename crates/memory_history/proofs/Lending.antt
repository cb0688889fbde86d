-- A call that is lent the front of a memory: too little of it is 17 and changes nothing, and what is not lent stays.
use Prim.Native.Nat.{ℕ, min, ◌+◌, ◌-◌, ◌≤◌, ◌<◌}
use mathlib.Core.Path.{◌≡◌, refl, sym, ap, ◌∙◌}
use mathlib.Core.Bool.{Bool, true, false, cond}
use mathlib.Core.List.{List, [], ◌∷◌, ◌++◌}
use native.Mathlib.Decide.{dec_lt}
use native.Mathlib.Omega.{arith}
use lib.Dec.{leb}
use lib.ListN.{length, take, drop, get_or, length-append, length-take, take-append-drop, drop_of_length-le, get_or-append}
use lib.Seq.{take_all, get_or-take, get_or-append-add}
use borrow.Author.Tests.{leb-true, leb-false}
use Rattle.numbers.specs.Table.{none, wrong_length}
use Rattle.card.specs.declared.Card.{Card}
use Rattle.card.specs.Events.{after}
use Rattle.history.specs.Claim as by_value
use Rattle.card_memory.specs.Layout.{size}
use Rattle.card_memory.specs.Decoding.{decoded}
use Rattle.card_memory.proofs.Front.{decoded_same, legible_same}
use Rattle.card_exports.specs.Outcome.{Outcome, refused, call_outcome}
use Rattle.card_exports.specs.Leaving.{StaysAt}
use Rattle.card_exports.proofs.Calls.{too_short}
use Rattle.card_exports.proofs.Leaving.{shaped_left}
use Rattle.memory_history.specs.Claim.{MemoryCall, lent_outcome, run, made}
use Rattle.memory_history.proofs.Calls.{Good, Next, next}

-- one list in the place of another before a third, where they agree
append_agrees : (s t rest : List ℕ) (j : ℕ) → length s ≡ length t → get_or s j 0 ≡ get_or t j 0 → get_or (s ++ rest) j 0 ≡ get_or (t ++ rest) j 0
append_agrees s t rest j e f = go (dec_lt j (length s))
  where
    go : Dec (j < length s) → get_or (s ++ rest) j 0 ≡ get_or (t ++ rest) j 0
    go (yes h) = get_or-append s rest 0 j h ∙ f ∙ sym (get_or-append t rest 0 j (omega arith))
    go (no h) =
        let a : length s + (j - length s) ≡ j = omega arith in
        let b : length t + (j - length s) ≡ j = omega arith in
        (rw a at (get_or-append-add s rest (j - length s) 0)) ∙ sym (rw b at (get_or-append-add t rest (j - length s) 0))

-- all of the memory is lent where it has no more octets than asked for
pub all_lent : (m : List ℕ) (room n : ℕ) → n ≡ min room (length m) → (take n m ≡ take room m) × (drop n m ≡ drop room m)
all_lent m room n e = go (dec_lt room (length m))
  where
    go : Dec (room < length m) → (take n m ≡ take room m) × (drop n m ≡ drop room m)
    go (yes h) = let same : n ≡ room = omega arith in rw same (refl, refl)
    go (no h) =
        let same : n ≡ length m = omega arith in
        rw same (take_all (length m) m (omega arith) ∙ sym (take_all room m (omega arith)), drop_of_length-le m {i = length m} (omega arith) ∙ sym (drop_of_length-le m {i = room} (omega arith)))

-- the octets that are lent, and those that are not
module _ (m : List ℕ) (k : MemoryCall) where
  abbrev lent : List ℕ
  lent = take k.room m

  abbrev rest : List ℕ
  rest = drop k.room m

  whole : lent ++ rest ≡ m
  whole = take-append-drop k.room m

  -- too little
  short_unmade : k.room < size → lent_outcome m k ≡ refused wrong_length m
  unfolding lent_outcome
  short_unmade h = rw (too_short lent (omega (arith, length-take k.room m)) k.call, whole)

  module _ (g : Good m) (enough : size ≤ k.room) where
    lent_long : size ≤ length lent
    lent_long = omega (arith, length-take k.room m, g.long)

    lent_octet : (j : ℕ) → j < size → get_or lent j 0 ≡ get_or m j 0
    lent_octet j h = get_or-take k.room m j 0 (omega arith)

    lent_same : decoded lent ≡ decoded m
    lent_same = decoded_same lent m lent_long g.long lent_octet

    lent_good : Good lent
    lent_good =
        record {
          long = lent_long;
          readable = legible_same lent m lent_long g.long lent_octet ∙ g.readable;
          whole = rw lent_same g.whole;
          shaped = rw lent_same g.shaped;
        }

    after_lent_lem : Next lent (call_outcome lent k.call) (after (decoded lent) k.call).card
    after_lent_lem = next lent lent_good k.call

    abbrev left : List ℕ
    left = (call_outcome lent k.call).memory

    -- the whole memory afterwards
    all_long : length (left ++ rest) ≡ length m
    all_long = length-append left rest ∙ omega (arith, after_lent_lem.as_long, length-append lent rest, ap length whole)

    all_octet : (j : ℕ) → j < size → get_or (left ++ rest) j 0 ≡ get_or left j 0
    all_octet j h = get_or-append left rest 0 j (omega (arith, after_lent_lem.good.long))

    all_same : decoded (left ++ rest) ≡ decoded left
    all_same = decoded_same (left ++ rest) left (omega (arith, all_long, g.long)) after_lent_lem.good.long all_octet

    enough_next : Next m (lent_outcome m k) (after (decoded m) k.call).card
    unfolding lent_outcome
    enough_next =
        let n = after_lent_lem in
        record {
          decodes = all_same ∙ n.decodes ∙ ap (λ (c : Card). (after c k.call).card) lent_same;
          good =
              record {
                long = omega (arith, all_long, g.long);
                readable = legible_same (left ++ rest) left (omega (arith, all_long, g.long)) n.good.long all_octet ∙ n.good.readable;
                whole = rw all_same n.good.whole;
                shaped = rw all_same n.good.shaped;
              };
          as_long = all_long;
          unbroken = n.unbroken;
        }

    enough_left : ((lent_outcome m k).number ≡ none → ⊥) → (j : ℕ) → StaysAt k.call (lent_outcome m k).number j → get_or (lent_outcome m k).memory j 0 ≡ get_or m j 0
    unfolding lent_outcome
    enough_left told j out =
        append_agrees left lent rest j after_lent_lem.as_long (shaped_left lent (λ h. lent_good.shaped) k.call told j out)
        ∙ ap (λ (s : List ℕ). get_or s j 0) whole

-- the card that the call makes by value, if enough is lent
abbrev pub after_lent : Card → MemoryCall → Card
after_lent c k = cond (leb size k.room) (after c k.call).card c

module _ (m : List ℕ) (g : Good m) (k : MemoryCall) where
  pub lent_next : Next m (lent_outcome m k) (after_lent (decoded m) k)
  lent_next = by (leb size k.room) refl
    where
      by : (b : Bool) → leb size k.room ≡ b → Next m (lent_outcome m k) (cond b (after (decoded m) k.call).card (decoded m))
      by true e = enough_next m k g (leb-true _ _ e)
      by false e =
          rw (short_unmade m k (leb-false size k.room e)) (record { decodes = refl; good = g; as_long = refl; unbroken = λ t. omega arith })

  pub lent_leaves : ((lent_outcome m k).number ≡ none → ⊥) → (j : ℕ) → StaysAt k.call (lent_outcome m k).number j → get_or (lent_outcome m k).memory j 0 ≡ get_or m j 0
  lent_leaves told j out = by (leb size k.room) refl
    where
      by : (b : Bool) → leb size k.room ≡ b → get_or (lent_outcome m k).memory j 0 ≡ get_or m j 0
      by true e = enough_left m k g (leb-true _ _ e) told j out
      by false e = ap (λ (o : Outcome). get_or o.memory j 0) (short_unmade m k (leb-false size k.room e))

-- what a history over good memory leaves
pub record Ran (m : List ℕ) (h : List MemoryCall) : Type 0 where
  pub decodes : decoded (run m h) ≡ by_value.run (decoded m) (made h)
  pub good : Good (run m h)
  pub as_long : length (run m h) ≡ length m

run-made : (c : Card) (k : MemoryCall) (h : List MemoryCall) → by_value.run (after_lent c k) (made h) ≡ by_value.run c (made (k ∷ h))
unfolding by_value.run made
run-made c k h = by (leb size k.room)
  where
    by : (b : Bool) → by_value.run (cond b (after c k.call).card c) (made h) ≡ by_value.run c (cond b (k.call ∷ made h) (made h))
    by true = refl
    by false = refl

pub ran : (h : List MemoryCall) (m : List ℕ) → Good m → Ran m h
unfolding run made by_value.run
ran [] m g = record { decodes = refl; good = g; as_long = refl }
ran (k ∷ h) m g =
    let n = lent_next m g k in
    let r = ran h (lent_outcome m k).memory n.good in
    record {
      decodes = r.decodes ∙ ap (λ (c : Card). by_value.run c (made h)) n.decodes ∙ run-made (decoded m) k h;
      good = r.good;
      as_long = r.as_long ∙ n.as_long;
    }
