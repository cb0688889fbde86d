-- Laws of finding a record by its TAB.
use Prim.Native.Nat.{ℕ, zero, suc, ◌≤◌, ◌<◌}
use mathlib.Core.Bool.{Bool, true, false, cond}
use mathlib.Core.List.{List, [], ◌∷◌, map}
use mathlib.Core.Logic.{◌⊎◌, inl, inr}
use mathlib.Core.Path.{◌≡◌, refl, sym, ap, ◌∙◌}
use native.Mathlib.Omega.{arith}
use lib.Dec.{ltb, eqb}
use lib.ListN.{length, get_or}
use borrow.Author.Rules.{rules}
use Rattle.std.proofs.Common.{Option, Some, None, ok_or, Result, position}
use Rattle.std.specs.List.{position_or_len}
use Rattle.std.proofs.lemmas.List.Recursion.{is_position_or_len}
use borrow.Author.Tests.{eq-eqb, eqb-true, lt-ltb, ltb-true}
use Rattle.octets.proofs.Impossible.{impossible}
use Rattle.numbers.specs.Table.{no_record, not_open}
use Rattle.numbers.specs.Answer.{given, refused, when_given}
use Rattle.records.specs.declared.Attributes.{Attributes}
use Rattle.records.specs.declared.Record.{Record}
use Rattle.records.specs.declared.Records.{Records}
use Rattle.records.specs.declared.Refusal.{Refusal}
use Rattle.records.specs.declared.Refusal.TheVariants.{NoRecord}
use Rattle.records.specs.Numbers.{answer_of_found}
use Rattle.records.specs.declared.Cause.{Cause}
use Rattle.records.specs.Finding.{used, attributes_of, blank_attributes, index_of, find, find_readable, record_at}
use Rattle.records.specs.Writing.{grant, grant_at}
use Rattle.records.specs.Setup.{Rules}
use Rattle.records.proofs.InUse.{attributes_length, attributes_at}

module _ (l : List Attributes) (t i : ℕ) where
  pub found_at : index_of t l ≡ i → i < length l → find l t ≡ given i
  unfolding find
  found_at e h = rw (e, lt-ltb _ _ h)

  -- what is found lies in the list
  found_below : find l t ≡ given i → i < length l
  unfolding find
  found_below e = go (ltb (index_of t l) (length l)) refl e
    where
      go : (b : Bool) → ltb (index_of t l) (length l) ≡ b → cond b (given (index_of t l)) (refused no_record) ≡ given i → i < length l
      go true q e = let z : index_of t l ≡ i = cc in omega (arith, ltb-true (index_of t l) (length l) q)
      go false q e = impossible (cc)

  found_index : find l t ≡ given i → index_of t l ≡ i
  unfolding find
  found_index e = go (ltb (index_of t l) (length l)) e
    where
      go : (b : Bool) → cond b (given (index_of t l)) (refused no_record) ≡ given i → index_of t l ≡ i
      go true e = cc
      go false e = impossible (cc)

index_tab : (t : ℕ) (l : List Attributes) → index_of t l < length l → (get_or l (index_of t l) blank_attributes).tab ≡ t
unfolding index_of
index_tab t [] h = let f : ⊥ = omega arith in absurd f
index_tab t (a ∷ l) h = go (eqb a.tab t) refl h (index_tab t l)
  where
    go : (b : Bool) → eqb a.tab t ≡ b → cond b 0 (suc (index_of t l)) < length (a ∷ l) → (index_of t l < length l → (get_or l (index_of t l) blank_attributes).tab ≡ t) → (get_or (a ∷ l) (cond b 0 (suc (index_of t l))) blank_attributes).tab ≡ t
    go true e h next = eqb-true _ _ e
    go false e h next = next (omega arith)

-- a TAB that stands in the list is found there or before
index_first : (t : ℕ) (l : List Attributes) (i : ℕ) → i < length l → (get_or l i blank_attributes).tab ≡ t → index_of t l ≤ i
unfolding index_of
index_first t [] i h e = let f : ⊥ = omega arith in absurd f
index_first t (a ∷ l) zero h e = rw (eq-eqb _ _ e) (omega arith)
index_first t (a ∷ l) (suc i) h e = go (eqb a.tab t) (index_first t l i (omega arith) e)
  where
    go : (b : Bool) → index_of t l ≤ i → cond b 0 (suc (index_of t l)) ≤ suc i
    go true h = omega arith
    go false h = omega arith

-- the record that is found has the TAB
pub found_tab : (l : List Attributes) (t i : ℕ) → find l t ≡ given i → (get_or l i blank_attributes).tab ≡ t
found_tab l t i e = rw (found_index l t i e) at (index_tab t l (rw (found_index l t i e) (found_below l t i e)))

-- a TAB is found, or no record has it (10)
pub found_or_missing : (l : List Attributes) (t : ℕ) → ((i : ℕ) × (find l t ≡ given i)) ⊎ (find l t ≡ refused no_record)
unfolding find
found_or_missing l t = go (ltb (index_of t l) (length l))
  where
    go : (b : Bool) → ((i : ℕ) × (cond b (given (index_of t l)) (refused no_record) ≡ given i)) ⊎ (cond b (given (index_of t l)) (refused no_record) ≡ refused no_record)
    go true = inl (index_of t l, refl)
    go false = inr refl

-- where no TAB stands twice, each record is found by its TAB
pub found_own : (s : Records) → Rules s → (i : ℕ) → i < length (used s) → find (attributes_of s) (record_at s i).attributes.tab ≡ given i
found_own s rules i h =
    let t = (record_at s i).attributes.tab in
    let here : (get_or (attributes_of s) i blank_attributes).tab ≡ t = ap (λ (a : Attributes). a.tab) (attributes_at s i h) in
    let k = index_of t (attributes_of s) in
    let soon : k ≤ i = index_first t (attributes_of s) i (omega (arith, attributes_length s)) here in
    let used_k : k < length (used s) = omega arith in
    let tab_k : (record_at s k).attributes.tab ≡ t = ap (λ (a : Attributes). a.tab) (sym (attributes_at s k used_k)) ∙ index_tab t (attributes_of s) (omega (arith, attributes_length s)) in
    found_at (attributes_of s) t i (rules.apart k i used_k h tab_k) (omega (arith, attributes_length s))

-- a TAB that is found goes on to the tests of its record
module _ (s : Records) (t i : ℕ) (e : find (attributes_of s) t ≡ given i) where
  pub found_used : i < length (used s)
  found_used = omega (arith, attributes_length s, found_below (attributes_of s) t i e)

  pub readable_at : find_readable (attributes_of s) t ≡ cond (record_at s i).attributes.readable (given i) (refused not_open)
  unfolding find_readable when_given
  readable_at = rw (e, attributes_at s i found_used)

  pub granted_at : (cause : Cause) (d : List ℕ) → grant (attributes_of s) cause t d ≡ grant_at (record_at s i).attributes cause d i
  unfolding grant when_given
  granted_at cause d = rw (e, attributes_at s i found_used)

-- one that is not found ends there
module _ (l : List Attributes) (t : ℕ) (n : ℕ) (e : find l t ≡ refused n) where
  pub readable_none : find_readable l t ≡ refused n
  unfolding find_readable when_given
  readable_none = rw e

  pub granted_none : (cause : Cause) (d : List ℕ) → grant l cause t d ≡ refused n
  unfolding grant when_given
  granted_none cause d = rw e

-- the index that a search over the records in use comes to
tab_index : (t : ℕ) (l : List Record) → index_of t (map (λ r. r.attributes) l) ≡ position_or_len (λ (r : Record). eqb r.attributes.tab t) l
unfolding index_of
tab_index t = is_position_or_len (λ l. index_of t (map (λ (r : Record). r.attributes) l)) (λ r. eqb r.attributes.tab t) refl (λ x xs. search rules)

pub found_position : (s : Records) (t : ℕ) (o : Option ℕ) (r : Result ℕ Refusal) → o ≡ position (λ (r : Record). eqb r.attributes.tab t) (used s) → r ≡ ok_or o NoRecord → answer_of_found r ≡ find (attributes_of s) t
unfolding find attributes_of
found_position s t o r first value = rw (value, first, tab_index t (used s), attributes_length s) (go (ltb (position_or_len (λ (r : Record). eqb r.attributes.tab t) (used s)) (length (used s))) _)
  where
    go : (b : Bool) (i : ℕ) → answer_of_found (ok_or (cond b (Some i) None) NoRecord) ≡ cond b (given i) (refused no_record)
    go true i = refl
    go false i = refl
