-- Laws of writes: what a granted write changes, and what no write changes.
use Prim.Native.Nat.{ℕ, zero, suc, ◌≤◌, ◌<◌}
use mathlib.Core.Bool.{Bool, true, false}
use mathlib.Core.List.{List, [], ◌∷◌, map}
use mathlib.Core.Path.{◌≡◌, refl, sym, ap, ◌∙◌}
use native.Mathlib.Omega.{arith}
use lib.Dec.{eqb}
use lib.ListN.{length, take, drop, get_or, set, length-take}
use lib.Seq.{get_or-set_same, get_or-set_other}
use borrow.Author.Tests.{eqb-true, eqb-false}
use Rattle.octets.proofs.Splice.{take-fronted, drop-fronted}
use Rattle.numbers.specs.Table.{none, too_long, not_open}
use Rattle.numbers.specs.Answer.{Answer, given, refused, refused_at, number_of}
use Rattle.records.specs.declared.Attributes.{Attributes}
use Rattle.records.specs.declared.Record.{Record}
use Rattle.records.specs.declared.Records.{Records}
use Rattle.records.specs.declared.Cause.{Cause}
use Rattle.records.specs.Sizes.{most_octets, most_characters}
use Rattle.records.specs.Judging.{length_of, acceptable, contents}
use Rattle.records.specs.Finding.{used, attributes_of, blank, record_at}
use Rattle.records.specs.Writing.{grant, hold, store, store_when, write}
use Rattle.records.specs.Setup.{character_limit, Rules, Sound}
use Rattle.records.proofs.Grants.{Grant, granted_means}
use Rattle.records.proofs.InUse.{attributes_length, attributes_at}
use Rattle.records.proofs.Limits.{accepted_limit}
use Rattle.records.proofs.Places.{found_used, found_tab}
use Rattle.records.proofs.Refusals.{Bounded, number_bounded, grant_bounded}

-- what a record holds after it was given data
pub holding_contents : (d : List ℕ) (r : Record) → contents (hold r d) ≡ d
holding_contents d r = take-fronted d r.storage

attributes_stay : (n : ℕ) (l : List Record) (i : ℕ) (d : List ℕ) → map (λ r. r.attributes) (take n (set l i (hold (get_or l i blank) d))) ≡ map (λ r. r.attributes) (take n l)
attributes_stay zero l i d = refl
attributes_stay (suc n) [] i d = refl
attributes_stay (suc n) (r ∷ l) zero d = refl
attributes_stay (suc n) (r ∷ l) (suc i) d = ap (λ (m : List Attributes). r.attributes ∷ m) (attributes_stay n l i d)

module _ (s : Records) (i : ℕ) (d : List ℕ) where
  stored_attributes : attributes_of (store s i d) ≡ attributes_of s
  unfolding attributes_of
  stored_attributes = attributes_stay s.count s.each i d

  stored_used : length (used (store s i d)) ≡ length (used s)
  stored_used = sym (attributes_length (store s i d)) ∙ ap length stored_attributes ∙ attributes_length s

  stored_here : i < length (used s) → record_at (store s i d) i ≡ hold (record_at s i) d
  stored_here h = get_or-set_same s.each i _ blank (omega (arith, length-take s.count s.each))

  stored_other : (j : ℕ) → (j ≡ i → ⊥) → record_at (store s i d) j ≡ record_at s j
  stored_other j h = get_or-set_other s.each i j _ blank h

-- the record that a grant names has the TAB that was asked for
module _ (s : Records) (cause : Cause) (t : ℕ) (d : List ℕ) (i : ℕ) (g : Grant (attributes_of s) cause t d i) where
  grant-used : i < length (used s)
  grant-used = found_used s t i g.exists

  grant_tab : (record_at s i).attributes.tab ≡ t
  grant_tab = ap (λ (a : Attributes). a.tab) (sym (attributes_at s i grant-used)) ∙ found_tab (attributes_of s) t i g.exists

  grant_accepted : number_of (acceptable (record_at s i).attributes d) ≡ none
  grant_accepted = ap (λ (a : Attributes). number_of (acceptable a d)) (sym (attributes_at s i grant-used)) ∙ g.accepted

  -- a record after the write: the one with the data, or one as it was
  after : (P : Record → Type 0) (j : ℕ) → (j ≡ i → P (hold (record_at s i) d)) → P (record_at s j) → P (record_at (store s i d) j)
  after P j here there = pick (eqb j i) refl
    where
      pick : (b : Bool) → eqb j i ≡ b → P (record_at (store s i d) j)
      pick true e = rw (eqb-true j i e, stored_here s i d grant-used) (here (eqb-true j i e))
      pick false e = rw (stored_other s i d j (eqb-false j i e)) there

  stored_tab : (j : ℕ) → (record_at (store s i d) j).attributes.tab ≡ (record_at s j).attributes.tab
  stored_tab j = after (λ r. r.attributes.tab ≡ (record_at s j).attributes.tab) j (λ e. ap (λ (k : ℕ). (record_at s k).attributes.tab) (sym e)) refl

  before : {j : ℕ} → j < length (used (store s i d)) → j < length (used s)
  before h = omega (arith, stored_used s i d)

  stored_rules : Rules s → Rules (store s i d)
  stored_rules h =
      record {
        few = h.few;
        apart = λ j k p q e. h.apart j k (before p) (before q) (sym (stored_tab j) ∙ e ∙ stored_tab k);
        octet_limits = λ j p. after (λ r. r.attributes.limit.0 ≤ most_octets) j (λ e. h.octet_limits i grant-used) (h.octet_limits j (before p));
        character_limits = λ j p. after (λ r. character_limit r.attributes.kind ≤ most_characters) j (λ e. h.character_limits i grant-used) (h.character_limits j (before p));
      }

  stored_sound : Sound s → Sound (store s i d)
  stored_sound h =
      record {
        rules = stored_rules h.rules;
        lengths = λ j p. after (λ r. r.length.0 ≤ r.attributes.limit.0) j (λ e. accepted_limit (record_at s i).attributes d grant_accepted) (h.lengths j (before p));
        accepted =
            λ j p. after (λ r. number_of (acceptable r.attributes (contents r)) ≡ none) j (λ e. rw (holding_contents d (record_at s i)) grant_accepted) (h.accepted j (before p));
      }

-- a write is one that was granted, or is refused and leaves the records
module _ (s : Records) (cause : Cause) (t : ℕ) (d : List ℕ) where
  pub write_cases : (P : Records → ℕ → Type 0) → ((i : ℕ) → Grant (attributes_of s) cause t d i → P (store s i d) none) → ((n : ℕ) → too_long ≤ n → P s n)
      → P (write s cause t d).records (write s cause t d).number
  unfolding store_when
  write_cases P granted refusal = go (grant (attributes_of s) cause t d) refl (grant_bounded (attributes_of s) cause t d)
    where
      go : (g : Answer ℕ) → grant (attributes_of s) cause t d ≡ g → Bounded g → P (store_when s d g) (number_of g)
      go (given i) e h = granted i ((granted_means (attributes_of s) cause t d i).0 e)
      go (refused n) e h = refusal n h.0
      go (refused_at n offset) e h = absurd h

  -- no write alters the count or an attribute
  pub write_count : (write s cause t d).records.count ≡ s.count
  write_count = write_cases (λ next n. next.count ≡ s.count) (λ i g. refl) (λ n h. refl)

  pub write_attributes : attributes_of (write s cause t d).records ≡ attributes_of s
  write_attributes = write_cases (λ next n. attributes_of next ≡ attributes_of s) (λ i g. stored_attributes s i d) (λ n h. refl)

  pub write_number : (write s cause t d).number ≤ not_open
  write_number = number_bounded (grant (attributes_of s) cause t d) (grant_bounded (attributes_of s) cause t d)

  -- a refused write changes nothing
  pub write-refused : ((write s cause t d).number ≡ none → ⊥) → (write s cause t d).records ≡ s
  write-refused = write_cases (λ next n. (n ≡ none → ⊥) → next ≡ s) (λ i g e. absurd (e refl)) (λ n h e. refl)

  -- a granted write makes the record with the TAB hold the data
  pub write_holds : Rules s → (j : ℕ) → j < length (used s) → (record_at s j).attributes.tab ≡ t → (write s cause t d).number ≡ none → record_at (write s cause t d).records j ≡ hold (record_at s j) d
  write_holds rules j h tab =
      write_cases (λ next n. n ≡ none → record_at next j ≡ hold (record_at s j) d)
      (λ i g e.
      let same : j ≡ i = rules.apart j i h (grant-used s cause t d i g) (tab ∙ sym (grant_tab s cause t d i g)) in
      rw (same, stored_here s i d (grant-used s cause t d i g)))
      (λ n h e. let z : ⊥ = omega arith in absurd z)

  pub write-contents : Rules s → (j : ℕ) → j < length (used s) → (record_at s j).attributes.tab ≡ t → (write s cause t d).number ≡ none
      → (contents (record_at (write s cause t d).records j) ≡ d) × ((record_at (write s cause t d).records j).length ≡ length_of d)
  write-contents rules j h tab granted = rw (write_holds rules j h tab granted) (holding_contents d (record_at s j), refl)

  -- a write leaves every record with another TAB, and every record that is not in use
  pub write_others : (j : ℕ) → (j < length (used s) → (record_at s j).attributes.tab ≡ t → ⊥) → record_at (write s cause t d).records j ≡ record_at s j
  write_others j other =
      write_cases (λ next n. record_at next j ≡ record_at s j)
      (λ i g.
      stored_other s i d j
      (λ same. other (rw same (grant-used s cause t d i g)) (ap (λ (k : ℕ). (record_at s k).attributes.tab) same ∙ grant_tab s cause t d i g)))
      (λ n h. refl)

  -- no write alters an octet of storage past its data
  pub write_rest : (j : ℕ) → drop (length d) (record_at (write s cause t d).records j).storage ≡ drop (length d) (record_at s j).storage
  write_rest j =
      write_cases (λ next n. drop (length d) (record_at next j).storage ≡ drop (length d) (record_at s j).storage)
      (λ i g.
      after s cause t d i g (λ r. drop (length d) r.storage ≡ drop (length d) (record_at s j).storage) j
      (λ same. drop-fronted d (record_at s i).storage ∙ ap (λ (k : ℕ). drop (length d) (record_at s k).storage) (sym same))
      refl)
      (λ n h. refl)

  -- sound records stay sound
  pub write_sound : Sound s → Sound (write s cause t d).records
  write_sound h = write_cases (λ next n. Sound next) (λ i g. stored_sound s cause t d i g h) (λ n p. h)
