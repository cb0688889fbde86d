-- The tests of the rules and of soundness hold exactly if `Rules` and `Sound` do.
use Prim.Native.Nat.{ℕ, ◌≤◌, ◌<◌}
use mathlib.Core.Bool.{true, ◌&&◌, and-eq-true_iff}
use mathlib.Core.Logic.{◌↔◌}
use mathlib.Core.Path.{◌≡◌, sym, ap, ◌∙◌}
use native.Mathlib.Omega.{arith}
use lib.Dec.{leb, eqb}
use lib.ListN.{length, get_or}
use lib.Seq.{length-take-le}
use borrow.Author.Tests.{leb-true, le-leb, eqb-true}
use Rattle.numbers.specs.Table.{none}
use Rattle.numbers.specs.Answer.{number_of}
use Rattle.records.specs.declared.Attributes.{Attributes}
use Rattle.records.specs.declared.Record.{Record}
use Rattle.records.specs.declared.Records.{Records}
use Rattle.records.specs.Sizes.{most_records, most_octets, most_characters}
use Rattle.records.specs.Judging.{over_long, acceptable, contents, contents_answer}
use Rattle.records.specs.Finding.{used, attributes_of, blank_attributes, record_at}
use Rattle.records.specs.Setup.{character_limit, keeps_limits, all_keep_limits, tabs_apart, keeps_rules, contents_number, sound, Rules, Sound, empty}
use Rattle.records.proofs.InUse.{attributes_length, used_at, attributes_at}
use Rattle.records.proofs.Limits.{within_limit, not_over_long, passed}
use Rattle.records.proofs.Tests.{limits_every, contents_every, apart_every}

module _ (s : Records) where
  inside : {i : ℕ} → i < length (used s) → i < length (attributes_of s)
  inside h = omega (arith, attributes_length s)

  outside : {i : ℕ} → i < length (attributes_of s) → i < length (used s)
  outside h = omega (arith, attributes_length s)

  limits_at : all_keep_limits (attributes_of s) ≡ true → (i : ℕ) → i < length (used s) → ((record_at s i).attributes.limit.0 ≤ most_octets) × (character_limit (record_at s i).attributes.kind ≤ most_characters)
  limits_at h i k =
      let kept : keeps_limits (record_at s i).attributes ≡ true = ap keeps_limits (sym (attributes_at s i k)) ∙ (limits_every (attributes_of s)).0 h i (inside k) in
      let tests = (and-eq-true_iff (leb (record_at s i).attributes.limit.0 most_octets) (leb (character_limit (record_at s i).attributes.kind) most_characters)).0 kept in
      (leb-true _ _ tests.0, leb-true _ _ tests.1)

  tab_at : (i : ℕ) → i < length (used s) → (get_or (attributes_of s) i blank_attributes).tab ≡ (record_at s i).attributes.tab
  tab_at i h = ap (λ (a : Attributes). a.tab) (attributes_at s i h)

  rules_of : keeps_rules s ≡ true → Rules s
  unfolding keeps_rules
  rules_of h =
      let outer = (and-eq-true_iff (leb s.count most_records && tabs_apart (attributes_of s)) (all_keep_limits (attributes_of s))).0 h in
      let inner = (and-eq-true_iff (leb s.count most_records) (tabs_apart (attributes_of s))).0 outer.0 in
      record {
        few = leb-true _ _ inner.0;
        apart = λ i j p q e. (apart_every (attributes_of s)).0 inner.1 i j (inside p) (inside q) (tab_at i p ∙ e ∙ sym (tab_at j q));
        octet_limits = λ i k. (limits_at outer.1 i k).0;
        character_limits = λ i k. (limits_at outer.1 i k).1;
      }

  rules_test : Rules s → keeps_rules s ≡ true
  unfolding keeps_rules
  rules_test h =
      rw (
        le-leb _ _ h.few,
        (apart_every (attributes_of s)).1 (λ i j p q e. h.apart i j (outside p) (outside q) (sym (tab_at i (outside p)) ∙ e ∙ tab_at j (outside q))),
      )
      ((limits_every (attributes_of s)).1
      (λ i k. rw (attributes_at s i (outside k), le-leb _ _ (h.octet_limits i (outside k)), le-leb _ _ (h.character_limits i (outside k)))))

  pub rules_means : (keeps_rules s ≡ true) ↔ Rules s
  rules_means = (rules_of, rules_test)

module _ (r : Record) where
  contents_of : number_of (contents_answer r) ≡ none → (r.length.0 ≤ r.attributes.limit.0) × (number_of (acceptable r.attributes (contents r)) ≡ none)
  unfolding contents_answer
  contents_of h =
      let tests = passed (over_long r.attributes.limit r.length) (acceptable r.attributes (contents r)) h in
      (within_limit r.attributes.limit r.length tests.0, tests.1)

  contents_test : r.attributes.limit.0 ≤ most_octets → r.length.0 ≤ r.attributes.limit.0 → number_of (acceptable r.attributes (contents r)) ≡ none → number_of (contents_answer r) ≡ none
  unfolding contents_answer
  contents_test in_range h k = rw (not_over_long r.attributes.limit r.length (omega arith) h) k

module _ (s : Records) where
  sound_of : sound s ≡ true → Sound s
  unfolding sound
  sound_of h =
      let tests = (and-eq-true_iff (keeps_rules s) (eqb (contents_number (used s)) none)).0 h in
      let each : (i : ℕ) (k : i < length (used s)) → number_of (contents_answer (record_at s i)) ≡ none = λ i k. ap (λ (r : Record). number_of (contents_answer r)) (sym (used_at s i k)) ∙ (contents_every (used s)).0 (eqb-true _ _ tests.1) i k in
      record { rules = (rules_means s).0 tests.0; lengths = λ i k. (contents_of (record_at s i) (each i k)).0; accepted = λ i k. (contents_of (record_at s i) (each i k)).1 }

  sound_test : Sound s → sound s ≡ true
  unfolding sound
  sound_test h =
      rw (
        (rules_means s).1 h.rules,
        (contents_every (used s)).1 (λ i k. rw (used_at s i k) (contents_test (record_at s i) (h.rules.octet_limits i k) (h.lengths i k) (h.accepted i k))),
      )

  pub sound_means : (sound s ≡ true) ↔ Sound s
  sound_means = (sound_of, sound_test)

-- a record in use holds as many octets as its length says, and no more than its storage
module _ (s : Records) (h : Sound s) (i : ℕ) (k : i < length (used s)) where
  pub sound_fits : (record_at s i).length.0 ≤ most_octets
  sound_fits = omega (arith, h.lengths i k, h.rules.octet_limits i k)

  pub sound-length : length (record_at s i).storage ≡ most_octets → length (contents (record_at s i)) ≡ (record_at s i).length.0
  sound-length e = length-take-le (record_at s i).length.0 (record_at s i).storage (omega (arith, sound_fits))

pub empty-sound : Sound empty
empty-sound =
    record {
      rules = record { few = omega arith; apart = λ i j p q e. nothing p; octet_limits = λ i k. nothing k; character_limits = λ i k. nothing k };
      lengths = λ i k. nothing k;
      accepted = λ i k. nothing k;
    }
  where
    nothing : {X : Type 0} {i : ℕ} → i < 0 → X
    nothing h = let f : ⊥ = omega arith in absurd f
