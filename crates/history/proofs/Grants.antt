-- `grant` finds a record exactly for the writes that the mission grants, and refuses every other with its number, in the order of 01.
use Prim.Native.Nat.{ℕ, ◌<◌, ◌≤◌}
use mathlib.Core.Bool.{Bool, true, false, cond}
use mathlib.Core.List.{List}
use mathlib.Core.Logic.{◌↔◌, ◌⊎◌, inl, inr}
use mathlib.Core.Path.{◌≡◌, refl, sym, ap, ◌∙◌}
use native.Mathlib.Omega.{arith}
use lib.Dec.{ltb}
use lib.ListN.{length}
use borrow.Author.Tests.{lt-ltb, le-ltb, ltb-false}
use Rattle.numbers.specs.Table.{none, too_long, ill_formed, too_many_characters, no_record, not_open}
use Rattle.numbers.specs.Answer.{Answer, given, refused, number_of, when_given}
use Rattle.numbers.specs.Counts.{in_characters}
use Rattle.numbers.specs.declared.Characters.{Characters}
use Rattle.label.specs.Utf8.{well_formed}
use Rattle.label.specs.Character.{characters}
use Rattle.label.specs.Fitting.{measured}
use Rattle.label.proofs.Laws.{measured-well_formed, measured-ill_formed}
use Rattle.records.specs.declared.Kind.TheVariants.{Raw, Label}
use Rattle.records.specs.declared.Kind.{Kind}
use Rattle.records.specs.declared.Attributes.{Attributes}
use Rattle.records.specs.declared.Records.{Records}
use Rattle.records.specs.Sizes.{most_octets}
use Rattle.records.specs.Judging.{length_of, over_long, text_answer, kind_answer, acceptable}
use Rattle.records.specs.Finding.{used, attributes_of, record_at, find}
use Rattle.records.specs.Writing.{opens, grant_at, grant}
use Rattle.records.specs.Setup.{Rules}
use Rattle.records.proofs.Grants as grants
use Rattle.records.proofs.InUse.{used_count, attributes_at}
use Rattle.records.proofs.Limits.{not_over_long, over_limit, passed, accepted_limit}
use Rattle.records.proofs.Places.{found_own, found_used, found_tab, found_or_missing, granted_at, granted_none}
use Rattle.history.specs.Book.{Cause, metered, programmed, transferred, by_broadcast, cause_of}
use Rattle.history.specs.Claim.{Arrays}
use Rattle.history.specs.Granted.{OpenTo, TextWithin, Acceptable, Named, Granted}

module _ (a : Attributes) where
  open_of : (cause : Cause) → opens (cause_of cause) a ≡ true → OpenTo cause a
  open_of metered h = tt
  open_of (programmed adp) h = h
  open_of (transferred adp) h = h
  open_of (by_broadcast adp) h = h

  open_test : (cause : Cause) → OpenTo cause a → opens (cause_of cause) a ≡ true
  open_test metered h = refl
  open_test (programmed adp) h = h
  open_test (transferred adp) h = h
  open_test (by_broadcast adp) h = h

  closed_test : (cause : Cause) → (OpenTo cause a → ⊥) → opens (cause_of cause) a ≡ false
  closed_test cause h = go (opens (cause_of cause) a) refl
    where
      go : (b : Bool) → opens (cause_of cause) a ≡ b → opens (cause_of cause) a ≡ false
      go true e = absurd (h (open_of cause e))
      go false e = e

-- what a label's data comes to, by its text and its characters
module _ (limit : Characters) (d : List ℕ) where
  text_within : well_formed d ≡ true → length (characters d) ≤ limit.0 → text_answer limit (measured d) ≡ given (in_characters (length (characters d)))
  text_within w h = rw (measured-well_formed d w, le-ltb limit.0 (length (characters d)) h)

  text_many : well_formed d ≡ true → limit.0 < length (characters d) → text_answer limit (measured d) ≡ refused too_many_characters
  text_many w h = rw (measured-well_formed d w, lt-ltb limit.0 (length (characters d)) h)

  text-ill_formed : well_formed d ≡ false → text_answer limit (measured d) ≡ refused ill_formed
  text-ill_formed w = rw (measured-ill_formed d w)

kind_of : (k : Kind) (d : List ℕ) → number_of (kind_answer k d) ≡ none → TextWithin k d
kind_of Raw d h = tt
kind_of (Label limit) d h = go (well_formed d) refl (ltb limit.0 (length (characters d))) refl
  where
    go : (b : Bool) → well_formed d ≡ b → (q : Bool) → ltb limit.0 (length (characters d)) ≡ q → TextWithin (Label limit) d
    go true w false e = (w, ltb-false _ _ e)
    go true w true e = let z : number_of (cond true (refused too_many_characters) (given (in_characters (length (characters d))))) ≡ none = rw (measured-well_formed d w, e) at h in absurd (omega arith)
    go false w q e = let z : ill_formed ≡ none = rw (text-ill_formed limit d w) at h in absurd (omega arith)

kind_test : (k : Kind) (d : List ℕ) → TextWithin k d → number_of (kind_answer k d) ≡ none
kind_test Raw d h = refl
kind_test (Label limit) d h = rw (text_within limit d h.0 h.1)

-- a record within setup's rules: its limit is in range
module _ (a : Attributes) (in_range : a.limit.0 ≤ most_octets) (d : List ℕ) where
  acceptable_of : number_of (acceptable a d) ≡ none → Acceptable a d
  unfolding acceptable
  acceptable_of h =
      record { within = accepted_limit a d h; text = kind_of a.kind d (passed (over_long a.limit (length_of d)) (kind_answer a.kind d) h).1 }

  within_kind : length d ≤ a.limit.0 → acceptable a d ≡ kind_answer a.kind d
  unfolding acceptable
  within_kind h = rw (not_over_long a.limit (length_of d) (omega arith) h)

  acceptable_test : Acceptable a d → number_of (acceptable a d) ≡ none
  acceptable_test h = ap (λ (x : Answer Characters). number_of x) (within_kind h.within) ∙ kind_test a.kind d h.text

  pub acceptable_means : (number_of (acceptable a d) ≡ none) ↔ Acceptable a d
  acceptable_means = (acceptable_of, acceptable_test)

module _ (first : Records) (arrays : Arrays first) (rules : Rules first) where
  used_here : {i : ℕ} → i < first.count → i < length (used first)
  used_here h = omega (arith, used_count first arrays.each rules)

  named_of : (t i : ℕ) → find (attributes_of first) t ≡ given i → Named first t i
  named_of t i e =
      let h = found_used first t i e in
      record {
        in_use = omega (arith, used_count first arrays.each rules);
        tab = ap (λ (a : Attributes). a.tab) (sym (attributes_at first i h)) ∙ found_tab (attributes_of first) t i e;
      }

  named_found : (t i : ℕ) → Named first t i → find (attributes_of first) t ≡ given i
  named_found t i n = rw n.tab at (found_own first rules i (used_here n.in_use))

  module _ (cause : Cause) (t : ℕ) (d : List ℕ) (place : ℕ) where
    granted_of : grant (attributes_of first) (cause_of cause) t d ≡ given place → Granted first cause t d place
    granted_of e =
        let g = (grants.granted_means (attributes_of first) (cause_of cause) t d place).0 e in
        let h = found_used first t place g.exists in
        let here = attributes_at first place h in
        record {
          named = named_of t place g.exists;
          opened = open_of (record_at first place).attributes cause (rw here at g.opened);
          acceptable = acceptable_of (record_at first place).attributes (rules.octet_limits place h) d (rw here at g.accepted);
        }

    granted_test : Granted first cause t d place → grant (attributes_of first) (cause_of cause) t d ≡ given place
    granted_test g =
        let h = used_here g.named.in_use in
        let here = attributes_at first place h in
        (grants.granted_means (attributes_of first) (cause_of cause) t d place).1
        (record {
          exists = named_found t place g.named;
          opened = rw here (open_test (record_at first place).attributes cause g.opened);
          accepted = rw here (acceptable_test (record_at first place).attributes (rules.octet_limits place h) d g.acceptable);
        })

    -- `grant` finds the record that the mission grants the write for, and no other
    pub granted_means : (grant (attributes_of first) (cause_of cause) t d ≡ given place) ↔ Granted first cause t d place
    granted_means = (granted_of, granted_test)

  -- 01, The card: "A write over the bus tests first that the record exists (10) and is open to that command (11)"; then 7, 8, 9
  module _ (cause : Cause) (t : ℕ) (d : List ℕ) where
    pub missing_refused : ((place : ℕ) → Named first t place → ⊥) → grant (attributes_of first) (cause_of cause) t d ≡ refused no_record
    missing_refused h = go (found_or_missing (attributes_of first) t)
      where
        go : ((i : ℕ) × (find (attributes_of first) t ≡ given i)) ⊎ (find (attributes_of first) t ≡ refused no_record) → grant (attributes_of first) (cause_of cause) t d ≡ refused no_record
        go (inl f) = absurd (h f.0 (named_of t f.0 f.1))
        go (inr e) = granted_none (attributes_of first) t no_record e (cause_of cause) d

    module _ (place : ℕ) (n : Named first t place) where
      abbrev own : Attributes
      own = (record_at first place).attributes

      reached : grant (attributes_of first) (cause_of cause) t d ≡ grant_at own (cause_of cause) d place
      reached = granted_at first t place (named_found t place n) (cause_of cause) d

      pub closed_refused : (OpenTo cause own → ⊥) → grant (attributes_of first) (cause_of cause) t d ≡ refused not_open
      unfolding grant_at
      closed_refused h = reached ∙ rw (closed_test own cause h)

      module _ (o : OpenTo cause own) where
        judged : (x : ℕ) → acceptable own d ≡ refused x → grant (attributes_of first) (cause_of cause) t d ≡ refused x
        unfolding grant_at when_given
        judged x e = reached ∙ rw (open_test own cause o, e)

        pub long_refused : own.limit.0 < length d → grant (attributes_of first) (cause_of cause) t d ≡ refused too_long
        unfolding acceptable
        long_refused h = judged too_long (rw (over_limit own.limit (length_of d) h))

        module _ (within : length d ≤ own.limit.0) (limit : Characters) (label : own.kind ≡ Label limit) where
          text : acceptable own d ≡ text_answer limit (measured d)
          text = within_kind own (rules.octet_limits place (used_here n.in_use)) d within ∙ rw label

          pub ill_formed-refused : well_formed d ≡ false → grant (attributes_of first) (cause_of cause) t d ≡ refused ill_formed
          ill_formed-refused w = judged ill_formed (text ∙ text-ill_formed limit d w)

          pub many_refused : well_formed d ≡ true → limit.0 < length (characters d) → grant (attributes_of first) (cause_of cause) t d ≡ refused too_many_characters
          many_refused w h = judged too_many_characters (text ∙ text_many limit d w h)
