-- The laws of labels that callers cite: they speak of `well_formed`, `characters`, `measured`, `fit_of` and `kept_part`, whatever a character is.
use mathlib.Core.Path.{◌≡◌, refl, sym, ap, ◌∙◌}
use mathlib.Core.Bool.{Bool, true, false}
use mathlib.Core.List.{List, [], flatten}
use Prim.Native.Nat.{ℕ, ◌≤◌}
use native.Mathlib.Omega.{arith}
use lib.ListN.{length, take}
use lib.Seq.{length-take-le}
use Rattle.numbers.specs.declared.Octets.{Octets}
use Rattle.numbers.specs.declared.Characters.{Characters}
use Rattle.std.specs.Prelude.{Result, Ok, Err}
use Rattle.label.specs.declared.IllFormed.{IllFormed}
use Rattle.label.specs.declared.Counts.{Counts}
use Rattle.label.specs.Utf8.{well_formed_octets, well_formed}
use Rattle.label.specs.Character.{characters}
use Rattle.numbers.specs.Table.{ill_formed}
use Rattle.numbers.specs.Counts.{in_octets, in_characters}
use Rattle.numbers.specs.Answer.{given, refused_at}
use Rattle.label.specs.Fitting.{counts_of, answer_of_fitting, measured, kept_characters, fit_of, kept_part, front_of, Longest}
use Rattle.label.proofs.Run.{octets_fit, octets_again, octets_front, well_formed_octets_lem, octets_well_formed}
use Rattle.label.proofs.Whole.{characters_again, characters_front, characters_whole}
use Rattle.label.proofs.Longest.{keep_front, keep_octets, keep_count, keep_longest, keep_whole}
use Rattle.label.proofs.Answers.{judged-well_formed, judged-ill_formed, judged-given, judged_refused}

-- ---- well-formed text

-- the front part up to the offset is well-formed, and no longer front part is
pub offset_well_formed : (text : List ℕ) → well_formed (take (well_formed_octets text) text) ≡ true
offset_well_formed text = octets_well_formed (take (well_formed_octets text) text) (octets_again text ∙ sym (length-take-le (well_formed_octets text) text (octets_fit text)))

pub offset_longest : (text : List ℕ) (n : ℕ) → n ≤ length text → well_formed (take n text) ≡ true → n ≤ well_formed_octets text
offset_longest text n h w = omega (arith, well_formed_octets_lem (take n text) w, length-take-le n text h, octets_front text n)

-- ---- measuring

pub measured-well_formed : (text : List ℕ) → well_formed text ≡ true → measured text ≡ given (in_characters (length (characters text)))
unfolding measured
measured-well_formed text w = judged-well_formed text (in_characters (length (characters text))) w

pub measured-ill_formed : (text : List ℕ) → well_formed text ≡ false → measured text ≡ refused_at ill_formed (in_octets (well_formed_octets text))
unfolding measured
measured-ill_formed text w = judged-ill_formed text (in_characters (length (characters text))) w

pub measured-given : (text : List ℕ) (count : Characters) → given count ≡ measured text → (well_formed text ≡ true) × (count.0 ≡ length (characters text))
unfolding measured
measured-given text count e = let told : (well_formed text ≡ true) × (count ≡ in_characters (length (characters text))) = judged-given text (in_characters (length (characters text))) count e in (told.0, ap (λ (c : Characters). c.0) told.1)

pub measured_refused : (text : List ℕ) (number : ℕ) (at : Octets) → refused_at number at ≡ measured text → (well_formed text ≡ false) × (number ≡ ill_formed) × (at.0 ≡ well_formed_octets text)
unfolding measured
measured_refused text number at e = judged_refused text (in_characters (length (characters text))) number at e

-- ---- fitting

module _ (label : List ℕ) (octets : Octets) (count : Characters) where
  -- the kept characters are the first ones of the label
  kept_first : kept_characters label octets count ≡ take (length (kept_characters label octets count)) (characters label)
  unfolding kept_characters
  kept_first = keep_front octets.0 count.0 (characters label)

  kept_again : characters (flatten (kept_characters label octets count)) ≡ kept_characters label octets count
  kept_again = ap (λ (run : List (List ℕ)). characters (flatten run)) kept_first ∙ (characters_again label (length (kept_characters label octets count)) ∙ sym kept_first)

  -- what is kept of a well-formed label
  kept_well_formed : well_formed label ≡ true → kept_part label octets count ≡ flatten (kept_characters label octets count)
  unfolding kept_part
  kept_well_formed w = rw w

  pub kept_ill_formed : well_formed label ≡ false → kept_part label octets count ≡ []
  unfolding kept_part
  kept_ill_formed w = rw w

  -- the kept part is a front part of the label
  pub kept_front : kept_part label octets count ≡ take (length (kept_part label octets count)) label
  kept_front = told (well_formed label) refl
    where
      told : (b : Bool) → well_formed label ≡ b → kept_part label octets count ≡ take (length (kept_part label octets count)) label
      told true w = rw (kept_well_formed w, kept_first) (characters_front label (length (kept_characters label octets count)))
      told false w = rw (kept_ill_formed w)

  -- the two counts are the kept part's own
  pub fit_given : (found : Octets × Characters) → given found ≡ fit_of label octets count
      → (well_formed label ≡ true) × (found.0.0 ≡ length (kept_part label octets count)) × (found.1.0 ≡ length (characters (kept_part label octets count)))
  unfolding fit_of
  fit_given found e =
      let told : (well_formed label ≡ true) × (found ≡ counts_of (kept_characters label octets count)) = judged-given label (counts_of (kept_characters label octets count)) found e in
      (told.0, rw (kept_well_formed told.0) (ap (λ (f : Octets × Characters). f.0.0) told.1), rw (kept_well_formed told.0, kept_again) (ap (λ (f : Octets × Characters). f.1.0) told.1))

  pub fit_refused : (number : ℕ) (at : Octets) → refused_at number at ≡ fit_of label octets count → (well_formed label ≡ false) × (number ≡ ill_formed) × (at.0 ≡ well_formed_octets label)
  unfolding fit_of
  fit_refused number at e = judged_refused label (counts_of (kept_characters label octets count)) number at e

  -- "Ill-formed text anywhere is 8, with the offset at which the longest well-formed front part ends" (01, Labels)
  pub fit_ill_formed : well_formed label ≡ false → fit_of label octets count ≡ refused_at ill_formed (in_octets (well_formed_octets label))
  unfolding fit_of
  fit_ill_formed w = judged-ill_formed label (counts_of (kept_characters label octets count)) w

  -- the kept part of a well-formed label is the longest run of whole characters within both limits
  pub kept_longest : well_formed label ≡ true → Longest label octets count (kept_part label octets count)
  unfolding kept_characters
  kept_longest w = rw (kept_well_formed w) (record {
    whole = record { count = length (kept_characters label octets count); made = ap flatten kept_first };
    within_octets = keep_octets octets.0 count.0 (characters label);
    within_characters = rw kept_again (keep_count octets.0 count.0 (characters label));
    longest = λ other part within few.
        let few_first : length (take part.count (characters label)) ≤ count.0 = rw (part.made, characters_again label part.count) at few in
        rw part.made (keep_longest octets.0 count.0 (characters label) part.count (rw part.made at within) few_first);
  })

  -- a well-formed label within both limits is kept whole
  pub kept_whole : well_formed label ≡ true → length label ≤ octets.0 → length (characters label) ≤ count.0 → kept_part label octets count ≡ label
  unfolding kept_characters
  kept_whole w h k =
      let whole : flatten (characters label) ≡ label = characters_whole label w in
      kept_well_formed w ∙ (ap flatten (keep_whole octets.0 count.0 (characters label) (rw whole h) k) ∙ whole)

  pub fit_whole : well_formed label ≡ true → length label ≤ octets.0 → length (characters label) ≤ count.0 → fit_of label octets count ≡ given (in_octets (length label), in_characters (length (characters label)))
  unfolding kept_characters fit_of
  fit_whole w h k =
      let whole : flatten (characters label) ≡ label = characters_whole label w in
      let kept : kept_characters label octets count ≡ characters label = keep_whole octets.0 count.0 (characters label) (rw whole h) k in
      judged-well_formed label (counts_of (kept_characters label octets count)) w ∙ rw (kept, whole)

-- the front part that a fitting keeps is the kept part
pub front_kept : (label : List ℕ) (octets : Octets) (count : Characters) (found : Result Counts IllFormed) → answer_of_fitting found ≡ fit_of label octets count → front_of label found ≡ kept_part label octets count
front_kept label octets count (Ok kept) e = rw (fit_given label octets count (kept.octets, kept.characters) e).1 (sym (kept_front label octets count))
front_kept label octets count (Err fault) e = sym (kept_ill_formed label octets count (fit_refused label octets count ill_formed fault.0 e).0)
