-- Whatever 01 accepted before 02, E1, when each sequence of a label was a character, is accepted now: characters only became fewer.
use Prim.Native.Nat.{ℕ, ◌≤◌, ◌<◌}
use mathlib.Core.Bool.{Bool, true, false, cond}
use mathlib.Core.List.{List}
use mathlib.Core.Path.{◌≡◌, refl}
use native.Mathlib.Omega.{arith}
use borrow.Author.Tests.{ltb-false, le-ltb}
use lib.Dec.{ltb}
use lib.ListN.{length}
use Rattle.numbers.specs.Table.{none, too_long, ill_formed, too_many_characters}
use Rattle.numbers.specs.Counts.{in_octets, in_characters}
use Rattle.numbers.specs.Answer.{Answer, given, refused, refused_at, number_of}
use Rattle.numbers.specs.declared.Characters.{Characters}
use Rattle.label.specs.Utf8.{sequences, well_formed_octets, well_formed}
use Rattle.label.specs.Character.{characters}
use Rattle.label.specs.Fitting.{judged, measured}
use Rattle.label.proofs.Boundary.{count_falls}
use Rattle.records.specs.declared.Kind.TheVariants.{Raw, Label}
use Rattle.records.specs.declared.Kind.{Kind}
use Rattle.records.specs.declared.Attributes.{Attributes}
use Rattle.records.specs.declared.Records.{Records}
use Rattle.records.specs.Judging.{length_of, over_long, text_answer, kind_answer, acceptable, contents}
use Rattle.records.specs.Finding.{used, record_at}
use Rattle.records.specs.Setup.{Rules, Sound}

-- a label's character count before 02, E1, or 8 with the offset
unfoldable pub measured_before : List ℕ → Answer Characters
measured_before text = judged text (in_characters (length (sequences text)))

abbrev pub kind_answer_before : Kind → List ℕ → Answer Characters
kind_answer_before Raw d = kind_answer Raw d
kind_answer_before (Label limit) d = text_answer limit (measured_before d)

-- what data came to before 02, E1: `acceptable` with that count
unfoldable pub acceptable_before : Attributes → List ℕ → Answer Characters
acceptable_before a d = cond (over_long a.limit (length_of d)) (refused too_long) (kind_answer_before a.kind d)

kind_still : (kind : Kind) (d : List ℕ) → number_of (kind_answer_before kind d) ≡ none → number_of (kind_answer kind d) ≡ none
unfolding measured_before measured judged
kind_still Raw d e = e
kind_still (Label limit) d e = by_text (well_formed d) e
  where
    by_count : (b : Bool) → ltb limit.0 (length (sequences d)) ≡ b → number_of (cond b (refused too_many_characters) (given (in_characters (length (sequences d))))) ≡ none
        → number_of (cond (ltb limit.0 (length (characters d))) (refused too_many_characters) (given (in_characters (length (characters d))))) ≡ none
    by_count true p e = absurd (omega (arith, e))
    by_count false p e = rw (le-ltb limit.0 (length (characters d)) (omega (arith, ltb-false limit.0 (length (sequences d)) p, count_falls d)))

    by_text : (w : Bool) → number_of (text_answer limit (cond w (given (in_characters (length (sequences d)))) (refused_at ill_formed (in_octets (well_formed_octets d))))) ≡ none
        → number_of (text_answer limit (cond w (given (in_characters (length (characters d)))) (refused_at ill_formed (in_octets (well_formed_octets d))))) ≡ none
    by_text true e = by_count (ltb limit.0 (length (sequences d))) refl e
    by_text false e = e

pub still_accepted : (a : Attributes) (d : List ℕ) → number_of (acceptable_before a d) ≡ none → number_of (acceptable a d) ≡ none
unfolding acceptable_before acceptable
still_accepted a d e = by_length (over_long a.limit (length_of d)) e
  where
    by_length : (b : Bool) → number_of (cond b (refused too_long) (kind_answer_before a.kind d)) ≡ none → number_of (cond b (refused too_long) (kind_answer a.kind d)) ≡ none
    by_length true e = e
    by_length false e = kind_still a.kind d e

-- records that broke no setup rule before 02, E1 break none now
pub still_sound : (s : Records) → Rules s → ((i : ℕ) → i < length (used s) → (record_at s i).length.0 ≤ (record_at s i).attributes.limit.0)
    → ((i : ℕ) → i < length (used s) → number_of (acceptable_before (record_at s i).attributes (contents (record_at s i))) ≡ none) → Sound s
still_sound s rules fit accepted = record { rules = rules; lengths = fit; accepted = λ i h. still_accepted (record_at s i).attributes (contents (record_at s i)) (accepted i h) }
