-- Finding, judging and granting refuse with a number of 7 to 11, and with no offset: what has no number is given.
use Prim.Native.Nat.{ℕ, zero, suc, ◌≤◌}
use mathlib.Core.Bool.{Bool, true, false, cond}
use mathlib.Core.List.{List, [], ◌∷◌}
use mathlib.Core.Logic.{◌⊎◌, inl, inr}
use mathlib.Core.Path.{◌≡◌, refl}
use native.Mathlib.Omega.{arith}
use lib.Dec.{ltb, eqb}
use borrow.Author.Tests.{ne_eqb}
use Rattle.std.proofs.Common.{Result, Ok, Err, is_ok}
use lib.ListN.{length, get_or}
use Rattle.numbers.specs.Table.{none, too_long, ill_formed, too_many_characters, no_record, not_open}
use Rattle.numbers.specs.Answer.{Answer, given, refused, refused_at, number_of, when_given}
use Rattle.numbers.specs.declared.Octets.{Octets}
use Rattle.numbers.specs.declared.Characters.{Characters}
use Rattle.label.specs.Utf8.{well_formed}
use Rattle.label.specs.Fitting.{measured, judged}
use Rattle.records.specs.declared.Kind.TheVariants.{Raw, Label}
use Rattle.records.specs.declared.Kind.{Kind}
use Rattle.records.specs.declared.Attributes.{Attributes}
use Rattle.records.specs.declared.Record.{Record}
use Rattle.records.specs.declared.Cause.{Cause}
use Rattle.records.specs.declared.Refusal.{Refusal}
use Rattle.records.specs.declared.Refusal.TheVariants.{TooLong, IllFormed, TooManyCharacters, NoRecord, NotOpen}
use Rattle.records.specs.Numbers.{refusal_number, answer_number}
use Rattle.records.specs.Judging.{length_of, over_long, text_answer, kind_answer, acceptable, contents, contents_answer}
use Rattle.records.specs.Finding.{blank_attributes, index_of, find, find_readable}
use Rattle.records.specs.Setup.{first_number, contents_number}
use Rattle.records.specs.Writing.{opens, grant, grant_at}

abbrev pub Bounded : {Values : Type 0} → Answer Values → Type 0
Bounded (given values) = Unit {0}
Bounded (refused n) = (too_long ≤ n) × (n ≤ not_open)
Bounded (refused_at n offset) = ⊥

-- the numbers of the refusals themselves
pub refusal_bounds : (refusal : Refusal) → (too_long ≤ refusal_number refusal) × (refusal_number refusal ≤ not_open)
refusal_bounds TooLong = (omega arith, omega arith)
refusal_bounds IllFormed = (omega arith, omega arith)
refusal_bounds TooManyCharacters = (omega arith, omega arith)
refusal_bounds NoRecord = (omega arith, omega arith)
refusal_bounds NotOpen = (omega arith, omega arith)

-- what is accepted has no number
pub accepted_number : (answer : Result (Unit {0}) Refusal) → is_ok answer ≡ eqb (answer_number answer) none
accepted_number (Ok done) = refl
accepted_number (Err refusal) = let some : refusal_number refusal ≡ none → ⊥ = λ e. omega (arith, (refusal_bounds refusal).0) in rw (ne_eqb (refusal_number refusal) none some)

module _ {Values : Type 0} where
  cond_bounded : (b : Bool) (x y : Answer Values) → Bounded x → Bounded y → Bounded (cond b x y)
  cond_bounded true x y h k = h
  cond_bounded false x y h k = k

  when_bounded : {Next : Type 0} (x : Answer Values) (next : Values → Answer Next) → Bounded x → ((v : Values) → Bounded (next v)) → Bounded (when_given x next)
  unfolding when_given
  when_bounded (given v) next h k = k v
  when_bounded (refused n) next h k = h
  when_bounded (refused_at n offset) next h k = h

  pub none-given : (x : Answer Values) → Bounded x → number_of x ≡ none → (v : Values) × (x ≡ given v)
  none-given (given v) h e = (v, refl)
  none-given (refused n) h e = let z : ⊥ = omega arith in absurd z
  none-given (refused_at n offset) h e = absurd h

  pub number_bounded : (x : Answer Values) → Bounded x → number_of x ≤ not_open
  number_bounded (given v) h = omega arith
  number_bounded (refused n) h = h.1
  number_bounded (refused_at n offset) h = absurd h

pub find_bounded : (l : List Attributes) (t : ℕ) → Bounded (find l t)
unfolding find
find_bounded l t = cond_bounded (ltb (index_of t l) (length l)) (given (index_of t l)) (refused no_record) tt (omega arith, omega arith)

pub readable_bounded : (l : List Attributes) (t : ℕ) → Bounded (find_readable l t)
unfolding find_readable
readable_bounded l t =
    when_bounded (find l t) _ (find_bounded l t) (λ i. cond_bounded (get_or l i blank_attributes).readable (given i) (refused not_open) tt (omega arith, omega arith))

text_bounded : (limit : Characters) (b : Bool) (characters : Characters) (offset : Octets) → Bounded (text_answer limit (cond b (given characters) (refused_at ill_formed offset)))
text_bounded limit true characters offset = cond_bounded (ltb limit.0 characters.0) (refused too_many_characters) (given characters) (omega arith, omega arith) tt
text_bounded limit false characters offset = (omega arith, omega arith)

kind_bounded : (k : Kind) (d : List ℕ) → Bounded (kind_answer k d)
unfolding measured judged
kind_bounded Raw d = tt
kind_bounded (Label limit) d = text_bounded limit (well_formed d) _ _

pub acceptable_bounded : (a : Attributes) (d : List ℕ) → Bounded (acceptable a d)
unfolding acceptable
acceptable_bounded a d = cond_bounded (over_long a.limit (length_of d)) (refused too_long) (kind_answer a.kind d) (omega arith, omega arith) (kind_bounded a.kind d)

pub contents_bounded : (r : Record) → Bounded (contents_answer r)
unfolding contents_answer
contents_bounded r = cond_bounded (over_long r.attributes.limit r.length) (refused too_long) (acceptable r.attributes (contents r)) (omega arith, omega arith) (acceptable_bounded r.attributes (contents r))

-- the number of contents: none, or one of 7 to 11
abbrev pub Judges : ℕ → Type 0
Judges n = (n ≡ none) ⊎ ((too_long ≤ n) × (n ≤ not_open))

answer_judges : {Values : Type 0} (a : Answer Values) → Bounded a → Judges (number_of a)
answer_judges (given v) h = inl refl
answer_judges (refused n) h = inr h
answer_judges (refused_at n offset) h = absurd h

first_judges : (n m : ℕ) → Judges n → Judges m → Judges (first_number n m)
unfolding first_number
first_judges zero m h k = k
first_judges (suc n) m h k = h

-- setup's contents, record by record
pub contents_judge : (l : List Record) → Judges (contents_number l)
unfolding contents_number
contents_judge [] = inl refl
contents_judge (r ∷ l) = first_judges (number_of (contents_answer r)) (contents_number l) (answer_judges (contents_answer r) (contents_bounded r)) (contents_judge l)

pub grant_bounded : (l : List Attributes) (cause : Cause) (t : ℕ) (d : List ℕ) → Bounded (grant l cause t d)
unfolding grant grant_at
grant_bounded l cause t d =
    when_bounded (find l t) _ (find_bounded l t)
    (λ i.
    let a = get_or l i blank_attributes in
    cond_bounded (opens cause a) _ (refused not_open) (when_bounded (acceptable a d) _ (acceptable_bounded a d) (λ n. tt)) (omega arith, omega arith))
