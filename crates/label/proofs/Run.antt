-- The run of sequences that a text starts with: it is a front part of the text, well-formed itself, and no longer front part is.
use mathlib.Core.Path.{◌≡◌, refl, sym, ap, ◌∙◌}
use mathlib.Core.Bool.{true, false}
use mathlib.Core.List.{List, [], ◌∷◌, ◌++◌, append_assoc, flatten}
use Prim.Native.Nat.{ℕ, zero, suc, ◌+◌, ◌-◌, ◌≤◌, ◌<◌}
use native.Mathlib.Omega.{arith}
use borrow.Author.Tests.{eqb-true, eq-eqb, ne_eqb}
use lib.ListN.{length, take, drop, length-append, length-take, length-drop, take-append-drop}
use lib.Seq.{length-take-le, take-add, take_at, drop_at, take-length, take-nil, drop-nil, drop-drop}
use Rattle.label.specs.Utf8.{sequence_length, sequences_from, sequences, well_formed_octets, well_formed}
use Rattle.label.proofs.Sequence.{sequence_of_front, sequence_in_front, sequence_fits}

pub flatten_append : (a b : List (List ℕ)) → flatten (a ++ b) ≡ flatten a ++ flatten b
unfolding flatten
flatten_append [] b = refl
flatten_append (x ∷ a) b = rw (flatten_append a b) (sym (append_assoc x (flatten a) (flatten b)))

pub flatten_parts : (run : List (List ℕ)) (count : ℕ) → flatten run ≡ flatten (take count run) ++ flatten (drop count run)
flatten_parts run count = ap flatten (sym (take-append-drop count run)) ∙ flatten_append (take count run) (drop count run)

from_drop : (from : ℕ) (text : List ℕ) → sequences_from from text ≡ sequences_from 0 (drop from text)
unfolding sequences_from
from_drop zero text = refl
from_drop (suc from) [] = refl
from_drop (suc from) (octet ∷ text) = from_drop from text

pub sequences-none : (text : List ℕ) → sequence_length text ≡ 0 → sequences text ≡ []
unfolding sequences sequences_from
sequences-none [] e = refl
sequences-none (octet ∷ text) e = rw (e, sequences_from)

pub sequences_step : (text : List ℕ) (m : ℕ) → sequence_length text ≡ suc m → sequences text ≡ take (suc m) text ∷ sequences (drop (suc m) text)
unfolding sequences sequences_from
sequences_step [] m e = let f : sequence_length [] ≤ 0 = sequence_fits [] in absurd (omega arith)
sequences_step (octet ∷ text) m e = rw (e, sequences_from) (ap (λ (run : List (List ℕ)). take (suc m) (octet ∷ text) ∷ run) (from_drop m text))

-- a claim holds of every text if it holds where no sequence stands at the start, and of a text whose rest after the first sequence it holds of
pub by_sequences : (P : List ℕ → Type 0) → ((text : List ℕ) → sequence_length text ≡ 0 → P text) → ((text : List ℕ) (m : ℕ) → sequence_length text ≡ suc m → P (drop (suc m) text) → P text)
    → (text : List ℕ) → P text
by_sequences P none next text = within_length (length text) text (omega arith)
  where
    first : (bound : ℕ) → ((rest : List ℕ) → length rest ≤ bound → P rest) → (text : List ℕ) → length text ≤ suc bound → (n : ℕ) → sequence_length text ≡ n → P text
    first bound shorter text h zero e = none text e
    first bound shorter text h (suc m) e = next text m e (shorter (drop (suc m) text) (simp length-drop (omega arith)))

    within_length : (bound : ℕ) (text : List ℕ) → length text ≤ bound → P text
    within_length zero text h = let f : sequence_length text ≤ length text = sequence_fits text in none text (omega arith)
    within_length (suc bound) text h = first bound (within_length bound) text h (sequence_length text) refl

pub length-first : (text : List ℕ) (m : ℕ) → sequence_length text ≡ suc m → length (take (suc m) text) ≡ suc m
length-first text m e = let f : sequence_length text ≤ length text = sequence_fits text in length-take-le (suc m) text (omega arith)

pub octets_none : (text : List ℕ) → sequence_length text ≡ 0 → well_formed_octets text ≡ 0
unfolding well_formed_octets flatten
octets_none text e = rw (sequences-none text e)

pub octets_step : (text : List ℕ) (m : ℕ) → sequence_length text ≡ suc m → well_formed_octets text ≡ suc m + well_formed_octets (drop (suc m) text)
unfolding well_formed_octets flatten
octets_step text m e = rw (sequences_step text m e, length-append, length-first text m e)

-- the run of sequences is the front part of the text that ends at its offset
pub run_is_front : (text : List ℕ) → flatten (sequences text) ≡ take (well_formed_octets text) text
unfolding flatten
run_is_front = by_sequences (λ (text : List ℕ). flatten (sequences text) ≡ take (well_formed_octets text) text) none next
  where
    none : (text : List ℕ) → sequence_length text ≡ 0 → flatten (sequences text) ≡ take (well_formed_octets text) text
    none text e = rw (sequences-none text e, octets_none text e)

    next : (text : List ℕ) (m : ℕ) → sequence_length text ≡ suc m → flatten (sequences (drop (suc m) text)) ≡ take (well_formed_octets (drop (suc m) text)) (drop (suc m) text)
        → flatten (sequences text) ≡ take (well_formed_octets text) text
    next text m e rest = rw (sequences_step text m e, octets_step text m e, take-add) (rw rest)

-- a text that starts with another text's first sequence has the same first sequence
pub first_again : (text rest : List ℕ) (m : ℕ) → sequence_length text ≡ suc m → sequences (take (suc m) text ++ rest) ≡ take (suc m) text ∷ sequences rest
first_again text rest m e =
    let whole : length (take (suc m) text) ≡ suc m = length-first text m e in
    let front : take (suc m) (take (suc m) text ++ rest) ≡ take (suc m) text = take_at (take (suc m) text) rest (suc m) whole in
    let first : sequence_length (take (suc m) text ++ rest) ≡ suc m = sequence_of_front (suc m) (take (suc m) text ++ rest) m (rw front (sequence_in_front (suc m) text m e (omega arith))) in
    sequences_step (take (suc m) text ++ rest) m first ∙ rw (front, drop_at (take (suc m) text) rest (suc m) whole)

-- the sequences of a well-formed text stand before those of what follows it
pub sequences_append : (text rest : List ℕ) → well_formed_octets text ≡ length text → sequences (text ++ rest) ≡ sequences text ++ sequences rest
sequences_append text rest = by_sequences (λ (text : List ℕ). well_formed_octets text ≡ length text → sequences (text ++ rest) ≡ sequences text ++ sequences rest) none next text
  where
    nothing : (text : List ℕ) → length text ≡ 0 → sequence_length text ≡ 0 → sequences (text ++ rest) ≡ sequences text ++ sequences rest
    nothing [] h e = rw (sequences-none [] e)
    nothing (octet ∷ text) h e = absurd (omega arith)

    none : (text : List ℕ) → sequence_length text ≡ 0 → well_formed_octets text ≡ length text → sequences (text ++ rest) ≡ sequences text ++ sequences rest
    none text e w = nothing text (omega (arith, octets_none text e)) e

    next : (text : List ℕ) (m : ℕ) → sequence_length text ≡ suc m → (well_formed_octets (drop (suc m) text) ≡ length (drop (suc m) text) → sequences (drop (suc m) text ++ rest) ≡ sequences (drop (suc m) text) ++ sequences rest)
        → well_formed_octets text ≡ length text → sequences (text ++ rest) ≡ sequences text ++ sequences rest
    next text m e others w =
        let behind : well_formed_octets (drop (suc m) text) ≡ length (drop (suc m) text) = omega (arith, octets_step text m e, sequence_fits text, length-drop (suc m) text) in
        let parts : text ++ rest ≡ take (suc m) text ++ (drop (suc m) text ++ rest) = ap (λ (l : List ℕ). l ++ rest) (sym (take-append-drop (suc m) text)) ∙ append_assoc (take (suc m) text) (drop (suc m) text) rest in
        rw (parts, first_again text (drop (suc m) text ++ rest) m e, sequences_step text m e) (ap (λ (run : List (List ℕ)). take (suc m) text ∷ run) (others behind))

-- the first sequences of a text, put together, split into the same sequences
pub run_again : (text : List ℕ) (count : ℕ) → sequences (flatten (take count (sequences text))) ≡ take count (sequences text)
unfolding flatten
run_again = by_sequences (λ (text : List ℕ). (count : ℕ) → sequences (flatten (take count (sequences text))) ≡ take count (sequences text)) none next
  where
    empty : sequences [] ≡ []
    empty = sequences-none [] (let f : sequence_length [] ≤ 0 = sequence_fits [] in omega arith)

    none : (text : List ℕ) → sequence_length text ≡ 0 → (count : ℕ) → sequences (flatten (take count (sequences text))) ≡ take count (sequences text)
    none text e count = rw (sequences-none text e, take-nil) empty

    next : (text : List ℕ) (m : ℕ) → sequence_length text ≡ suc m
        → ((count : ℕ) → sequences (flatten (take count (sequences (drop (suc m) text)))) ≡ take count (sequences (drop (suc m) text)))
        → (count : ℕ) → sequences (flatten (take count (sequences text))) ≡ take count (sequences text)
    next text m e rest zero = empty
    next text m e rest (suc count) = rw (sequences_step text m e) (first_again text _ m e ∙ rw (rest count))

-- behind the first sequences of a text stand the others
pub run_behind : (text : List ℕ) (count : ℕ) → sequences (drop (length (flatten (take count (sequences text)))) text) ≡ drop count (sequences text)
unfolding flatten
run_behind = by_sequences (λ (text : List ℕ). (count : ℕ) → sequences (drop (length (flatten (take count (sequences text)))) text) ≡ drop count (sequences text)) none next
  where
    none : (text : List ℕ) → sequence_length text ≡ 0 → (count : ℕ) → sequences (drop (length (flatten (take count (sequences text)))) text) ≡ drop count (sequences text)
    none text e count = rw (sequences-none text e, take-nil, drop-nil) (sequences-none text e)

    next : (text : List ℕ) (m : ℕ) → sequence_length text ≡ suc m
        → ((count : ℕ) → sequences (drop (length (flatten (take count (sequences (drop (suc m) text))))) (drop (suc m) text)) ≡ drop count (sequences (drop (suc m) text)))
        → (count : ℕ) → sequences (drop (length (flatten (take count (sequences text)))) text) ≡ drop count (sequences text)
    next text m e rest zero = refl
    next text m e rest (suc count) = rw (sequences_step text m e, length-append, length-first text m e, ← drop-drop) (rest count)

-- the sequences of a front part are the first ones of the text
abbrev FirstOnes : List ℕ → ℕ → Type 0
FirstOnes text n = sequences (take n text) ≡ take (length (sequences (take n text))) (sequences text)

pub front_run : (text : List ℕ) (n : ℕ) → FirstOnes text n
front_run = by_sequences (λ (text : List ℕ). (n : ℕ) → FirstOnes text n) none next
  where
    -- a front part with no sequence at its start has none, and one with a sequence there has the text's first one
    cases : (text : List ℕ) (n k : ℕ) → sequence_length (take n text) ≡ k → ((m : ℕ) → sequence_length (take n text) ≡ suc m → sequence_length text ≡ suc m → FirstOnes text n) → FirstOnes text n
    cases text n zero e started = rw (sequences-none (take n text) e)
    cases text n (suc m) e started = started m e (sequence_of_front n text m e)

    none : (text : List ℕ) → sequence_length text ≡ 0 → (n : ℕ) → FirstOnes text n
    none text e n = cases text n (sequence_length (take n text)) refl (λ m p q. absurd (omega arith))

    next : (text : List ℕ) (m : ℕ) → sequence_length text ≡ suc m → ((n : ℕ) → FirstOnes (drop (suc m) text) n) → (n : ℕ) → FirstOnes text n
    next text m e rest n = cases text n (sequence_length (take n text)) refl (λ k p q.
        let long : suc m ≤ n = omega (arith, sequence_fits (take n text), length-take n text) in
        let sum : n ≡ suc m + (n - suc m) = omega arith in
        let parts : take n text ≡ take (suc m) text ++ take (n - suc m) (drop (suc m) text) = ap (λ (i : ℕ). take i text) sum ∙ take-add (suc m) (n - suc m) text in
        rw (parts, first_again text (take (n - suc m) (drop (suc m) text)) m e, sequences_step text m e) (ap (λ (run : List (List ℕ)). take (suc m) text ∷ run) (rest (n - suc m))))

-- the front part up to the offset is within the text, splits into the same sequences, and has the most octets of all front parts
pub octets_fit : (text : List ℕ) → well_formed_octets text ≤ length text
octets_fit = by_sequences (λ (text : List ℕ). well_formed_octets text ≤ length text) none next
  where
    none : (text : List ℕ) → sequence_length text ≡ 0 → well_formed_octets text ≤ length text
    none text e = omega (arith, octets_none text e)

    next : (text : List ℕ) (m : ℕ) → sequence_length text ≡ suc m → well_formed_octets (drop (suc m) text) ≤ length (drop (suc m) text) → well_formed_octets text ≤ length text
    next text m e rest = omega (arith, octets_step text m e, sequence_fits text, length-drop (suc m) text)

pub octets_again : (text : List ℕ) → well_formed_octets (take (well_formed_octets text) text) ≡ well_formed_octets text
unfolding well_formed_octets
octets_again text =
    let all : take (length (sequences text)) (sequences text) ≡ sequences text = take-length (sequences text) in
    let again : sequences (flatten (sequences text)) ≡ sequences text = rw all at (run_again text (length (sequences text))) in
    ap (λ (front : List ℕ). length (flatten (sequences front))) (sym (run_is_front text)) ∙ ap (λ (run : List (List ℕ)). length (flatten run)) again

pub octets_front : (text : List ℕ) (n : ℕ) → well_formed_octets (take n text) ≤ well_formed_octets text
unfolding well_formed_octets
octets_front text n =
    let count : ℕ = length (sequences (take n text)) in
    let first : length (flatten (sequences (take n text))) ≡ length (flatten (take count (sequences text))) = ap (λ (run : List (List ℕ)). length (flatten run)) (front_run text n) in
    let sum : length (flatten (sequences text)) ≡ length (flatten (take count (sequences text))) + length (flatten (drop count (sequences text))) = ap length (flatten_parts (sequences text) count) ∙ simp length-append in
    omega arith

-- a text is well-formed if and only if its longest well-formed front part is the whole text
pub well_formed_octets_lem : (text : List ℕ) → well_formed text ≡ true → well_formed_octets text ≡ length text
unfolding well_formed
well_formed_octets_lem text w = eqb-true (well_formed_octets text) (length text) w

pub octets_well_formed : (text : List ℕ) → well_formed_octets text ≡ length text → well_formed text ≡ true
unfolding well_formed
octets_well_formed text e = eq-eqb (well_formed_octets text) (length text) e

pub octets_ill_formed : (text : List ℕ) → well_formed_octets text < length text → well_formed text ≡ false
unfolding well_formed
octets_ill_formed text h = ne_eqb (well_formed_octets text) (length text) (λ (e : well_formed_octets text ≡ length text). omega arith)
