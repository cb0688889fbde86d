-- The characters of a text, and the front parts that are made of whole characters.
use mathlib.Core.Path.{◌≡◌, sym, ap, ◌∙◌}
use mathlib.Core.Bool.{true}
use mathlib.Core.List.{List, ◌++◌, append_assoc, flatten}
use Prim.Native.Nat.{ℕ, zero, suc}
use lib.ListN.{length, take, drop, take-append-drop}
use lib.Seq.{take-append_seam, take-length}
use Rattle.label.specs.Utf8.{sequences, well_formed_octets, well_formed}
use Rattle.label.specs.Character.{grouped, characters, WholeCharacters}
use Rattle.label.proofs.Grouping.{grouped_octets, FirstSequences, first_sequences}
use Rattle.label.proofs.Run.{flatten_parts, run_is_front, run_again, run_behind, well_formed_octets_lem, octets_well_formed}

-- the characters have the octets of the sequences
pub characters_octets : (text : List ℕ) → flatten (characters text) ≡ flatten (sequences text)
unfolding characters
characters_octets text = grouped_octets (sequences text)

-- the first characters are made of the first sequences
abbrev Firsts : List ℕ → ℕ → Type 0
Firsts text count = FirstSequences (sequences text) count

firsts_octets : (text : List ℕ) (count : ℕ) (first : Firsts text count) → flatten (take (suc count) (characters text)) ≡ flatten (take first.many (sequences text))
unfolding characters
firsts_octets text count first = ap flatten (sym first.same) ∙ grouped_octets (take first.many (sequences text))

-- the first characters of a text, put together, split into the same characters
pub characters_again : (text : List ℕ) (count : ℕ) → characters (flatten (take count (characters text))) ≡ take count (characters text)
unfolding grouped characters flatten
characters_again text zero = ap grouped (run_again text 0)
characters_again text (suc count) =
    let first : Firsts text count = first_sequences (sequences text) count in
    ap (λ (octets : List ℕ). grouped (sequences octets)) (firsts_octets text count first) ∙ (ap grouped (run_again text first.many) ∙ first.same)

-- the first characters are a front part of the text
pub characters_front : (text : List ℕ) (count : ℕ) → flatten (take count (characters text)) ≡ take (length (flatten (take count (characters text)))) text
characters_front text count =
    let first : List ℕ = flatten (take count (characters text)) in
    let rest : List ℕ = flatten (drop count (characters text)) ++ drop (well_formed_octets text) text in
    let parts : text ≡ first ++ rest = sym (take-append-drop (well_formed_octets text) text) ∙ (ap (λ (l : List ℕ). l ++ drop (well_formed_octets text) text) (sym (run_is_front text) ∙ (sym (characters_octets text) ∙ flatten_parts (characters text) count)) ∙ append_assoc first (flatten (drop count (characters text))) (drop (well_formed_octets text) text)) in
    sym (ap (take (length first)) parts ∙ take-append_seam first rest)

-- where the first characters end, a sequence of the text does, and behind it stand the other sequences
pub firsts_behind : (text : List ℕ) (count : ℕ) (first : Firsts text count) → sequences (drop (length (flatten (take (suc count) (characters text)))) text) ≡ drop first.many (sequences text)
firsts_behind text count first = ap (λ (octets : List ℕ). sequences (drop (length octets) text)) (firsts_octets text count first) ∙ run_behind text first.many

-- the characters of a well-formed text, put together, are the text
pub characters_whole : (text : List ℕ) → well_formed text ≡ true → flatten (characters text) ≡ text
characters_whole text w = characters_octets text ∙ (run_is_front text ∙ rw (well_formed_octets_lem text w) (take-length text))

-- a front part of whole characters is well-formed
pub whole_well_formed : (text part : List ℕ) → WholeCharacters text part → well_formed part ≡ true
unfolding well_formed_octets
whole_well_formed text part whole =
    let again : flatten (sequences part) ≡ part = sym (characters_octets part) ∙ rw (whole.made, characters_again text whole.count) in
    octets_well_formed part (ap length again)
