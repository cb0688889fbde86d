-- Sequences joined into characters: every octet stays, and the first characters are made of the first sequences.
use mathlib.Core.Path.{◌≡◌, refl, sym, ap, ◌∙◌}
use mathlib.Core.Bool.{Bool, true, false, cond}
use mathlib.Core.List.{List, [], ◌∷◌, ◌++◌, append_assoc, flatten}
use Prim.Native.Nat.{ℕ, zero, suc, ◌<◌}
use native.Mathlib.Omega.{arith}
use lib.ListN.{length, take, drop}
use lib.Seq.{take-nil}
use Rattle.label.specs.Character.{is_combining_mark, joined_to, grouped}

-- whether a run's first sequence is a combining mark
unfoldable pub starts_with_mark : List (List ℕ) → Bool
starts_with_mark [] = false
starts_with_mark (sequence ∷ run) = is_combining_mark sequence

-- ---- every octet stays

joined_octets : (held : List ℕ) (run : List (List ℕ)) → flatten (joined_to held run) ≡ held ++ flatten run
unfolding joined_to flatten
joined_octets held [] = refl
joined_octets held (sequence ∷ run) = told (is_combining_mark sequence) (λ octets. joined_octets octets run)
  where
    told : (b : Bool) → ((octets : List ℕ) → flatten (joined_to octets run) ≡ octets ++ flatten run) → flatten (cond b (joined_to (held ++ sequence) run) (held ∷ joined_to sequence run)) ≡ held ++ (sequence ++ flatten run)
    told true rest = rest (held ++ sequence) ∙ append_assoc held sequence (flatten run)
    told false rest = ap (λ (l : List ℕ). held ++ l) (rest sequence)

pub grouped_octets : (run : List (List ℕ)) → flatten (grouped run) ≡ flatten run
unfolding grouped flatten
grouped_octets [] = refl
grouped_octets (sequence ∷ run) = joined_octets sequence run

-- ---- where no combining mark stands, a character starts

joined_append : (held : List ℕ) (front rest : List (List ℕ)) → starts_with_mark rest ≡ false → joined_to held (front ++ rest) ≡ joined_to held front ++ grouped rest
unfolding joined_to grouped starts_with_mark
joined_append held [] [] clear = refl
joined_append held [] (sequence ∷ rest) clear = rw clear
joined_append held (sequence ∷ front) rest clear = told (is_combining_mark sequence) (λ octets. joined_append octets front rest clear)
  where
    told : (b : Bool) → ((octets : List ℕ) → joined_to octets (front ++ rest) ≡ joined_to octets front ++ grouped rest)
        → cond b (joined_to (held ++ sequence) (front ++ rest)) (held ∷ joined_to sequence (front ++ rest)) ≡ cond b (joined_to (held ++ sequence) front) (held ∷ joined_to sequence front) ++ grouped rest
    told true others = others (held ++ sequence)
    told false others = ap (λ (l : List (List ℕ)). held ∷ l) (others sequence)

pub grouped_append : (front rest : List (List ℕ)) → starts_with_mark rest ≡ false → grouped (front ++ rest) ≡ grouped front ++ grouped rest
unfolding grouped
grouped_append [] rest clear = refl
grouped_append (sequence ∷ front) rest clear = joined_append sequence front rest clear

-- ---- the first characters are those of the first sequences, behind which no combining mark stands

record FirstJoined (held : List ℕ) (run : List (List ℕ)) (count : ℕ) : Type 0 where
  many : ℕ
  same : joined_to held (take many run) ≡ take (suc count) (joined_to held run)
  clear : starts_with_mark (drop many run) ≡ false

first_joined : (held : List ℕ) (run : List (List ℕ)) (count : ℕ) → FirstJoined held run count
unfolding joined_to starts_with_mark
first_joined held [] count = record { many = 0; same = ap (λ (l : List (List ℕ)). held ∷ l) (sym (take-nil count)); clear = refl }
first_joined held (sequence ∷ run) count = told (is_combining_mark sequence) refl count (λ octets n. first_joined octets run n)
  where
    told : (b : Bool) → is_combining_mark sequence ≡ b → (n : ℕ) → ((octets : List ℕ) (n : ℕ) → FirstJoined octets run n) → FirstJoined held (sequence ∷ run) n
    told true mark n rest = let f = rest (held ++ sequence) n in record { many = suc f.many; same = rw mark f.same; clear = f.clear }
    told false mark zero rest = record { many = 0; same = rw mark; clear = mark }
    told false mark (suc n) rest = let f = rest sequence n in record { many = suc f.many; same = rw mark (ap (λ (l : List (List ℕ)). held ∷ l) f.same); clear = f.clear }

pub record FirstSequences (run : List (List ℕ)) (count : ℕ) : Type 0 where
  pub many : ℕ
  pub same : grouped (take many run) ≡ take (suc count) (grouped run)
  pub clear : starts_with_mark (drop many run) ≡ false

pub first_sequences : (run : List (List ℕ)) (count : ℕ) → FirstSequences run count
unfolding grouped starts_with_mark
first_sequences [] count = record { many = 0; same = refl; clear = refl }
first_sequences (sequence ∷ run) count = let f = first_joined sequence run count in record { many = suc f.many; same = f.same; clear = f.clear }

-- ---- one sequence more

-- as many elements, and the same ones before the last
abbrev pub LastGrown : List (List ℕ) → List (List ℕ) → Type 0
LastGrown grown run = (length grown ≡ length run) × ((k : ℕ) → k < length run → take k grown ≡ take k run)

-- a combining mark joins the last character
joined_mark : (held : List ℕ) (run : List (List ℕ)) (mark : List ℕ) → is_combining_mark mark ≡ true → LastGrown (joined_to held (run ++ mark ∷ [])) (joined_to held run)
unfolding joined_to
joined_mark held [] mark e = rw e (refl, only)
  where
    only : (k : ℕ) → k < 1 → take k ((held ++ mark) ∷ []) ≡ take k (held ∷ [])
    only zero h = refl
    only (suc k) h = absurd (omega arith)
joined_mark held (sequence ∷ run) mark e = told (is_combining_mark sequence) (λ octets. joined_mark octets run mark e)
  where
    later : LastGrown (joined_to sequence (run ++ mark ∷ [])) (joined_to sequence run) → (k : ℕ) → k < suc (length (joined_to sequence run)) → take k (held ∷ joined_to sequence (run ++ mark ∷ [])) ≡ take k (held ∷ joined_to sequence run)
    later rest zero h = refl
    later rest (suc k) h = ap (λ (l : List (List ℕ)). held ∷ l) (rest.1 k (omega arith))

    told : (b : Bool) → ((octets : List ℕ) → LastGrown (joined_to octets (run ++ mark ∷ [])) (joined_to octets run))
        → LastGrown (cond b (joined_to (held ++ sequence) (run ++ mark ∷ [])) (held ∷ joined_to sequence (run ++ mark ∷ []))) (cond b (joined_to (held ++ sequence) run) (held ∷ joined_to sequence run))
    told true rest = rest (held ++ sequence)
    told false rest = (ap suc (rest sequence).0, later (rest sequence))

pub grouped_mark : (run : List (List ℕ)) (mark : List ℕ) → is_combining_mark mark ≡ true → 0 < length run → LastGrown (grouped (run ++ mark ∷ [])) (grouped run)
unfolding grouped
grouped_mark [] mark e h = absurd (omega arith)
grouped_mark (sequence ∷ run) mark e h = joined_mark sequence run mark e

-- the first sequence, and any other that is no combining mark, starts a character
pub grouped_first : (sequence : List ℕ) → grouped (sequence ∷ []) ≡ sequence ∷ []
unfolding grouped joined_to
grouped_first sequence = refl

pub grouped_more : (run : List (List ℕ)) (sequence : List ℕ) → is_combining_mark sequence ≡ false → grouped (run ++ sequence ∷ []) ≡ grouped run ++ sequence ∷ []
unfolding starts_with_mark
grouped_more run sequence clear = grouped_append run (sequence ∷ []) clear ∙ rw (grouped_first sequence)
