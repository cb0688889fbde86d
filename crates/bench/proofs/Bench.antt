-- Every row of the list holds: antt computes what a row names from the definitions, and a law says it of all that the row leaves open.
use Prim.Native.Nat.{ℕ, zero, suc, ◌+◌, ◌-◌, ◌≤◌, ◌<◌, ◌^◌}
use mathlib.Core.Path.{◌≡◌, refl, sym, ap, ◌∙◌}
use mathlib.Core.Bool.{true, false}
use mathlib.Core.List.{List, [], ◌∷◌, ◌++◌, flatten}
use native.Mathlib.Omega.{arith}
use borrow.Author.Tests.{lt-ltb, le-leb}
use lib.ListN.{length, get_or, take, drop, length-drop}
use lib.Seq.{get_or-drop}
use lib.Dec.{lit<}
use Rattle.octets.specs.Between.{between}
use Rattle.numbers.specs.declared.Octets.{Octets}
use Rattle.numbers.specs.declared.Characters.{Characters}
use Rattle.numbers.specs.Counts.{in_octets, in_characters}
use Rattle.numbers.specs.Answer.{Answer, refused, refused_at}
use Rattle.numbers.specs.Table.{too_long, faulty_file}
use Rattle.frame.specs.declared.codes.Command.{Command}
use Rattle.frame.specs.declared.codes.Command.TheVariants.{Rec, Trf}
use Rattle.frame.specs.Layout.{layout_of, whole_length, within}
use Rattle.frame.specs.Building.{Outcome}
use Rattle.frame.proofs.RoundTrip.{built_beyond, built_reads_back}
use Rattle.label.specs.Utf8.{table, begins, row_at, sequence_length, sequences_from, sequences, well_formed_octets, well_formed}
use Rattle.label.specs.CodePoint.{code_point}
use Rattle.label.specs.Character.{is_combining_mark, joined_to, grouped, characters}
use Rattle.label.specs.Fitting.{judged as judged_text, keep, kept_characters, fit_of}
use Rattle.number.specs.Groups.{encoded, groups, decoded, joined, bounded, found, none as not_a_number, front_number}
use Rattle.number.proofs.Forms.{front_form}
use Rattle.swap.specs.Record.{count_limit, known_kind, kind_of, length_limit, rank_of}
use Rattle.swap.specs.Items.{bad, judged, judged_content, good_address, good_kind, length_field, limited}
use Rattle.swap.specs.Reading.{answer_of_listing}
use Rattle.swap.proofs.Tally.{records_bad}
use Rattle.swap.proofs.Verdicts.{verdict_none, verdict_many, verdict_records}
use Rattle.bench.specs.Rows.{exactly, any, builds, fits, encodes, unnumbered, judges, Holds, Each, none, next, whole, kept, ill_formed_at, two_letters, letter_with_accent, name_with_accent, one_record, rows}

-- frames
module _ (command : Command) (count : ℕ) where
  within-builds : within (layout_of command) count ≡ true → Holds (builds command count (whole (whole_length (layout_of command) count)))
  within-builds w buffer fields content room shaped e =
      (built_reads_back buffer command fields content shaped room (rw e w)).0 ∙ rw e

  beyond_refused : within (layout_of command) count ≡ false → Holds (builds command count (refused too_long))
  beyond_refused w buffer fields content room shaped e =
      ap (λ (o : Outcome). o.answer) (built_beyond buffer command fields content room (rw e w))

-- labels: at the limits that a row names
fits_at : (label : List ℕ) (octets characters : ℕ) (answer : Answer (Octets × Characters)) → fit_of label (in_octets octets) (in_characters characters) ≡ answer → Holds (fits label (exactly octets) (exactly characters) answer)
fits_at label octets characters answer e o c p q = rw (p, q) e

-- and where it leaves both open
fits-any : (label : List ℕ) (answer : Answer (Octets × Characters)) → ((o c : ℕ) → fit_of label (in_octets o) (in_characters c) ≡ answer) → Holds (fits label any any answer)
fits-any label answer e o c p q = e o c

-- and where it leaves the character limit open: none, and any other
fits-within : (label : List ℕ) (octets : ℕ) (answer : Answer (Octets × Characters)) → fit_of label (in_octets octets) (in_characters 0) ≡ answer → ((c : ℕ) → fit_of label (in_octets octets) (in_characters (suc c)) ≡ answer)
    → Holds (fits label (exactly octets) any answer)
fits-within label octets answer at_none at_some o c p q = rw p (by_count c)
  where
    by_count : (n : ℕ) → fit_of label (in_octets octets) (in_characters n) ≡ answer
    by_count zero = at_none
    by_count (suc n) = at_some n

-- numbers: the form of n, and what is read of it
encodes_own : (n : ℕ) (octets : List ℕ) → n < 2 ^ 32 → encoded n ≡ octets → Holds (encodes n octets)
encodes_own n octets h e = (e, λ rest. rw (← e) (front_form n rest h))

-- files: no count stands at the front
uncounted : (front : List ℕ) → ((rest : List ℕ) → front_number (front ++ rest) ≡ not_a_number) → Holds (judges front (refused_at faulty_file (in_octets 0)))
uncounted front e rest h = sym (verdict_none (front ++ rest) h (e rest))

-- the count at the front is over its limit
overcounted : (front : List ℕ) (n w : ℕ) → ((rest : List ℕ) → front_number (front ++ rest) ≡ found n w) → count_limit < n → Holds (judges front (refused_at faulty_file (in_octets 0)))
overcounted front n w e k rest h = sym (verdict_many (front ++ rest) h n w (e rest) k)

-- of one record, which is the first, an item is bad
misjudged : (front : List ℕ) (o : ℕ) → ((rest : List ℕ) → front_number (front ++ rest) ≡ found 1 1) → ((rest : List ℕ) → judged 0 (drop 1 (front ++ rest)) ≡ bad o) → Holds (judges front (refused_at faulty_file (in_octets (1 + o))))
misjudged front o f e rest h =
    sym (verdict_records (front ++ rest) h 1 1 (f rest) (omega arith)) ∙ ap answer_of_listing (records_bad 0 0 1 (drop 1 (front ++ rest)) o (e rest))

-- a first record's address with TAB is good, so that its kind, or its length, is the bad item
module _ (t : List ℕ) (long : 8 ≤ length t) where
  good_address_lem : good_address 0 t ≡ true
  unfolding good_address
  good_address_lem = rw (le-leb 7 (length t) (omega arith), le-leb 0 (rank_of (take 7 t)) (omega arith))

  kind_there : good_kind (drop 7 t) ≡ known_kind (get_or t 7 0)
  unfolding good_kind
  kind_there = rw (lt-ltb 0 (length (drop 7 t)) (omega (arith, length-drop 7 t)), get_or-drop 7 t 0 0)

  bad_kind : known_kind (get_or t 7 0) ≡ false → judged 0 t ≡ bad 7
  unfolding judged
  bad_kind e = rw (good_address_lem, kind_there, e)

  bad-length : known_kind (get_or t 7 0) ≡ true → length_field (kind_of (get_or t 7 0)) (drop 8 t) ≡ not_a_number → judged 0 t ≡ bad 8
  unfolding judged judged_content
  bad-length e f = rw (good_address_lem, kind_there, e, f)

-- numbers: none begins with these octets
no_number : (octets : List ℕ) → ((rest : List ℕ) → front_number (octets ++ rest) ≡ not_a_number) → Holds (unnumbered octets)
no_number octets e = e

pub bench : Each rows
unfolding encoded groups decoded joined bounded front_number layout_of within between fit_of judged_text kept_characters keep characters grouped joined_to is_combining_mark code_point well_formed well_formed_octets sequences sequences_from sequence_length row_at begins table flatten known_kind kind_of length_field length_limit limited
bench =
    next (within-builds Trf 116 refl)
    (next (beyond_refused Trf 117 refl)
    (next (within-builds Rec 100 refl)
    (next (beyond_refused Rec 101 refl)
    (next (fits_at two_letters 3 9 (kept 2 1) refl)
    (next (fits_at two_letters 4 1 (kept 2 1) refl)
    (next (fits_at two_letters 1 9 (kept 0 0) refl)
    (next (fits-any [] (kept 0 0) (λ o c. refl))
    (next (fits-within (0xE2 ∷ 0x82 ∷ 0xAC ∷ []) 2 (kept 0 0) refl (λ c. refl))
    (next (fits-any (0x41 ∷ 0xC3 ∷ []) (ill_formed_at 1) (λ o c. refl))
    (next (fits-any (0xC0 ∷ 0x80 ∷ []) (ill_formed_at 0) (λ o c. refl))
    (next (fits-any (0xED ∷ 0xA0 ∷ 0x80 ∷ []) (ill_formed_at 0) (λ o c. refl))
    (next (fits-any (0xF4 ∷ 0x90 ∷ 0x80 ∷ 0x80 ∷ []) (ill_formed_at 0) (λ o c. refl))
    (next (encodes_own 4096 (0x80 ∷ 0x20 ∷ []) (lit< tt) refl)
    (next (uncounted (0x81 ∷ 0x00 ∷ []) (λ rest. refl))
    (next (fits-within letter_with_accent 1 (kept 0 0) refl (λ c. refl))
    (next (fits-within letter_with_accent 2 (kept 0 0) refl (λ c. refl))
    (next (fits_at letter_with_accent 3 0 (kept 0 0) refl)
    (next (fits_at letter_with_accent 3 1 (kept 3 1) refl)
    (next (fits_at name_with_accent 4 9 (kept 2 2) refl)
    (next (fits_at name_with_accent 5 2 (kept 2 2) refl)
    (next (fits_at name_with_accent 5 3 (kept 5 3) refl)
    (next (fits-within (0x20 ∷ 0xCC ∷ 0x81 ∷ []) 2 (kept 0 0) refl (λ c. refl))
    (next (fits-within (0xCC ∷ 0x81 ∷ 0xCD ∷ 0xAF ∷ []) 3 (kept 0 0) refl (λ c. refl))
    (next (fits_at (0xCC ∷ 0x81 ∷ 0xCD ∷ 0xAF ∷ []) 4 1 (kept 4 1) refl)
    (next (fits_at (0xCC ∷ 0x81 ∷ 0x65 ∷ []) 3 1 (kept 2 1) refl)
    (next (fits_at (0x65 ∷ 0xCC ∷ 0x80 ∷ 0xCC ∷ 0xBF ∷ 0xCD ∷ 0x80 ∷ []) 7 1 (kept 7 1) refl)
    (next (fits_at (0x65 ∷ 0xCB ∷ 0xBF ∷ []) 3 1 (kept 1 1) refl)
    (next (fits_at (0x65 ∷ 0xCD ∷ 0xB0 ∷ []) 3 1 (kept 1 1) refl)
    (next (fits_at (0x65 ∷ 0xE2 ∷ 0x83 ∷ 0x90 ∷ []) 4 1 (kept 1 1) refl)
    (next (fits-any (0x65 ∷ 0xCC ∷ 0x81 ∷ 0xFF ∷ []) (ill_formed_at 3) (λ o c. refl))
    (next (fits-any (0x65 ∷ 0xCC ∷ 0xFF ∷ []) (ill_formed_at 1) (λ o c. refl))
    (next (encodes_own (2 ^ 32 - 1) (0xFF ∷ 0xFF ∷ 0xFF ∷ 0xFF ∷ 0x0F ∷ []) (lit< tt) refl)
    (next (no_number (0x80 ∷ 0x80 ∷ 0x80 ∷ 0x80 ∷ 0x10 ∷ []) (λ rest. refl))
    (next (no_number (0x80 ∷ 0x80 ∷ 0x80 ∷ 0x80 ∷ 0x80 ∷ []) (λ rest. refl))
    (next (no_number (0x80 ∷ 0x80 ∷ 0x80 ∷ 0x80 ∷ 0x00 ∷ []) (λ rest. refl))
    (next (overcounted (0xFF ∷ 0xFF ∷ 0xFF ∷ 0xFF ∷ 0x0F ∷ []) (2 ^ 32 - 1) 5 (λ rest. refl) (lit< tt))
    (next (misjudged (one_record ++ 0x01 ∷ 0x75 ∷ []) 8 (λ rest. refl) (λ rest. bad-length _ (omega arith) refl refl))
    (next (misjudged (one_record ++ 0x02 ∷ 0x81 ∷ 0x20 ∷ []) 8 (λ rest. refl) (λ rest. bad-length _ (omega arith) refl refl))
    (next (misjudged (one_record ++ 0x03 ∷ []) 7 (λ rest. refl) (λ rest. bad_kind _ (omega arith) refl)) none)))))))))))))))))))))))))))))))))))))))
