-- The ends of the swap file's ranges (01, Swap file: "Count 0 to 4,096, length 0 to 116, file at most 65,536 octets"; 02, E10: "a raw kind, 2, long record, length 0 to 4,096").
use Prim.Native.Nat.{ℕ}
use mathlib.Core.List.{List, [], ◌∷◌, map}
use mathlib.Core.Path.{◌≡◌, refl, sym}
use native.Mathlib.Omega.{arith}
use lib.ListN.{length}
use Rattle.numbers.specs.Counts.{in_octets}
use Rattle.numbers.specs.Answer.{refused_at}
use Rattle.numbers.specs.Table.{faulty_file}
use Rattle.number.specs.Groups.{joined, decoded, bounded, front_number}
use Rattle.swap.specs.Record.{known_kind, kind_of, length_limit, number_from, rank_of}
use Rattle.swap.specs.Items.{good_address, good_kind, limited, length_field, good_content, judged_content, judged}
use Rattle.swap.specs.Reading.{preceded, read_records, read_counted, read_file, verdict_of}
use Rattle.swap.proofs.Verdicts.{verdict_long, verdict_records}

-- a file of one record that ends after these octets of its kind and length
abbrev cut : List ℕ → List ℕ
cut s = 0x01 ∷ 0x11 ∷ 0x22 ∷ 0x33 ∷ 0x44 ∷ 0x55 ∷ 0x66 ∷ 0x0A ∷ s

-- After the greatest count, or length, the fault is that the next item is missing; one more is itself the fault.
pub greatest_numbers : map verdict_of ((0x80 ∷ 0x20 ∷ []) ∷ (0x81 ∷ 0x20 ∷ []) ∷ cut (0 ∷ 116 ∷ []) ∷ cut (0 ∷ 117 ∷ []) ∷ cut (1 ∷ 116 ∷ []) ∷ cut (1 ∷ 117 ∷ []) ∷ cut (2 ∷ 0x80 ∷ 0x20 ∷ []) ∷ cut (2 ∷ 0x81 ∷ 0x20 ∷ []) ∷ [])
    ≡ map (λ o. refused_at faulty_file (in_octets o)) (2 ∷ 0 ∷ 10 ∷ 9 ∷ 10 ∷ 9 ∷ 11 ∷ 9 ∷ [])
unfolding verdict_of read_file read_counted read_records preceded judged good_address good_kind length_field limited good_content judged_content known_kind kind_of length_limit rank_of number_from front_number bounded decoded joined
greatest_numbers = refl

-- after the greatest kind the fault is that the length is missing; the next octet is no kind
pub greatest_kind : map verdict_of (cut (2 ∷ []) ∷ cut (3 ∷ []) ∷ []) ≡ map (λ o. refused_at faulty_file (in_octets o)) (9 ∷ 8 ∷ [])
unfolding verdict_of read_file read_counted read_records preceded judged good_address good_kind length_field limited good_content judged_content known_kind kind_of length_limit rank_of number_from front_number bounded decoded joined
greatest_kind = refl

-- a file of 65,537 octets is too long; one of 65,536 that counts no records is read, and what follows the count is the fault
pub longer_file : (s : List ℕ) → length s ≡ 65537 → verdict_of s ≡ refused_at faulty_file (in_octets 65536)
longer_file s h = sym (verdict_long s (omega arith))

pub longest_file : (o : ℕ) (s : List ℕ) → length (0 ∷ o ∷ s) ≡ 65536 → verdict_of (0 ∷ o ∷ s) ≡ refused_at faulty_file (in_octets 1)
unfolding read_records front_number bounded decoded
longest_file o s h = sym (verdict_records (0 ∷ o ∷ s) (omega arith) 0 1 refl (omega arith))
