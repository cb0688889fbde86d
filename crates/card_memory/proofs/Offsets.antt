-- The layout by the numbers of docs/MEMORY.md, by which a C program lends memory and writes entries, and what an entry's octets say.
use Prim.Native.Nat.{ℕ, ◌+◌, ◌*◌, ◌/◌, ◌%◌}
use mathlib.Core.Bool.{Bool, true, false}
use mathlib.Core.List.{List, [], ◌∷◌, map}
use mathlib.Core.Path.{◌≡◌, refl}
use native.Mathlib.Omega.{arith}
use Rattle.numbers.specs.Counts.{in_octets, in_characters}
use Rattle.records.specs.declared.Kind.{Kind}
use Rattle.records.specs.declared.Kind.TheVariants.{Raw, Label}
use Rattle.records.specs.declared.Attributes.{Attributes}
use Rattle.card_memory.specs.Layout.{address_at, key_at, wait_mark_at, wait_adp_at, wait_tab_at, wait_length_at, wait_data_at, na2_at, count_at, records_at, tab_at, kind_at, octet_limit_at, character_limit_at, marks_at, length_at, storage_at, record_size, records_size, receiver_at, size}
use Rattle.card_memory.specs.Decoding.{attributes_in}

memory_offsets : address_at ∷ key_at ∷ wait_mark_at ∷ wait_adp_at ∷ wait_tab_at ∷ wait_length_at ∷ wait_data_at ∷ na2_at ∷ count_at ∷ records_at ∷ receiver_at ∷ size ∷ []
    ≡ 0 ∷ 6 ∷ 14 ∷ 15 ∷ 16 ∷ 17 ∷ 18 ∷ 118 ∷ 126 ∷ 127 ∷ 4031 ∷ 4160 ∷ []
memory_offsets = refl

record_offsets : tab_at ∷ kind_at ∷ octet_limit_at ∷ character_limit_at ∷ marks_at ∷ length_at ∷ storage_at ∷ record_size ∷ records_size ∷ []
    ≡ 0 ∷ 1 ∷ 2 ∷ 3 ∷ 4 ∷ 5 ∷ 6 ∷ 122 ∷ 3904 ∷ []
record_offsets = refl

abbrev attributes : Kind → Bool → Bool → Bool → Attributes
attributes kind readable programming transfer =
    record { tab = 0x0A; kind = kind; limit = in_octets 100; readable = readable; programming = programming; transfer = transfer }

-- kind 0 is raw, and 1 a label; bit 0 of the marks is readable, bit 1 open to programming, bit 2 open to transfer
entries_read : map attributes_in ((0x0A ∷ 0 ∷ 100 ∷ 50 ∷ 1 ∷ []) ∷ (0x0A ∷ 1 ∷ 100 ∷ 50 ∷ 2 ∷ []) ∷ (0x0A ∷ 1 ∷ 100 ∷ 50 ∷ 4 ∷ []) ∷ [])
    ≡ attributes Raw true false false ∷ attributes (Label (in_characters 50)) false true false ∷ attributes (Label (in_characters 50)) false false true ∷ []
unfolding attributes_in
entries_read = refl

-- bits 3 to 7 of the marks are free: nothing reads them
pub free_bits : (tab kind octets characters marks k : ℕ) (rest : List ℕ) → attributes_in (tab ∷ kind ∷ octets ∷ characters ∷ (marks + 8 * k) ∷ rest) ≡ attributes_in (tab ∷ kind ∷ octets ∷ characters ∷ marks ∷ rest)
unfolding attributes_in
free_bits tab kind octets characters marks k rest =
    let readable : (marks + 8 * k) % 2 ≡ marks % 2 = omega arith in
    let halved : (marks + 8 * k) / 2 ≡ marks / 2 + 4 * k = omega arith in
    let programming : (marks / 2 + 4 * k) % 2 ≡ marks / 2 % 2 = omega arith in
    let quartered : (marks + 8 * k) / 4 ≡ marks / 4 + 2 * k = omega arith in
    let transfer : (marks / 4 + 2 * k) % 2 ≡ marks / 4 % 2 = omega arith in
    rw (readable, halved, programming, quartered, transfer)
