-- Two memories with the same octets in the layout hold the same card: what lies behind is not read.
use Prim.Native.Nat.{ℕ, zero, suc, ◌+◌, ◌*◌, ◌≤◌, ◌<◌, min}
use mathlib.Core.Path.{◌≡◌, refl}
use mathlib.Core.List.{List}
use native.Mathlib.Omega.{arith}
use lib.ListN.{length, get_or}
use Rattle.receiver_memory.specs.Receiver as receiver
use Rattle.receiver_memory.proofs.Puts.{part_agrees, field_agree}
use Rattle.card_memory.specs.Layout.{address_at, address_size, key_at, key_size, wait_mark_at, wait_adp_at, wait_tab_at, wait_length_at, wait_data_at, wait_data_size, na2_at, na2_size, count_at, records_at, kind_at, record_size, record_places, receiver_at, receiver_mark_at, size}
use Rattle.card_memory.specs.Decoding.{records_in, phase_in, decoded}
use Rattle.card_memory.specs.Legibility.{marks_in_use, legible}
use Rattle.card_memory.proofs.RoundTrip.{kinds_agree}

module _ (s t : List ℕ) (h : size ≤ length s) (k : size ≤ length t) (same : (j : ℕ) → j < size → get_or s j 0 ≡ get_or t j 0) where
  records_same : (n at : ℕ) → at + record_size * n ≤ size → records_in n at s ≡ records_in n at t
  unfolding records_in
  records_same zero at inside = refl
  records_same (suc n) at inside =
      rw (
        part_agrees at record_size s t (omega arith) (omega arith) (λ j l. same (at + j) (omega arith)),
        records_same n (at + record_size) (omega arith),
      )

  pub decoded_same : decoded s ≡ decoded t
  unfolding decoded phase_in
  decoded_same =
      rw (
        field_agree address_size address_at s t (omega arith) (omega arith) (λ j l. same (address_at + j) (omega arith)),
        field_agree key_size key_at s t (omega arith) (omega arith) (λ j l. same (key_at + j) (omega arith)),
        same wait_mark_at (omega arith),
        same wait_adp_at (omega arith),
        same wait_tab_at (omega arith),
        same wait_length_at (omega arith),
        field_agree wait_data_size wait_data_at s t (omega arith) (omega arith) (λ j l. same (wait_data_at + j) (omega arith)),
        field_agree na2_size na2_at s t (omega arith) (omega arith) (λ j l. same (na2_at + j) (omega arith)),
        same count_at (omega arith),
        records_same record_places records_at (omega arith),
        part_agrees receiver_at receiver.size s t (omega arith) (omega arith) (λ j l. same (receiver_at + j) (omega arith)),
      )

  pub legible_same : legible s ≡ legible t
  unfolding legible marks_in_use
  legible_same =
      rw (
        same wait_mark_at (omega arith),
        same receiver_mark_at (omega arith),
        same count_at (omega arith),
        kinds_agree (min (get_or t count_at 0) record_places) records_at records_at s t (λ i l. same (records_at + record_size * i + kind_at) (omega arith)),
      )
