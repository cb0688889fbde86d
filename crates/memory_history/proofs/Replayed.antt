-- What `replay` gives and leaves, from what setup and the run give and leave.
use Prim.Native.Nat.{ℕ, ◌<◌}
use mathlib.Core.Path.{◌≡◌, sym, ap, ◌∙◌}
use mathlib.Core.List.{List}
use lib.ListN.{length, get_or, length-replicate, replicate}
use Rattle.card_memory.specs.Layout.{records_size}
use Rattle.receiver_memory.proofs.Puts.{put-length}
use Rattle.card_exports.specs.Outcome.{Outcome}
use Rattle.card_exports.specs.Setup.{setup_outcome}
use Rattle.memory_history.specs.Claim.{MemoryCall, run, Replayed}
use Rattle.memory_history.specs.Encoding.{entries_of}
use Rattle.memory_history.proofs.History.{memory_kept}

entries_long : (s : List ℕ) → length (entries_of s) ≡ records_size
unfolding entries_of
entries_long s = put-length (replicate records_size 0) 0 s ∙ length-replicate {A = ℕ} records_size 0

pub replayed : (before address key : List ℕ) (count : ℕ) (first entries : List ℕ) → ((i : ℕ) → get_or before i 0 < 256) → (h : List MemoryCall) (number : ℕ) (middle last : List ℕ) → entries ≡ entries_of first
    → ◌≡◌ {A = Outcome} (record { number = number; memory = middle }) (setup_outcome before address key count entries) → last ≡ run middle h → Replayed before address key count (entries_of first) h number last
replayed before address key count first entries octets h number middle last same start end =
    let o : ◌≡◌ {A = Outcome} (record { number = number; memory = middle }) (setup_outcome before address key count (entries_of first)) = start ∙ ap (setup_outcome before address key count) same in
    let told = ap (λ (x : Outcome). x.number) o in
    let left = end ∙ ap (λ (x : Outcome). run x.memory h) o in
    record {
      told = told;
      memory = left;
      kept = λ none. rw left (memory_kept before address key count (entries_of first) (record { number = sym told ∙ none; entered = entries_long first; octets = octets }) h);
    }
