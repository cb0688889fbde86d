-- Octets of card memory that a refusal leaves (01, Numbers handed back: "a refusal other than 12, 16 and 17 may still change the receiver and the mark of the
-- wait .., and nothing else").
use Rattle.std.specs.Prelude.{ℕ, ◌≤◌, ◌<◌, ◌≡◌, ◌⊎◌}
use Rattle.card_memory.specs.Layout.{wait_mark_at, receiver_at, size}

-- an offset that is not the receiver's
abbrev pub OutsideReceiver : ℕ → Type 0
OutsideReceiver j = (j < receiver_at) ⊎ (size ≤ j)

-- one that is neither the receiver's nor that of the wait's mark
abbrev pub OutsideState : ℕ → Type 0
OutsideState j = (j ≡ wait_mark_at → ⊥) × OutsideReceiver j
