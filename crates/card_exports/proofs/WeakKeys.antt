-- Weak keys in card memory (02, E5): every call but setup gets 12 on memory that holds one, and leaves it.
use Prim.Native.Nat.{ℕ, ◌≤◌}
use mathlib.Core.Path.{◌≡◌, refl}
use mathlib.Core.Bool.{Bool, true, false, ◌&&◌}
use mathlib.Core.List.{List}
use lib.ListN.{length}
use borrow.Author.Tests.{le-leb}
use Rattle.des.specs.WeakKeys.{weak}
use Rattle.numbers.specs.Table.{broken_rule}
use Rattle.receiver_memory.specs.Fields.{field_at}
use Rattle.card.specs.Events.{Call}
use Rattle.card.proofs.WeakKeys.{weak_unsound}
use Rattle.card_memory.specs.Layout.{key_at, key_size, size}
use Rattle.card_memory.specs.Decoding.{decoded}
use Rattle.card_memory.specs.Legibility.{legible}
use Rattle.card_exports.specs.Outcome.{refused, sound_memory, lent_right, call_outcome}
use Rattle.card_exports.specs.Observing.{unshown, read_outcome}
use Rattle.card_exports.proofs.Calls.{unsound}

module _ (m : List ℕ) (long : size ≤ length m) where
  -- memory that holds a weak key
  module _ (w : weak (field_at key_size m key_at) ≡ true) where
    weak_memory : sound_memory m ≡ false
    unfolding sound_memory decoded
    weak_memory = rw (weak_unsound (decoded m) w) (go (legible m))
      where
        go : (b : Bool) → (b && false) ≡ false
        go true = refl
        go false = refl

    -- an octet, a gap, a session end and a meter write get 12
    pub weak_called : (k : Call) → lent_right k ≡ true → call_outcome m k ≡ refused broken_rule m
    weak_called k lent = unsound m long k lent weak_memory

    -- and so does a reading
    pub weak_read : (tab : ℕ) (before : List ℕ) (cell : ℕ) → read_outcome m tab before cell ≡ unshown broken_rule before cell
    unfolding read_outcome
    weak_read tab before cell = rw (le-leb size (length m) long, weak_memory)
