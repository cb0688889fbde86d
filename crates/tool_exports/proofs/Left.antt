-- The memory of every outcome is the one that a call by value leaves.
use mathlib.Core.Path.{◌≡◌, refl}
use mathlib.Core.List.{List}
use Prim.Native.Nat.{ℕ}
use Rattle.tool_exports.specs.Outcomes.{request_shown, octet_shown, request_outcome, octet_outcome, event_outcome}
use Rattle.tool_exports.specs.Lists.{Export, request, octet, gap, session_end, call_of, left, memory_of}

pub memory_left : (m : List ℕ) (x : Export) → memory_of m x ≡ left m (call_of x)
unfolding request_outcome request_shown octet_outcome octet_shown event_outcome left
memory_left m (request q lent) = refl
memory_left m (octet o lent) = refl
memory_left m gap = refl
memory_left m session_end = refl
