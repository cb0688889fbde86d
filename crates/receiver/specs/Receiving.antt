-- Octets, gaps and session ends into frames, on lists: 01, Receiving. Nothing here speaks of how a receiver is stored.
use Rattle.std.specs.Prelude.{ℕ, ◌≤◌, ◌≡◌, List, [], ◌∷◌, ◌++◌, cond, length, get_or, ltb}
use Rattle.numbers.specs.Table.{cut_frame}
use Rattle.numbers.specs.Answer.{Answer, given, refused, refused_at}
use Rattle.numbers.specs.declared.Octets.{Octets}
use Rattle.frame.specs.declared.codes.Command.{Command}
use Rattle.frame.specs.Sizes.{shortest_frame, longest_frame}
use Rattle.frame.specs.Checks.{stated_by, judged}

-- What has come of the present frame: nothing, so that the next octet is an N; a bad N, so that octets are skipped; or these octets, N first.
pub data Reception : Type 0 where
  awaiting : Reception
  skipping : Reception
  partial : List ℕ → Reception

-- What an event gives: nothing; a frame that is dropped with its number, 1 to 5; or a good frame with its octets.
pub data Outcome : Type 0 where
  silent_outcome : Outcome
  dropped_outcome : ℕ → Outcome
  complete_outcome : Command → List ℕ → Outcome

pub record Step : Type 0 where
  pub next : Reception
  pub outcome : Outcome

abbrev pub to : Reception → Outcome → Step
to h o = record { next = h; outcome = o }

-- "The first octet is N. If the whole length it states is under 11 or over 128, answer 1: all octets are skipped until a gap event"
unfoldable pub begun : Answer Octets → ℕ → Step
begun (given whole) n = to (partial (n ∷ [])) silent_outcome
begun (refused number) n = to skipping (dropped_outcome number)
begun (refused_at number offset) n = to skipping (dropped_outcome number)

unfoldable pub judged_outcome : Answer Command → List ℕ → Outcome
judged_outcome (given c) s = complete_outcome c s
judged_outcome (refused number) s = dropped_outcome number
judged_outcome (refused_at number offset) s = dropped_outcome number

-- "When the whole length has come, checks run in this order"
abbrev pub verdict_on : List ℕ → Outcome
verdict_on s = judged_outcome (judged s) s

-- "After any complete frame, good or bad, the next octet is an N."
unfoldable pub grown : List ℕ → Step
grown s = cond (ltb (length s) (get_or s 0 0)) (to (partial s) silent_outcome) (to awaiting (verdict_on s))

unfoldable pub on_octet : ℕ → Reception → Step
on_octet o awaiting = begun (stated_by o) o
on_octet o skipping = to skipping silent_outcome
on_octet o (partial s) = grown (s ++ (o ∷ []))

-- "until a gap event, which gives no number of its own"; "A gap inside a frame answers 3." "A gap between frames does nothing."
unfoldable pub on_gap : Reception → Step
on_gap awaiting = to awaiting silent_outcome
on_gap skipping = to awaiting silent_outcome
on_gap (partial s) = to awaiting (dropped_outcome cut_frame)

-- 01, The card: a session end "empties the receiver, which then awaits an N".
unfoldable pub on_session_end : Reception → Step
on_session_end h = to awaiting silent_outcome

-- What octets that come one after the other give, one outcome for each, and what has then come of the present frame.
pub record Course : Type 0 where
  pub outcomes : List Outcome
  pub last : Reception

abbrev pub leading_with : Outcome → Course → Course
leading_with o c = record { outcomes = o ∷ c.outcomes; last = c.last }

unfoldable pub on_octets : List ℕ → Reception → Course
on_octets [] h = record { outcomes = []; last = h }
on_octets (o ∷ s) h = leading_with (on_octet o h).outcome (on_octets s (on_octet o h).next)

-- The octets of a frame whose whole length has come: as many as N states, and an N that answer 1 does not refuse.
pub record WholeFrame (f : List ℕ) : Type 0 where
  pub least : shortest_frame ≤ length f
  pub most : length f ≤ longest_frame
  pub stated : get_or f 0 0 ≡ length f
