-- For the private functions `settle` alone: what each leaves besides the frame, part by part, for what the tool told. No promise of an exported call uses these.
use Rattle.std.specs.Prelude.{ℕ, ◌≡◌, List}
use Rattle.octets.specs.Part.{part_of}
use Rattle.numbers.specs.Answer.{number_of}
use Rattle.tool.specs.Parts.{Told}
use Rattle.tool_exports.specs.Outcomes.{stored, cell_after, shown_over, wake_mark, done_mark}

-- a request
pub record Settled (q : Told) (number : ℕ) (m m' : List ℕ) (l l' w w' e e' : ℕ) : Type 0 where
  pub answered : number ≡ number_of q.answer
  pub memory : m' ≡ stored number q.tool m
  pub length : l' ≡ cell_after number q.frame.0 l
  pub wake : w' ≡ cell_after number (wake_mark q.wake) w
  pub ended : e' ≡ cell_after number (done_mark q.answer) e

-- an octet
pub record SettledOctet (q : Told) (number : ℕ) (m m' : List ℕ) (l l' e e' : ℕ) (d d' : List ℕ) (k k' : ℕ) : Type 0 where
  pub answered : number ≡ number_of q.answer
  pub memory : m' ≡ stored number q.tool m
  pub length : l' ≡ cell_after number q.frame.0 l
  pub ended : e' ≡ cell_after number (done_mark q.answer) e
  pub content : d' ≡ shown_over number (part_of q.contents.octets 0 q.contents.length.0) d
  pub count : k' ≡ cell_after number q.contents.length.0 k
