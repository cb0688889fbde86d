-- Octets from the bus one after the other.
use Rattle.std.specs.Prelude.{ℕ, ◌≤◌, List, [], ◌∷◌}
use Rattle.tool.specs.declared.Tool.{Tool}
use Rattle.frame.specs.Sizes.{longest_frame}
use Rattle.tool.specs.Parts.{Response}
use Rattle.tool.specs.Events.{octet_call, after}

-- an octet with the length of the frame buffer that is lent with it
pub record Handed : Type 0 where
  pub octet : ℕ
  pub buffer_length : ℕ

abbrev pub octets_in : List Handed → List ℕ
octets_in [] = []
octets_in (x ∷ s) = x.octet ∷ octets_in s

-- every buffer is long enough
abbrev pub AllEnough : List Handed → Type 0
AllEnough [] = Unit {0}
AllEnough (x ∷ s) = (longest_frame ≤ x.buffer_length) × AllEnough s

-- the response to each octet, each given the tool that the last one gave back
unfoldable pub responses_to : Tool → List Handed → List Response
responses_to t [] = []
responses_to t (x ∷ s) = after t (octet_call x.octet x.buffer_length) ∷ responses_to (after t (octet_call x.octet x.buffer_length)).tool s
