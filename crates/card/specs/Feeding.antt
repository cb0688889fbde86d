-- Octets fed to a card one after the other, each with a loan of its own.
use Rattle.std.specs.Prelude.{ℕ, List, [], ◌∷◌, ◌++◌, map}
use Rattle.card.specs.declared.Card.{Card}
use Rattle.card.specs.Loan.{Loan, Usable}
use Rattle.card.specs.Parts.{Response}
use Rattle.card.specs.Events.{after_octet}

-- an octet, and what the host lends with it
pub record Handed : Type 0 where
  pub octet : ℕ
  pub loan : Loan

-- the octets of a sending
abbrev pub octets_in : List Handed → List ℕ
octets_in s = map (λ h. h.octet) s

-- what is lent with the last octet; of no octets, nothing is
abbrev pub last_loan : List Handed → Loan
last_loan [] = record { na2 = []; reply = 0 }
last_loan (h ∷ []) = h.loan
last_loan (h ∷ g ∷ s) = last_loan (g ∷ s)

-- 17 refuses no octet of the sending
abbrev pub AllUsable : List Handed → Type 0
AllUsable [] = Unit {0}
AllUsable (h ∷ s) = Usable h.loan × AllUsable s

-- what the last octet gives, each octet to the card that the last call gave back; r is what came before
unfoldable pub hearing : Response → List Handed → Response
hearing r [] = r
hearing r (h ∷ s) = hearing (after_octet r.card h.octet h.loan) s

-- the card that is left, and the reply frames in their order
pub record Fed : Type 0 where
  pub card : Card
  pub replies : List (List ℕ)

-- a call without a reply adds nothing to the list
abbrev pub listed : List ℕ → List (List ℕ)
listed [] = []
listed (o ∷ s) = (o ∷ s) ∷ []

abbrev pub before : List (List ℕ) → Fed → Fed
before l f = record { card = f.card; replies = l ++ f.replies }

-- all that the octets give
unfoldable pub fed : Card → List Handed → Fed
fed c [] = record { card = c; replies = [] }
fed c (h ∷ s) = before (listed (after_octet c h.octet h.loan).reply) (fed (after_octet c h.octet h.loan).card s)
