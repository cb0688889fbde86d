-- Lists of good frames, fed to a card octet for octet (01, The card: "Taking out all frames that the card doesn't take from a list of good frames,
-- with the numbers lent for them, leaves the same records and replies.").
use Rattle.std.specs.Prelude.{ℕ, ◌≡◌, Bool, false, cond, List, [], ◌∷◌, Option, is_some}
use Rattle.frame.specs.declared.codes.Command.{Command}
use Rattle.numbers.specs.Answer.{Answer, given, refused, refused_at}
use Rattle.frame.specs.Checks.{inspected}
use Rattle.frame.specs.Content.{fields_of}
use Rattle.card.specs.declared.Card.{Card}
use Rattle.card.specs.declared.taking.Taken.{Taken}
use Rattle.card.specs.Taking.{taken_for}
use Rattle.card.specs.Feeding.{Handed, octets_in, AllUsable, Fed, before, fed}

-- a good frame, octet for octet, with a loan for each that 17 does not refuse
pub record GoodSending (s : List Handed) : Type 0 where
  pub command : Command
  pub good : inspected (octets_in s) ≡ given command
  pub lent : AllUsable s

abbrev pub AllGood : List (List Handed) → Type 0
AllGood [] = Unit {0}
AllGood (s ∷ l) = GoodSending s × AllGood l

-- one sending after the other
unfoldable pub fed_all : Card → List (List Handed) → Fed
fed_all c [] = record { card = c; replies = [] }
fed_all c (s ∷ l) = before (fed c s).replies (fed_all (fed c s).card l)

abbrev pub is_taken : Option Taken → Bool
is_taken = is_some

unfoldable pub taken_as : Answer Command → List ℕ → List ℕ → Bool
taken_as (given command) own frame = is_taken (taken_for own command (fields_of command frame).ads)
taken_as (refused number) own frame = false
taken_as (refused_at number offset) own frame = false

-- the frames that a card with this address takes
unfoldable pub taken_only : List ℕ → List (List Handed) → List (List Handed)
taken_only own [] = []
taken_only own (s ∷ l) = cond (taken_as (inspected (octets_in s)) own (octets_in s)) (s ∷ taken_only own l) (taken_only own l)

-- the same records, the same exchange and the same replies
pub record Alike (a b : Fed) : Type 0 where
  pub records : a.card.records ≡ b.card.records
  pub exchange : a.card.exchange ≡ b.card.exchange
  pub replies : a.replies ≡ b.replies
