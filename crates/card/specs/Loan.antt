-- What the host lends with an octet (01, The card: "the 8-octet number lent by the host with that event"; the reply buffer).
use Rattle.std.specs.Prelude.{ℕ, ◌≤◌, ◌≡◌, Bool, ◌&&◌, List, eqb, leb, length}
use Rattle.frame.specs.Sizes.{longest_frame, number_width}

-- the number for NA2, and the length of the reply buffer, which alone of the buffer bears on what the card does
pub record Loan : Type 0 where
  pub na2 : List ℕ
  pub reply : ℕ

abbrev pub lending : List ℕ → List ℕ → Loan
lending na2 buffer = record { na2 = na2; reply = length buffer }

-- 17 where it fails: "reply or frame buffer under 128 octets, .. a lent key or number not of 8 octets"
abbrev pub usable : Loan → Bool
usable loan = eqb (length loan.na2) number_width && leb longest_frame loan.reply

-- what it tests
pub record Usable (loan : Loan) : Type 0 where
  pub eight : length loan.na2 ≡ number_width
  pub enough : longest_frame ≤ loan.reply
