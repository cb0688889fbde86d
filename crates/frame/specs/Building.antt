-- The octets of a frame, and what building one gives and leaves in the lent buffer.
use Rattle.std.specs.Prelude.{ℕ, ◌≡◌, List, [], ◌∷◌, ◌++◌, Result, Ok, Err, cond, length, take, leb}
use Rattle.octets.specs.Splice.{spliced, fronted}
use Rattle.crc.specs.AnnexE.{check_key_octets}
use Rattle.numbers.specs.Table.{too_long, wrong_length}
use Rattle.numbers.specs.Counts.{in_octets}
use Rattle.numbers.specs.Answer.{Answer, given, refused}
use Rattle.numbers.specs.declared.Octets.{Octets}
use Rattle.frame.specs.declared.codes.Command.{Command}
use Rattle.frame.specs.declared.layout.Layout.{Layout}
use Rattle.frame.specs.declared.content.Fields.{Fields}
use Rattle.frame.specs.declared.builder.Refusal.{Refusal}
use Rattle.frame.specs.declared.builder.Refusal.TheVariants.{Buffer, Data}
use Rattle.frame.specs.Sizes.{longest_frame}
use Rattle.frame.specs.Codes.{code_of}
use Rattle.frame.specs.Layout.{layout_of, whole_length, within}
use Rattle.frame.specs.Content.{turned, on_wire}

-- 01, Numbers handed back
abbrev pub refusal_number : Refusal → ℕ
refusal_number Buffer = wrong_length
refusal_number Data = too_long

abbrev pub answer_of_built : Result Octets Refusal → Answer Octets
answer_of_built (Ok octets) = given octets
answer_of_built (Err refusal) = refused (refusal_number refusal)

-- N, ADS, ADP and COM
unfoldable pub head_of : ℕ → List ℕ → ℕ → ℕ → List ℕ
head_of n ads adp code = n ∷ (turned ads ++ (adp ∷ code ∷ []))

-- ZA1, ZA2, TAB and RSO's second ADS, those that the layout has
unfoldable pub fixed_of : Layout → Fields → List ℕ
fixed_of l f =
    on_wire l.za1 f.za1 ++ (on_wire l.za2 f.za2 ++ (on_wire l.tab (f.tab ∷ []) ++ on_wire l.announced f.announced))

-- a frame up to its CRC: the fields in ascending order (004 4.4.8), DATA as an octet string
unfoldable pub body_of : Command → Fields → List ℕ → List ℕ
body_of c f d =
    head_of (whole_length (layout_of c) (length d)) f.ads f.adp (code_of c) ++ (fixed_of (layout_of c) f ++ d)

-- a whole frame; the CRC is over all octets from N on, and its low octet is sent first
unfoldable pub frame_octets : Command → Fields → List ℕ → List ℕ
frame_octets c f d = body_of c f d ++ check_key_octets (body_of c f d)

-- a buffer whose first octets up to end are followed by their CRC
abbrev pub closed : List ℕ → ℕ → List ℕ
closed b end = spliced b end (check_key_octets (take end b))

pub record Outcome : Type 0 where
  pub answer : Answer Octets
  pub buffer : List ℕ

-- no frame, for the reason of this number; the buffer stays
abbrev pub refused_with : ℕ → List ℕ → Outcome
refused_with n b = record { answer = refused n; buffer = b }

-- a frame over the front of the buffer; the octets past it stay
abbrev pub laid_over : List ℕ → List ℕ → Outcome
laid_over s b = record { answer = given (in_octets (length s)); buffer = fronted s b }

-- 01, Numbers handed back: 17 first, a buffer under 128 octets; then 7, DATA too long, or for ASO no TABi; else the frame over the buffer's front
unfoldable pub built : List ℕ → Command → Fields → List ℕ → Outcome
built b c f d =
    cond (leb longest_frame (length b))
    (cond (within (layout_of c) (length d)) (laid_over (frame_octets c f d) b) (refused_with too_long b))
    (refused_with wrong_length b)

-- For private functions of the card and the tool alone: what sending a frame leaves in the lent buffer, and its length.
pub record Sends (frame before after : List ℕ) (sent : Octets) : Type 0 where
  pub octets : sent ≡ in_octets (length frame)
  pub buffer : after ≡ fronted frame before
