-- What a whole good frame does to the request that runs (01, The tool).
use Rattle.std.specs.Prelude.{ℕ, Bool, true, false, cond, ◌&&◌, List, [], eqb, take, Result, Ok, Err}
use Rattle.octets.specs.Part.{same}
use Rattle.des.specs.Des.{encipher}
use Rattle.numbers.specs.Answer.{given}
use Rattle.numbers.specs.Table.{wrong_cipher, wrong_echo, unexpected_frame, rejected}
use Rattle.frame.specs.declared.codes.Command.{Command}
use Rattle.frame.specs.declared.codes.Command.TheVariants as command
use Rattle.frame.specs.declared.content.Fields.{Fields}
use Rattle.frame.specs.Building.{frame_octets}
use Rattle.wake.specs.declared.Wake.TheVariants.{None}
use Rattle.tool.specs.declared.Phase.{Phase}
use Rattle.tool.specs.declared.Phase.TheVariants.{Idle, Reading, Transferring, Programming, Authenticating}
use Rattle.tool.specs.declared.Refusal.{Refusal}
use Rattle.tool.specs.declared.Tool.{Tool}
use Rattle.tool.specs.declared.replies.Reply.{Reply}
use Rattle.tool.specs.declared.replies.Reply.TheVariants.{Dat, Ech, Eos, Drj, Arj, Tra, Other}
use Rattle.tool.specs.declared.replies.Turn as code
use Rattle.tool.specs.declared.replies.Turn.TheVariants as variant
use Rattle.tool.specs.Answers.{sent, refusal_number}
use Rattle.tool.specs.Parts.{in_phase, Response, silent, over, finished}
use Rattle.tool.specs.Requests.{fields_to, zero_number}

-- the frames that some request can expect; no request expects another
abbrev pub reply_of : Command → Reply
reply_of command.Enq = Other
reply_of command.Dat = Dat
reply_of command.Rec = Other
reply_of command.Ech = Ech
reply_of command.Aut = Other
reply_of command.Eos = Eos
reply_of command.Aso = Other
reply_of command.Rso = Other
reply_of command.Ib = Other
reply_of command.Drj = Drj
reply_of command.Arj = Arj
reply_of command.Trf = Other
reply_of command.Trb = Other
reply_of command.Tra = Tra
reply_of command.Pre = Other
reply_of command.Sel = Other

-- What a reply does: it is dropped; it ends a reading with its DATA; it ends the request without a number; it ends it with this number; or AUT follows.
pub data Turn : Type 0 where
  drop : Turn
  read : Turn
  end : Turn
  fail : ℕ → Turn
  authenticate : Turn

-- the turn that the tool takes by value
abbrev pub turn_of : Result code.Turn Refusal → Turn
turn_of (Ok variant.Drop) = drop
turn_of (Ok variant.Read) = read
turn_of (Ok variant.End) = end
turn_of (Err refusal) = fail (refusal_number refusal)
turn_of (Ok variant.Authenticate) = authenticate

-- After ENQ: DAT with the TAB asked for ends well, "another than asked ends with 14"; the negative answer, DRJ, "ends with 20 .. after ENQ".
-- "An unexpected good frame from that station for that ADP ends with 19", here and below.
abbrev pub on_reading : Reply → Bool → Turn
on_reading Dat asked = cond asked read (fail wrong_echo)
on_reading Ech asked = fail unexpected_frame
on_reading Eos asked = fail unexpected_frame
on_reading Drj asked = fail rejected
on_reading Arj asked = fail unexpected_frame
on_reading Tra asked = fail unexpected_frame
on_reading Other asked = fail unexpected_frame

-- After TRF: TRA ends well, "DRJ ends with 20".
abbrev pub on_transferring : Reply → Turn
on_transferring Dat = fail unexpected_frame
on_transferring Ech = fail unexpected_frame
on_transferring Eos = fail unexpected_frame
on_transferring Drj = fail rejected
on_transferring Arj = fail unexpected_frame
on_transferring Tra = end
on_transferring Other = fail unexpected_frame

-- After REC: ECH, and nothing else.
abbrev pub is_echo : Reply → Bool
is_echo Dat = false
is_echo Ech = true
is_echo Eos = false
is_echo Drj = false
is_echo Arj = false
is_echo Tra = false
is_echo Other = false

-- "After AUT, ARJ ends with 13; after AUT or TRF, DRJ ends with 20"; EOS ends well.
abbrev pub on_authenticating : Reply → Turn
on_authenticating Dat = fail unexpected_frame
on_authenticating Ech = fail unexpected_frame
on_authenticating Eos = end
on_authenticating Drj = fail rejected
on_authenticating Arj = fail wrong_cipher
on_authenticating Tra = fail unexpected_frame
on_authenticating Other = fail unexpected_frame

-- ZA1 = DES(Ki, NA1)
unfoldable pub enciphers : Tool → List ℕ → Bool
enciphers t za1 = same za1 (encipher t.key t.na1)

-- TAB and DATA equal those sent
unfoldable pub echoes : Tool → ℕ → ℕ → Fields → List ℕ → Bool
echoes t tab n f d = eqb f.tab tab && same d (take n t.sent)

-- "On ECH: ZA1 must equal DES(Ki, NA1) (13), then TAB and DATA must equal those sent (14); only then is AUT sent."
unfoldable pub on_echo : Tool → ℕ → ℕ → Fields → List ℕ → Turn
on_echo t tab n f d = cond (enciphers t f.za1) (cond (echoes t tab n f d) authenticate (fail wrong_echo)) (fail wrong_cipher)

-- "with no request running, frames are dropped"
unfoldable pub turn : Phase → Tool → Reply → Fields → List ℕ → Turn
turn (Idle last) t y f d = drop
turn (Reading tab) t y f d = on_reading y (eqb f.tab tab)
turn Transferring t y f d = on_transferring y
turn (Programming tab n) t y f d = cond (is_echo y) (on_echo t tab n.0 f d) (fail unexpected_frame)
turn Authenticating t y f d = on_authenticating y

-- "AUT carries zero in ZA1 and NA2K in ZA2"; it goes to the station of the request, for its ADP, without a wake-up
abbrev pub authentication : Tool → List ℕ → Fields
authentication t na2 = fields_to t.ads t.adp 0 zero_number (encipher t.key na2)

abbrev pub authenticating : List ℕ → Tool → Response
authenticating na2 t =
    record {
      tool = in_phase Authenticating t;
      answer = given sent;
      wake = None;
      frame = frame_octets command.Aut (authentication t na2) [];
      contents = [];
    }

unfoldable pub performed : Turn → Fields → List ℕ → Tool → Response
performed drop f d t = silent t
performed read f d t = finished d t
performed end f d t = finished [] t
performed (fail n) f d t = over t n
performed authenticate f d t = authenticating f.za2 t

-- from that station for that ADP
unfoldable pub expected : Tool → Fields → Bool
expected t f = same f.ads t.ads && eqb f.adp t.adp

-- "frames with another ADS or ADP, are dropped and the wait goes on"
unfoldable pub on_frame : Tool → Command → Fields → List ℕ → Response
on_frame t c f d = cond (expected t f) (performed (turn t.phase t (reply_of c) f d) f d t) (silent t)
