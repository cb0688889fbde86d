-- Requests: when one is admitted, and what it sends (01, The tool).
use Rattle.std.specs.Prelude.{ℕ, ◌≡◌, ◌≤◌, Bool, true, false, cond, not, ◌&&◌, List, [], eqb, leb, length, replicate, Result, Ok, Err}
use Rattle.octets.specs.Splice.{fronted}
use Rattle.des.specs.WeakKeys.{weak}
use Rattle.numbers.specs.Answer.{given}
use Rattle.numbers.specs.Counts.{in_octets}
use Rattle.numbers.specs.Table.{none, wrong_address, too_long, broken_rule, busy, wrong_length, weak_key}
use Rattle.frame.specs.Addresses.{broadcast}
use Rattle.frame.specs.declared.codes.Command.{Command}
use Rattle.frame.specs.declared.codes.Command.TheVariants as command
use Rattle.frame.specs.declared.content.Fields.{Fields}
use Rattle.frame.specs.Building.{frame_octets}
use Rattle.wake.specs.declared.Last.TheVariants.{Other}
use Rattle.wake.specs.declared.Request.{Request}
use Rattle.wake.specs.declared.Request.TheVariants.{Enq, Trf, Rec, Trb, Ib}
use Rattle.wake.specs.Rule as wake
use Rattle.tool.specs.declared.Phase.{Phase}
use Rattle.tool.specs.declared.Phase.TheVariants.{Idle, Reading, Transferring, Programming}
use Rattle.tool.specs.declared.Refusal.{Refusal}
use Rattle.tool.specs.declared.Tool.{Tool}
use Rattle.tool.specs.declared.requests.Lent.{Lent}
use Rattle.tool.specs.declared.requests.Arguments.{Arguments}
use Rattle.frame.specs.Sizes.{address_width, number_width, most_programmed, most_transferred, longest_frame}
use Rattle.tool.specs.Answers.{Progress, sent, done, refusal_number}
use Rattle.tool.specs.Parts.{idle, last_of, in_phase, with_waking, Response, refusing}
use Rattle.tool.specs.Soundness.{sound}

-- A request with its arguments. "A request comes with its ADP and, for programming, key and NA1."
pub record Asking : Type 0 where
  pub request : Request
  pub ads : List ℕ
  pub adp : ℕ
  pub tab : ℕ
  pub content : List ℕ
  pub key : List ℕ
  pub na1 : List ℕ

-- the same from the arguments as they are lent, and from those by value
abbrev pub asking_lent : Lent → Asking
asking_lent l =
    record { request = l.request; ads = l.ads.now; adp = l.adp; tab = l.tab; content = l.«data».now; key = l.key.now; na1 = l.na1.now }

abbrev pub asking_of : Arguments → Asking
asking_of a = record { request = a.request; ads = a.ads; adp = a.adp; tab = a.tab; content = a.«data».now; key = a.key; na1 = a.na1 }

abbrev pub zero_number : List ℕ
zero_number = replicate number_width 0

-- read, transfer, program, broadcast, initialise; a request without key and NA1 has zeros for them
abbrev pub reading : List ℕ → ℕ → ℕ → Asking
reading ads adp tab =
    record { request = Enq; ads = ads; adp = adp; tab = tab; content = []; key = zero_number; na1 = zero_number }

abbrev pub transferring : List ℕ → ℕ → ℕ → List ℕ → Asking
transferring ads adp tab d =
    record { request = Trf; ads = ads; adp = adp; tab = tab; content = d; key = zero_number; na1 = zero_number }

abbrev pub programming : List ℕ → ℕ → ℕ → List ℕ → List ℕ → List ℕ → Asking
programming ads adp tab d key na1 =
    record { request = Rec; ads = ads; adp = adp; tab = tab; content = d; key = key; na1 = na1 }

abbrev pub broadcasting : List ℕ → ℕ → ℕ → List ℕ → Asking
broadcasting ads adp tab d =
    record { request = Trb; ads = ads; adp = adp; tab = tab; content = d; key = zero_number; na1 = zero_number }

abbrev pub initialising : List ℕ → ℕ → Asking
initialising ads adp =
    record { request = Ib; ads = ads; adp = adp; tab = 0; content = []; key = zero_number; na1 = zero_number }

-- the frames that they send
abbrev pub sent_command : Request → Command
sent_command Enq = command.Enq
sent_command Trf = command.Trf
sent_command Rec = command.Rec
sent_command Trb = command.Trb
sent_command Ib = command.Ib

-- "Point-to-point requests refuse a broadcast address, broadcast requests any other (6)"
abbrev pub broadcasts : Request → Bool
broadcasts Enq = false
broadcasts Trf = false
broadcasts Rec = false
broadcasts Trb = true
broadcasts Ib = true

abbrev pub addressable : Request → List ℕ → Bool
addressable r ads = cond (broadcasts r) (broadcast ads) (not (broadcast ads))

-- 02, E5: "the tool's programming request" has a weak key; the other requests have no key to test
abbrev pub weakly_keyed : Request → List ℕ → Bool
weakly_keyed Enq key = false
weakly_keyed Trf key = false
weakly_keyed Rec key = weak key
weakly_keyed Trb key = false
weakly_keyed Ib key = false

-- "then DATA over 100 (program) or 116 (7)"; ENQ and IB have none
abbrev pub limit_of : Request → ℕ
limit_of Enq = 0
limit_of Trf = most_transferred
limit_of Rec = most_programmed
limit_of Trb = most_transferred
limit_of Ib = 0

-- 17: "frame buffer under 128 octets, .. a lent key or number not of 8 octets, an address not of 6"; of the buffer its length
abbrev pub lent_rightly : List ℕ → List ℕ → List ℕ → ℕ → Bool
lent_rightly ads key na1 buffer_length =
    eqb (length ads) address_width && (eqb (length key) number_width && (eqb (length na1) number_width && leb longest_frame buffer_length))

-- the number that a request is refused with of which all is lent rightly, or none: 12, 16, 6, 21, 7; 02, E5: 21 "in the tool after 6 and before 7"
unfoldable pub admission : Tool → Asking → ℕ
admission t q =
    cond (sound t)
    (cond (idle t.phase)
    (cond (addressable q.request q.ads)
    (cond (weakly_keyed q.request q.key) weak_key
    (cond (leb (length q.content) (limit_of q.request)) none too_long))
    wrong_address)
    busy)
    broken_rule

abbrev pub number_of_admission : Result (Unit {0}) Refusal → ℕ
number_of_admission (Ok unit) = none
number_of_admission (Err refusal) = refusal_number refusal

abbrev pub fields_to : List ℕ → ℕ → ℕ → List ℕ → List ℕ → Fields
fields_to ads adp tab za1 za2 = record { ads = ads; adp = adp; za1 = za1; za2 = za2; tab = tab; announced = replicate address_width 0 }

-- "REC carries NA1 in ZA1 and zero in ZA2"
abbrev pub request_fields : Asking → Fields
request_fields q = fields_to q.ads q.adp q.tab q.na1 zero_number

-- the tool that waits for a reply from the station of the request, for its ADP
abbrev pub waiting : Phase → List ℕ → ℕ → Tool → Tool
waiting p ads adp t =
    record { phase = p; ads = ads; adp = adp; key = t.key; na1 = t.na1; sent = t.sent; waking = t.waking; receiver = t.receiver }

-- what a programming request keeps for its replies; sent begins with its DATA
abbrev pub keeping : List ℕ → List ℕ → List ℕ → Tool → Tool
keeping key na1 kept t =
    record { phase = t.phase; ads = t.ads; adp = t.adp; key = key; na1 = na1; sent = kept; waking = t.waking; receiver = t.receiver }

-- The tool whose request was sent. "Broadcast and initialise are done once sent": no request runs after them.
abbrev pub running : Request → Asking → Tool → Tool
running Enq q t = waiting (Reading q.tab) q.ads q.adp t
running Trf q t = waiting Transferring q.ads q.adp t
running Rec q t =
    keeping q.key q.na1 (fronted q.content t.sent)
    (waiting (Programming q.tab (in_octets (length q.content))) q.ads q.adp t)
running Trb q t = in_phase (Idle Other) t
running Ib q t = in_phase (Idle Other) t

abbrev pub progress_of : Request → Progress
progress_of Enq = sent
progress_of Trf = sent
progress_of Rec = sent
progress_of Trb = done
progress_of Ib = done

abbrev pub asked : Asking → Tool → Tool
asked q t = with_waking (wake.asked (last_of t.phase) t.waking q.request q.ads) (running q.request q t)

-- the request's frame, and the wake-up before it
abbrev pub sending : Asking → Tool → Response
sending q t =
    record {
      tool = asked q t;
      answer = given (progress_of q.request);
      wake = wake.wake_before (last_of t.phase) t.waking q.request q.ads;
      frame = frame_octets (sent_command q.request) (request_fields q) q.content;
      contents = [];
    }

-- a refused request leaves the tool and the buffer
unfoldable pub unless_refused : ℕ → Tool → Response → Response
unless_refused number t r = cond (eqb number none) r (refusing t number)

-- "so 17, 12, 16, 6, 7", with 21 between the last two
unfoldable pub after_asking : Tool → Asking → ℕ → Response
after_asking t q buffer_length =
    cond (lent_rightly q.ads q.key q.na1 buffer_length)
    (unless_refused (admission t q) t (sending q t))
    (refusing t wrong_length)

-- For private functions alone (01, The tool): the arguments by value of what is lent rightly
pub record Sized (q : Asking) (a : Arguments) : Type 0 where
  pub lent : lent_rightly q.ads q.key q.na1 longest_frame ≡ true
  pub asking : asking_of a ≡ q

-- For private functions alone (01, The tool): a request that is not refused, with its arguments by value: its DATA are within its limit, and it is sent
pub record Accepted (t : Tool) (q : Asking) (a : Arguments) : Type 0 where
  pub content : length a.«data».now ≤ limit_of a.request
  pub response : after_asking t q longest_frame ≡ sending (asking_of a) t
