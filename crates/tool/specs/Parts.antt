-- A tool with one of its parts another, and what a call gives.
use Rattle.std.specs.Prelude.{ℕ, ◌≡◌, Bool, true, false, List, [], length, replicate}
use Rattle.octets.specs.Splice.{fronted}
use Rattle.numbers.specs.Answer.{Answer, given, refused}
use Rattle.numbers.specs.Counts.{in_octets}
use Rattle.numbers.specs.declared.Octets.{Octets}
use Rattle.receiver.specs.declared.Receiver.{Receiver}
use Rattle.receiver.specs.Receiver as receiver
use Rattle.wake.specs.declared.Wake.{Wake}
use Rattle.wake.specs.declared.Wake.TheVariants.{None}
use Rattle.wake.specs.declared.Last.{Last}
use Rattle.wake.specs.declared.Last.TheVariants.{EnqTrf, Other}
use Rattle.wake.specs.declared.WakeUps.{WakeUps}
use Rattle.wake.specs.Rule as wake
use Rattle.tool.specs.declared.Phase.{Phase}
use Rattle.tool.specs.declared.Phase.TheVariants.{Idle, Reading, Transferring, Programming, Authenticating}
use Rattle.tool.specs.declared.Tool.{Tool}
use Rattle.tool.specs.declared.Answered.{Answered}
use Rattle.tool.specs.declared.Requested.{Requested}
use Rattle.tool.specs.declared.Contents.{Contents}
use Rattle.tool.specs.declared.Heard.{Heard}
use Rattle.frame.specs.Sizes.{address_width, number_width, most_transferred}
use Rattle.tool.specs.Answers.{Progress, nothing, done, answer_of}

-- no request runs
abbrev pub idle : Phase → Bool
idle (Idle last) = true
idle (Reading tab) = false
idle Transferring = false
idle (Programming tab n) = false
idle Authenticating = false

-- the last request: the one that runs, or the one before
abbrev pub last_of : Phase → Last
last_of (Idle last) = last
last_of (Reading tab) = EnqTrf
last_of Transferring = EnqTrf
last_of (Programming tab n) = Other
last_of Authenticating = Other

-- no request runs, the receiver is empty, and there was no request yet; the rest is free, and zero
abbrev pub fresh : Tool
fresh =
    record {
      phase = Idle Other;
      ads = replicate address_width 0;
      adp = 0;
      key = replicate number_width 0;
      na1 = replicate number_width 0;
      sent = replicate most_transferred 0;
      waking = wake.fresh;
      receiver = receiver.fresh;
    }

abbrev pub in_phase : Phase → Tool → Tool
in_phase p t =
    record { phase = p; ads = t.ads; adp = t.adp; key = t.key; na1 = t.na1; sent = t.sent; waking = t.waking; receiver = t.receiver }

abbrev pub with_receiver : Receiver → Tool → Tool
with_receiver r t =
    record { phase = t.phase; ads = t.ads; adp = t.adp; key = t.key; na1 = t.na1; sent = t.sent; waking = t.waking; receiver = r }

abbrev pub with_waking : WakeUps → Tool → Tool
with_waking w t =
    record { phase = t.phase; ads = t.ads; adp = t.adp; key = t.key; na1 = t.na1; sent = t.sent; waking = w; receiver = t.receiver }

-- no request runs any more; the one that ran was the last
abbrev pub ended : Tool → Tool
ended t = in_phase (Idle (last_of t.phase)) t

-- the request has ended without a number, hence succeeded
abbrev pub ended_well : Tool → Tool
ended_well t = with_waking (wake.succeeded (last_of t.phase) t.waking) (ended t)

-- The next tool and what the host is told; the wake-up that goes before the frame; the octets of the frame, none where nothing is sent; and
-- the DATA of a reading that has ended well.
pub record Response : Type 0 where
  pub tool : Tool
  pub answer : Answer Progress
  pub wake : Wake
  pub frame : List ℕ
  pub contents : List ℕ

-- nothing is sent and nothing is read
abbrev pub responding : Tool → Answer Progress → Response
responding t a = record { tool = t; answer = a; wake = None; frame = []; contents = [] }

abbrev pub silent : Tool → Response
silent t = responding t (given nothing)

abbrev pub refusing : Tool → ℕ → Response
refusing t n = responding t (refused n)

-- the request is over, with this number
abbrev pub over : Tool → ℕ → Response
over t n = refusing (ended t) n

-- the request has ended without a number, with these DATA where it is a reading
abbrev pub finished : List ℕ → Tool → Response
finished d t = record { tool = ended_well t; answer = given done; wake = None; frame = []; contents = d }

-- What a call tells by value, in 01's terms: of the frame its length, since the octets stand in the lent buffer.
pub record Told : Type 0 where
  pub tool : Tool
  pub answer : Answer Progress
  pub wake : Wake
  pub frame : Octets
  pub contents : Contents

abbrev pub padded_contents : List ℕ → Contents
padded_contents d = record { octets = fronted d (replicate most_transferred 0); length = in_octets (length d) }

abbrev pub told : Response → Told
told r =
    record { tool = r.tool; answer = r.answer; wake = r.wake; frame = in_octets (length r.frame); contents = padded_contents r.contents }

-- nothing is sent, and these contents were read
abbrev pub unsent : Tool → Answer Progress → Contents → Told
unsent t a c = record { tool = t; answer = a; wake = None; frame = in_octets 0; contents = c }

-- what each call's value says of these; what it does not carry is none
abbrev pub answer_of_answered : Answered → Told
answer_of_answered a = unsent a.tool (answer_of a.answer) (padded_contents [])

abbrev pub answer_of_requested : Requested → Told
answer_of_requested a = record { tool = a.tool; answer = answer_of a.answer; wake = a.wake; frame = a.frame; contents = padded_contents [] }

abbrev pub answer_of_heard : Heard → Told
answer_of_heard a = record { tool = a.tool; answer = answer_of a.answer; wake = a.wake; frame = a.frame; contents = a.contents }

-- What a call with a lent buffer tells and leaves: the response, and the response's frame over the front of the buffer.
pub record Gives (r : Response) (before after : List ℕ) (given : Told) : Type 0 where
  pub answer : given ≡ told r
  pub buffer : after ≡ fronted r.frame before
