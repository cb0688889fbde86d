-- A history in octets. Every list of octets is one.
use Rattle.std.specs.Prelude.{ℕ, zero, suc, ◌+◌, Bool, cond, List, [], ◌∷◌, ◌++◌, eqb, leb, length, get_or, drop}
use Rattle.octets.specs.Part.{part_of}
use Rattle.numbers.specs.Counts.{in_octets}
use Rattle.card.specs.Events.{Call, octet_call, gap, session_end, meter_write}
use Rattle.history.specs.declared.calls.Call.{Call as Lent}
use Rattle.history.specs.declared.calls.Call.TheVariants as lent
use Rattle.history.specs.declared.calls.CallKind.{CallKind}
use Rattle.history.specs.declared.calls.CallKind.TheVariants as kind
use Rattle.history.specs.declared.calls.Head.{Head}

-- the octets of a call before its text
abbrev pub head_width : ℕ
head_width = 4

-- the longest reply buffer that a call can state, since the length is one octet
abbrev pub longest_lent : ℕ
longest_lent = 255

-- 0 is an octet, 1 a meter write, 2 a session end, any other kind a gap
unfoldable pub call_kind : ℕ → CallKind
call_kind n = cond (eqb n 0) kind.Octet (cond (eqb n 1) kind.MeterWrite (cond (eqb n 2) kind.SessionEnd kind.Gap))

-- whether the octets begin with a whole call
abbrev pub whole_at : List ℕ → Bool
whole_at h = leb (head_width + get_or h 3 0) (length h)

-- A call is a kind, an octet or TAB, the length of the reply buffer, the length of a text, and the text: the number lent, or data.
abbrev pub whole_head : List ℕ → Head
whole_head h = record { kind = call_kind (get_or h 0 0); argument = get_or h 1 0; reply = get_or h 2 0; size = in_octets (head_width + get_or h 3 0) }

-- one that the octets' end cuts is a gap, and takes all of them
abbrev pub cut_head : List ℕ → Head
cut_head h = record { kind = kind.Gap; argument = 0; reply = 0; size = in_octets (length h) }

unfoldable pub head_at : List ℕ → Head
head_at h = cond (whole_at h) (whole_head h) (cut_head h)

unfoldable pub text_at : List ℕ → List ℕ
text_at h = part_of h head_width (head_width + get_or h 3 0)

-- what a call does not use may be anything
unfoldable pub call_of : CallKind → ℕ → ℕ → List ℕ → Call
call_of kind.Octet argument reply text = octet_call argument (record { na2 = text; reply = reply })
call_of kind.MeterWrite argument reply text = meter_write argument text
call_of kind.SessionEnd argument reply text = session_end
call_of kind.Gap argument reply text = gap

-- the call that the octets begin with
unfoldable pub call_at : List ℕ → Call
call_at h = call_of (head_at h).kind (head_at h).argument (head_at h).reply (text_at h)

-- how many of the octets it takes
abbrev pub size_at : List ℕ → ℕ
size_at h = (head_at h).size.0

-- 00, demand 3: the call of a history that the code's call stands for
abbrev pub call_meant : Lent → Call
call_meant (lent.Octet octet na2 reply) = octet_call octet (record { na2 = na2.now; reply = reply })
call_meant (lent.MeterWrite tab text) = meter_write tab text.now
call_meant lent.SessionEnd = session_end
call_meant lent.Gap = gap

-- the first calls of the octets, at most n
unfoldable pub calls_within : ℕ → List ℕ → List Call
calls_within zero h = []
calls_within (suc n) [] = []
calls_within (suc n) (x ∷ h) = call_at (x ∷ h) ∷ calls_within n (drop (size_at (x ∷ h)) (x ∷ h))

-- each call takes an octet or more, so there are no more calls than octets
abbrev pub calls_of : List ℕ → List Call
calls_of h = calls_within (length h) h

-- the octets of one call, and of a history: what a call does not use is 0
abbrev pub packed : ℕ → ℕ → ℕ → List ℕ → List ℕ
packed kind argument reply text = kind ∷ argument ∷ reply ∷ length text ∷ text

unfoldable pub octets_of_call : Call → List ℕ
octets_of_call (octet_call o loan) = packed 0 o loan.reply loan.na2
octets_of_call (meter_write t d) = packed 1 t 0 d
octets_of_call session_end = packed 2 0 0 []
octets_of_call gap = packed 3 0 0 []

unfoldable pub octets_of_calls : List Call → List ℕ
octets_of_calls [] = []
octets_of_calls (k ∷ h) = octets_of_call k ++ octets_of_calls h
