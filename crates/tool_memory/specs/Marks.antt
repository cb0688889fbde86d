-- The mark of the request, with its TAB and its length: which request runs, and which was the last.
use Rattle.std.specs.Prelude.{ℕ, cond, eqb}
use Rattle.numbers.specs.Counts.{in_octets}
use Rattle.wake.specs.declared.Last.{Last}
use Rattle.wake.specs.declared.Last.TheVariants.{EnqTrf, Other}
use Rattle.receiver_memory.specs.Fields.{narrowed}
use Rattle.tool.specs.declared.Phase.{Phase}
use Rattle.tool.specs.declared.Phase.TheVariants.{Idle, Reading, Transferring, Programming, Authenticating}

-- no request runs, and the last was a REC, TRB or IB, or there was none yet
abbrev pub idle_mark : ℕ
idle_mark = 0

-- the reply to ENQ, TRF, REC or AUT is awaited
abbrev pub reading_mark : ℕ
reading_mark = 1

abbrev pub transferring_mark : ℕ
transferring_mark = 2

abbrev pub programming_mark : ℕ
programming_mark = 3

abbrev pub authenticating_mark : ℕ
authenticating_mark = 4

-- no request runs, and the last was an ENQ or TRF
abbrev pub called_mark : ℕ
called_mark = 5

-- the marks up to this one are in use
abbrev pub last_mark : ℕ
last_mark = called_mark

-- A phase that every call refuses with 12, as it refuses "a state mark not in use": its length is over its limit.
abbrev pub unused : Phase
unused = Programming 0 (in_octets 255)

-- the phase that a mark, a TAB and a length stand for
unfoldable pub phase_of : ℕ → ℕ → ℕ → Phase
phase_of mark tab n =
    cond (eqb mark idle_mark) (Idle Other)
    (cond (eqb mark reading_mark) (Reading tab)
    (cond (eqb mark transferring_mark) Transferring
    (cond (eqb mark programming_mark) (Programming tab (in_octets n))
    (cond (eqb mark authenticating_mark) Authenticating
    (cond (eqb mark called_mark) (Idle EnqTrf) unused)))))

abbrev pub idle_mark_of : Last → ℕ
idle_mark_of EnqTrf = called_mark
idle_mark_of Other = idle_mark

abbrev pub mark_of : Phase → ℕ
mark_of (Idle last) = idle_mark_of last
mark_of (Reading tab) = reading_mark
mark_of Transferring = transferring_mark
mark_of (Programming tab n) = programming_mark
mark_of Authenticating = authenticating_mark

-- TAB and length of a phase. What it does not use of them is free, and stays as it was.
abbrev pub tab_of : Phase → ℕ → ℕ
tab_of (Idle last) was = was
tab_of (Reading tab) was = tab
tab_of Transferring was = was
tab_of (Programming tab n) was = tab
tab_of Authenticating was = was

abbrev pub sent_length_of : Phase → ℕ → ℕ
sent_length_of (Idle last) was = was
sent_length_of (Reading tab) was = was
sent_length_of Transferring was = was
sent_length_of (Programming tab n) was = narrowed n.0
sent_length_of Authenticating was = was
