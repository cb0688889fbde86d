-- What settling leaves is what the outcome of a call says: of a request of any kind, and of an octet.
use Prim.Native.Nat.{ℕ}
use mathlib.Core.Path.{◌≡◌, ◌∙◌}
use mathlib.Core.List.{List}
use lib.ListN.{length, length-append, replicate}
use native.Mathlib.Omega.{arith}
use borrow.Author.Tests.{eq-eqb, ne_eqb}
use Rattle.octets.specs.Part.{part_of}
use Rattle.octets.specs.Splice.{spliced, fronted}
use Rattle.octets.proofs.Parts.{part_front}
use Rattle.octets.proofs.Splice.{take-fronted}
use Rattle.numbers.specs.Answer.{number_of}
use Rattle.numbers.specs.Table.{none}
use Rattle.tool.specs.declared.Tool.{Tool}
use Rattle.frame.specs.Sizes.{most_transferred}
use Rattle.tool.specs.Parts.{Response, Told, Gives}
use Rattle.tool_memory.specs.Decoding.{decoded}
use Rattle.tool_exports.specs.Outcomes.{stored, cell_after, shown_over, wake_mark, done_mark, request_shown, octet_shown}
use Rattle.tool_exports.specs.Settling.{Settled, SettledOctet}

pub shown_not : (n value before2 : ℕ) → (n ≡ none → ⊥) → before2 ≡ cell_after n value before2
unfolding cell_after
shown_not n value before2 h = rw (ne_eqb n none h)

pub shown_value : (n value before2 : ℕ) → n ≡ none → value ≡ cell_after n value before2
unfolding cell_after
shown_value n value before2 e = rw (eq-eqb n none e)

pub over_not : (n : ℕ) (d before2 : List ℕ) → (n ≡ none → ⊥) → before2 ≡ shown_over n d before2
unfolding shown_over
over_not n d before2 h = rw (ne_eqb n none h)

over_value : (n : ℕ) (d before2 : List ℕ) → n ≡ none → spliced before2 0 d ≡ shown_over n d before2
unfolding shown_over
over_value n d before2 e = rw (eq-eqb n none e)

module _ (q : Told) (n : ℕ) (m m' : List ℕ) (l w e : ℕ) (answered : n ≡ number_of q.answer) (memory : m' ≡ stored n q.tool m) where
  pub settled_refused : (n ≡ none → ⊥) → Settled q n m m' l l w w e e
  settled_refused h =
      record { answered = answered; memory = memory; length = shown_not n _ l h; wake = shown_not n _ w h; ended = shown_not n _ e h }

  pub settled_shown : n ≡ none → (w' e' : ℕ) → w' ≡ wake_mark q.wake → e' ≡ done_mark q.answer → Settled q n m m' l q.frame.0 w w' e e'
  settled_shown z w' e' p r =
      record {
        answered = answered;
        memory = memory;
        length = shown_value n _ l z;
        wake = p ∙ shown_value n _ w z;
        ended = r ∙ shown_value n _ e z;
      }

-- the exported request, whatever the tool's response f to it is
module _ (f : Tool → Response) (t : Tool) (m m' b b' : List ℕ) (q : Told) (n l l' w w' e e' : ℕ) where
  pub request_given : t ≡ decoded m → Gives (f t) b b' q → Settled q n m m' l l' w w' e e'
      → record { number = n; memory = m'; loan = record { frame = b'; length = l'; wake = w'; ended = e' } } ≡ request_shown (f (decoded m)) m (record { frame = b; length = l; wake = w; ended = e })
  unfolding request_shown
  request_given d g s = rw (s.memory, s.length, s.wake, s.ended, g.buffer, s.answered, g.answer, d)

module _ (q : Told) (n : ℕ) (m m' : List ℕ) (l e : ℕ) (d : List ℕ) (k : ℕ) (answered : n ≡ number_of q.answer) (memory : m' ≡ stored n q.tool m) where
  pub octet_refused : (n ≡ none → ⊥) → SettledOctet q n m m' l l e e d d k k
  octet_refused h =
      record {
        answered = answered;
        memory = memory;
        length = shown_not n _ l h;
        ended = shown_not n _ e h;
        content = over_not n _ d h;
        count = shown_not n _ k h;
      }

  pub octet_shown_lem : n ≡ none → (e' : ℕ) (d' : List ℕ) → e' ≡ done_mark q.answer → d' ≡ spliced d 0 (part_of q.contents.octets 0 q.contents.length.0) → SettledOctet q n m m' l q.frame.0 e e' d d' k q.contents.length.0
  octet_shown_lem z e' d' r v =
      record {
        answered = answered;
        memory = memory;
        length = shown_value n _ l z;
        ended = r ∙ shown_value n _ e z;
        content = v ∙ over_value n _ d z;
        count = shown_value n _ k z;
      }

-- DATA in an array with zeros after them
part_fronted : (d z : List ℕ) → part_of (fronted d z) 0 (length d) ≡ d
unfolding fronted
part_fronted d z = part_front (fronted d z) (length d) (rw length-append (omega arith)) ∙ take-fronted d z

-- the exported octet
module _ (f : Tool → Response) (t : Tool) (m m' b b' : List ℕ) (q : Told) (n l l' e e' : ℕ) (d d' : List ℕ) (k k' : ℕ) where
  pub octet_given : t ≡ decoded m → Gives (f t) b b' q → SettledOctet q n m m' l l' e e' d d' k k'
      → record { number = n; memory = m'; loan = record { frame = b'; length = l'; ended = e'; content = d'; count = k' } } ≡ octet_shown (f (decoded m)) m (record { frame = b; length = l; ended = e; content = d; count = k })
  unfolding octet_shown
  octet_given h g s =
      rw (s.memory, s.length, s.ended, s.content, s.count, g.buffer, s.answered, g.answer, h, part_fronted (f (decoded m)).contents (replicate most_transferred 0))
