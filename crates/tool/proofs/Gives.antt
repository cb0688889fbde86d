-- What `Gives` takes to show: for an equal response, and for one that sends nothing.
use mathlib.Core.Path.{◌≡◌, refl, sym, ap, ◌∙◌}
use mathlib.Core.List.{List, ◌++◌}
use native.Mathlib.Omega.{arith}
use Prim.Native.Nat.{ℕ, ◌≤◌}
use lib.ListN.{length, drop, length-append, length-drop}
use Rattle.std.proofs.lemmas.List.{append_assoc, drop-append-le, take-append-drop}
use Rattle.std.specs.Array.{IsFirstChunk}
use Rattle.octets.specs.Splice.{fronted}
use Rattle.numbers.specs.Answer.{Answer}
use Rattle.tool.specs.declared.Tool.{Tool}
use Rattle.tool.specs.Answers.{Progress}
use Rattle.tool.specs.Parts.{Response, Told, responding, finished, told, Gives}

pub gives_alike : (b a : List ℕ) (given : Told) (r q : Response) → r ≡ q → Gives r b a given → Gives q b a given
gives_alike b a given r q e g = rw e at g

-- the buffer is left
pub gives_nothing : (t : Tool) (a : Answer Progress) (b : List ℕ) (given : Told) → given ≡ told (responding t a) → Gives (responding t a) b b given
unfolding fronted
gives_nothing t a b given e = record { answer = e; buffer = refl }

pub Gives-finished : (t : Tool) (d b : List ℕ) (given : Told) → given ≡ told (finished d t) → Gives (finished d t) b b given
unfolding fronted
Gives-finished t d b given e = record { answer = e; buffer = refl }

-- what a frame leaves in the front of a buffer, with the rest of it
rest_kept : (s front back after : List ℕ) → after ≡ fronted s front → length after ≡ length front → after ++ back ≡ fronted s (front ++ back)
unfolding fronted
rest_kept s front back after e l =
    let longer = ap length e ∙ length-append s (drop (length s) front) in
    let within : length s ≤ length front = omega (arith, longer, l, length-drop (length s) front) in
    ap (λ x. x ++ back) e ∙ append_assoc s (drop (length s) front) back ∙ ap (λ x. s ++ x) (sym (drop-append-le (length s) front back within))

-- in the front of a buffer is in the buffer
pub gives_front : (n : ℕ) (b front after : List ℕ) (r : Response) (given : Told) → IsFirstChunk b front n → length after ≡ length front → Gives r front after given → Gives r b (after ++ drop n b) given
gives_front n b front after r given f l g =
    record {
      answer = g.answer;
      buffer = rest_kept r.frame front (drop n b) after g.buffer l ∙ ap (fronted r.frame) (ap (λ x. x ++ drop n b) f.same ∙ take-append-drop n b);
    }
