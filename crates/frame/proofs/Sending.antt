-- Building a frame in a buffer that holds the longest one, with an amount of DATA that its command can have sends it: neither refusal of the builder can come.
use Prim.Native.Nat.{ℕ, ◌≤◌}
use mathlib.Core.Path.{◌≡◌, sym, ap, ◌∙◌}
use mathlib.Core.Bool.{true}
use mathlib.Core.List.{List}
use lib.ListN.{length}
use Rattle.octets.proofs.Impossible.{impossible}
use Rattle.numbers.specs.Counts.{in_octets}
use Rattle.numbers.specs.Answer.{given, refused}
use Rattle.numbers.specs.declared.Octets.{Octets}
use Rattle.frame.specs.declared.codes.Command.{Command}
use Rattle.frame.specs.declared.content.Fields.{Fields}
use Rattle.frame.specs.declared.builder.Refusal.{Refusal}
use Rattle.std.specs.Prelude.{Result, Ok, Err}
use Rattle.frame.specs.Sizes.{longest_frame}
use Rattle.frame.specs.Layout.{layout_of, within}
use Rattle.frame.specs.Building.{refusal_number, answer_of_built, frame_octets, laid_over, built, Sends}
use Rattle.frame.proofs.RoundTrip.{built_made}

module _ (b : List ℕ) (k : Command) (f : Fields) (d : List ℕ) (capacity : longest_frame ≤ length b) (amount : within (layout_of k) (length d) ≡ true) where
  made : built b k f d ≡ laid_over (frame_octets k f d) b
  made = built_made b k f d capacity amount

  module _ (answer : Result Octets Refusal) (after : List ℕ) (e : answer_of_built answer ≡ (built b k f d).answer) (l : after ≡ (built b k f d).buffer) where
    pub sends : (sent : Octets) → answer ≡ Ok sent → Sends (frame_octets k f d) b after sent
    sends sent h =
        let z : given sent ≡ given (in_octets (length (frame_octets k f d))) = sym (ap answer_of_built h) ∙ e ∙ ap (λ o. o.answer) made in
        record { octets = cc; buffer = l ∙ ap (λ o. o.buffer) made }

    pub never_refused : {X : Type 0} (refusal : Refusal) → answer ≡ Err refusal → X
    never_refused refusal h =
        let z : refused (refusal_number refusal) ≡ given (in_octets (length (frame_octets k f d))) = sym (ap answer_of_built h) ∙ e ∙ ap (λ o. o.answer) made in
        impossible (cc)
