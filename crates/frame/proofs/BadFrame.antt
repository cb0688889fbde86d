-- A frame is refused with one of 1 to 5, and never with an offset.
use Prim.Native.Nat.{ℕ, ◌≤◌}
use mathlib.Core.Bool.{Bool, true, false, cond}
use mathlib.Core.List.{List, [], ◌∷◌}
use lib.Dec.{eqb, lit≤}
use lib.ListN.{length, get_or}
use Rattle.octets.specs.Between.{between}
use Rattle.crc.specs.AnnexE.{divides}
use Rattle.numbers.specs.Table.{length_out_of_range, impossible_length}
use Rattle.numbers.specs.Answer.{Answer, given, refused, refused_at, when_given}
use Rattle.frame.specs.declared.codes.Command.{Command}
use Rattle.frame.specs.Sizes.{shortest_frame, longest_frame, com_at}
use Rattle.frame.specs.Codes.{code_of, commands, among, command_of}
use Rattle.frame.specs.Layout.{layout_of, can_have}
use Rattle.frame.specs.Checks.{stated_by, judged, judged_as, inspected, inspected_as}

-- 01, Numbers handed back: "1, 2, 3, 4, 5", "bad frame"
pub record OfBadFrame (number : ℕ) : Type 0 where
  pub least : length_out_of_range ≤ number
  pub most : number ≤ impossible_length

-- an answer that is values, or a number of a bad frame
abbrev pub OnFrame : {Values : Type 0} → Answer Values → Type 0
OnFrame (given values) = Unit {0}
OnFrame (refused number) = OfBadFrame number
OnFrame (refused_at number offset) = ⊥

either : {Values : Type 0} (b : Bool) (first second : Answer Values) → OnFrame first → OnFrame second → OnFrame (cond b first second)
either true first second f s = f
either false first second f s = s

in_turn : {First Second : Type 0} (a : Answer First) (next : First → Answer Second) → OnFrame a → ((v : First) → OnFrame (next v)) → OnFrame (when_given a next)
unfolding when_given
in_turn (given v) next h k = k v
in_turn (refused number) next h k = h
in_turn (refused_at number offset) next h k = h

pub stated_on_frame : (n : ℕ) → OnFrame (stated_by n)
unfolding stated_by
stated_on_frame n = either (between shortest_frame longest_frame n) _ _ tt (record { least = lit≤ tt; most = lit≤ tt })

pub command_on_frame : (code : ℕ) → OnFrame (command_of code)
unfolding command_of among
command_on_frame code = go commands
  where
    go : (cs : List Command) → OnFrame (among cs code)
    go [] = record { least = lit≤ tt; most = lit≤ tt }
    go (c ∷ cs) = either (eqb (code_of c) code) _ _ tt (go cs)

pub judged_on_frame : (s : List ℕ) → OnFrame (judged s)
unfolding judged judged_as
judged_on_frame s =
    either (divides s) _ _
    (in_turn (command_of (get_or s com_at 0)) (judged_as s) (command_on_frame (get_or s com_at 0)) (λ c. either (can_have (layout_of c) (length s)) _ _ tt (record { least = lit≤ tt; most = lit≤ tt })))
    (record { least = lit≤ tt; most = lit≤ tt })

pub inspected_on_frame : (s : List ℕ) → OnFrame (inspected s)
unfolding inspected inspected_as
inspected_on_frame [] = record { least = lit≤ tt; most = lit≤ tt }
inspected_on_frame (n ∷ s) =
    in_turn (stated_by n) (inspected_as (n ∷ s)) (stated_on_frame n)
    (λ whole. either (eqb (length (n ∷ s)) whole.0) _ _ (judged_on_frame (n ∷ s)) (record { least = lit≤ tt; most = lit≤ tt }))
