-- What a good frame is: its N, its CRC, its command and its length, by themselves.
use Prim.Native.Nat.{ℕ, ◌≤◌}
use mathlib.Core.Path.{◌≡◌, refl, sym}
use mathlib.Core.List.{List, [], ◌∷◌}
use mathlib.Core.Bool.{Bool, true, false, cond}
use native.Mathlib.Omega.{arith}
use lib.ListN.{length, get_or}
use lib.Dec.{eqb}
use borrow.Author.Tests.{eqb-true}
use Rattle.octets.specs.Between.{between}
use Rattle.octets.proofs.Bounds.{between_bounds}
use Rattle.crc.specs.AnnexE.{divides}
use Rattle.numbers.specs.Table.{length_out_of_range, wrong_check_key, cut_frame, impossible_length}
use Rattle.numbers.specs.Counts.{in_octets}
use Rattle.numbers.specs.Answer.{Answer, given, refused, refused_at, when_given}
use Rattle.octets.proofs.Impossible.{impossible}
use Rattle.frame.specs.declared.codes.Command.{Command}
use Rattle.frame.specs.Sizes.{shortest_frame, longest_frame, com_at}
use Rattle.frame.specs.Codes.{code_of, command_of}
use Rattle.frame.specs.Layout.{layout_of, can_have}
use Rattle.frame.specs.Checks.{stated_by, judged, judged_as, inspected, inspected_as}
use Rattle.frame.proofs.CodeTable.{found_by_code}

-- a frame that passes the checks for 2, 4 and 5
pub record Judged (c : Command) (s : List ℕ) : Type 0 where
  pub check_key : divides s ≡ true
  pub command : code_of c ≡ get_or s com_at 0
  pub long : can_have (layout_of c) (length s) ≡ true

pub judged_good : (s : List ℕ) (c : Command) → judged s ≡ given c → Judged c s
unfolding judged judged_as when_given
judged_good s c e = by_key (divides s) refl e
  where
    by_length : (d : Command) (t : Bool) → divides s ≡ true → command_of (get_or s com_at 0) ≡ given d → can_have (layout_of d) (length s) ≡ t → cond t (given d) (refused impossible_length) ≡ given c → Judged c s
    by_length d true k f h e =
        let same : d ≡ c = cc in
        record {
          check_key = k;
          command = rw (← same) (found_by_code (get_or s com_at 0) d f);
          long = rw (← same) h;
        }
    by_length d false k f h e = impossible (cc)

    by_command : (l : Answer Command) → divides s ≡ true → command_of (get_or s com_at 0) ≡ l → when_given l (judged_as s) ≡ given c → Judged c s
    by_command (given d) k f e = by_length d (can_have (layout_of d) (length s)) k f refl e
    by_command (refused n) k f e = impossible (cc)
    by_command (refused_at n at) k f e = impossible (cc)

    by_key : (t : Bool) → divides s ≡ t → cond t (when_given (command_of (get_or s com_at 0)) (judged_as s)) (refused wrong_check_key) ≡ given c → Judged c s
    by_key true k e = by_command (command_of (get_or s com_at 0)) k refl e
    by_key false k e = impossible (cc)

-- a good frame in a slice
pub record GoodFrame (c : Command) (s : List ℕ) : Type 0 where
  pub n : get_or s 0 0 ≡ length s
  pub least : shortest_frame ≤ length s
  pub most : length s ≤ longest_frame
  pub checked : Judged c s

pub inspected_good : (s : List ℕ) (c : Command) → inspected s ≡ given c → GoodFrame c s
unfolding inspected inspected_as stated_by when_given
inspected_good [] c e = impossible (cc)
inspected_good (n ∷ s) c e = by_n (between shortest_frame longest_frame n) refl e
  where
    by_extent : (t : Bool) → between shortest_frame longest_frame n ≡ true → eqb (length (n ∷ s)) n ≡ t → cond t (judged (n ∷ s)) (refused cut_frame) ≡ given c → GoodFrame c (n ∷ s)
    by_extent true b x e =
        let long : length (n ∷ s) ≡ n = eqb-true (length (n ∷ s)) n x in
        let bounds = between_bounds shortest_frame longest_frame n b in
        record { n = sym long; least = omega (arith, long, bounds); most = omega (arith, long, bounds); checked = judged_good (n ∷ s) c e }
    by_extent false b x e = impossible (cc)

    by_n : (t : Bool) → between shortest_frame longest_frame n ≡ t → when_given (cond t (given (in_octets n)) (refused length_out_of_range)) (inspected_as (n ∷ s)) ≡ given c → GoodFrame c (n ∷ s)
    by_n true b e = by_extent (eqb (length (n ∷ s)) n) b refl e
    by_n false b e = impossible (cc)
