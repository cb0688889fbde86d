-- A phase comes back from its mark, TAB and length, and these from the phase that they stand for, where the mark is in use.
use Prim.Native.Nat.{ℕ, zero, suc, ◌≤◌, ◌<◌}
use mathlib.Core.Path.{◌≡◌, refl}
use mathlib.Core.Bool.{not, ◌||◌}
use native.Mathlib.Omega.{arith}
use lib.Dec.{eqb, leb, lit≤}
use Rattle.octets.proofs.Impossible.{impossible}
use Rattle.wake.specs.declared.Last.TheVariants.{EnqTrf, Other}
use Rattle.receiver_memory.proofs.Fields.{narrowed_fits}
use Rattle.tool.specs.declared.Phase.{Phase}
use Rattle.tool.specs.declared.Phase.TheVariants.{Idle, Reading, Transferring, Programming, Authenticating}
use Rattle.frame.specs.Sizes.{most_programmed}
use Rattle.tool.specs.Soundness.{sent_length, within_rec}
use Rattle.tool_memory.specs.Marks.{programming_mark, last_mark, phase_of, mark_of, tab_of, sent_length_of}

pub mark_used : (p : Phase) → mark_of p ≤ last_mark
mark_used (Idle EnqTrf) = lit≤ tt
mark_used (Idle Other) = lit≤ tt
mark_used (Reading tab) = lit≤ tt
mark_used Transferring = lit≤ tt
mark_used (Programming tab n) = lit≤ tt
mark_used Authenticating = lit≤ tt

pub phase_back : (p : Phase) (tab n : ℕ) → sent_length p < 256 → phase_of (mark_of p) (tab_of p tab) (sent_length_of p n) ≡ p
unfolding phase_of
phase_back (Idle EnqTrf) tab n h = refl
phase_back (Idle Other) tab n h = refl
phase_back (Reading asked) tab n h = refl
phase_back Transferring tab n h = refl
phase_back (Programming asked k) tab n h = rw (narrowed_fits k.0 h)
phase_back Authenticating tab n h = refl

-- the octets that a phase stands for
pub record Back (mark tab n : ℕ) : Type 0 where
  pub mark_back : mark_of (phase_of mark tab n) ≡ mark
  pub tab_back : tab_of (phase_of mark tab n) tab ≡ tab
  pub length_back : sent_length_of (phase_of mark tab n) n ≡ n

pub octets_back : (mark tab n : ℕ) → mark ≤ last_mark → n < 256 → Back mark tab n
unfolding phase_of
octets_back zero tab n h k = record { mark_back = refl; tab_back = refl; length_back = refl }
octets_back (suc zero) tab n h k = record { mark_back = refl; tab_back = refl; length_back = refl }
octets_back (suc (suc zero)) tab n h k = record { mark_back = refl; tab_back = refl; length_back = refl }
octets_back (suc (suc (suc zero))) tab n h k = record { mark_back = refl; tab_back = refl; length_back = narrowed_fits n k }
octets_back (suc (suc (suc (suc zero)))) tab n h k = record { mark_back = refl; tab_back = refl; length_back = refl }
octets_back (suc (suc (suc (suc (suc zero))))) tab n h k = record { mark_back = refl; tab_back = refl; length_back = refl }
octets_back (suc (suc (suc (suc (suc (suc j)))))) tab n h k = impossible (omega arith)

-- only a programming request has a length
pub fitting_of : (mark tab n : ℕ) → mark ≤ last_mark → within_rec (phase_of mark tab n) ≡ (not (eqb mark programming_mark) || leb n most_programmed)
unfolding phase_of
fitting_of zero tab n h = refl
fitting_of (suc zero) tab n h = refl
fitting_of (suc (suc zero)) tab n h = refl
fitting_of (suc (suc (suc zero))) tab n h = refl
fitting_of (suc (suc (suc (suc zero)))) tab n h = refl
fitting_of (suc (suc (suc (suc (suc zero))))) tab n h = refl
fitting_of (suc (suc (suc (suc (suc (suc j)))))) tab n h = impossible (omega arith)
