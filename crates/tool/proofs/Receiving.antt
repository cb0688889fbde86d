-- What a tool hears, told by the receiver's event.
use Prim.Native.Nat.{ℕ, zero, suc, ◌≤◌}
use mathlib.Core.Path.{◌≡◌, refl, sym, ap, ◌∙◌}
use mathlib.Core.List.{List}
use native.Mathlib.Omega.{arith}
use lib.Dec.{lit≤}
use lib.ListN.{length, get_or, take}
use lib.Seq.{get_or-take}
use mathlib.Core.Option.{none, some}
use Rattle.numbers.specs.Answer.{given, refused}
use Rattle.frame.specs.declared.codes.Command.{Command}
use Rattle.frame.specs.declared.codes.Command.TheVariants.{Enq, Dat, Rec, Ech, Aut, Eos, Aso, Rso, Ib, Drj, Arj, Trf, Trb, Tra, Pre, Sel}
use Rattle.frame.specs.declared.checks.Fault.{Fault}
use Rattle.frame.specs.Layout.{layout_of}
use Rattle.frame.specs.Checks.{fault_number, inspected}
use Rattle.frame.specs.Content.{fields_of, data_of}
use Rattle.frame.proofs.Widths.{within_bounds}
use Rattle.frame.proofs.GoodFrame.{inspected_good}
use Rattle.frame.proofs.RoundTrip.{data_within}
use Rattle.receiver.specs.declared.Event.{Event}
use Rattle.receiver.specs.declared.Event.TheVariants.{Nothing, Bad, Good}
use Rattle.receiver.specs.declared.Received.{Received}
use Rattle.receiver.specs.Receiving.{Reception, awaiting, skipping, partial, Outcome, silent_outcome, dropped_outcome, complete_outcome, Step, on_octet, on_gap}
use Rattle.receiver.specs.Receiver as receiver
use Rattle.receiver.specs.Receiver.{most_held, answer_of_event, answer_of_received, reception_of, answer_to, stepped}
use Rattle.receiver.proofs.Follows.{octet_follows}
use Rattle.receiver.proofs.Arrival.{Handed, good_handed}
use Rattle.tool.specs.declared.Tool.{Tool}
use Rattle.frame.specs.Sizes.{most_transferred}
use Rattle.tool.specs.Parts.{with_receiver, silent, refusing}
use Rattle.tool.specs.Replies.{on_frame}
use Rattle.tool.specs.Events.{after_step, heard_as, heard_step}
use Rattle.octets.proofs.Impossible.{impossible}

-- DATA of any command
most_data : (c : Command) → (layout_of c).most.0 ≤ most_transferred
unfolding layout_of
most_data Enq = lit≤ tt
most_data Dat = lit≤ tt
most_data Rec = lit≤ tt
most_data Ech = lit≤ tt
most_data Aut = lit≤ tt
most_data Eos = lit≤ tt
most_data Aso = lit≤ tt
most_data Rso = lit≤ tt
most_data Ib = lit≤ tt
most_data Drj = lit≤ tt
most_data Arj = lit≤ tt
most_data Trf = lit≤ tt
most_data Trb = lit≤ tt
most_data Tra = lit≤ tt
most_data Pre = lit≤ tt
most_data Sel = lit≤ tt

pub good_data : (c : Command) (s : List ℕ) → inspected s ≡ given c → length (data_of c s) ≤ most_transferred
good_data c s e =
    let w = within_bounds (layout_of c) (length (data_of c s)) (data_within c s (inspected_good s c e)) in
    omega (arith, w.1, most_data c)

-- N of a good frame in an array says how long the frame is
pub stated_length : (c : Command) (l : List ℕ) → inspected (take (get_or l 0 0) l) ≡ given c → get_or l 0 0 ≡ length (take (get_or l 0 0) l)
stated_length c l e = go (get_or l 0 0) refl (inspected_good _ c e).n
  where
    go : (n : ℕ) → get_or l 0 0 ≡ n → get_or (take n l) 0 0 ≡ length (take n l) → n ≡ length (take n l)
    go zero p s = refl
    go (suc n) p s = sym p ∙ sym (get_or-take (suc n) l 0 0 (omega arith)) ∙ s

hears_nothing : (u : Outcome) (t : Tool) → given none ≡ answer_to u → silent t ≡ heard_as u t
unfolding answer_to heard_as
hears_nothing silent_outcome t e = refl
hears_nothing (dropped_outcome n) t e = impossible (cc)
hears_nothing (complete_outcome c s) t e = impossible (cc)

hears_bad : (u : Outcome) (n : ℕ) (t : Tool) → refused n ≡ answer_to u → refusing t n ≡ heard_as u t
unfolding answer_to heard_as
hears_bad silent_outcome n t e = impossible (cc)
hears_bad (dropped_outcome m) n t e = cc
hears_bad (complete_outcome c s) n t e = impossible (cc)

gap_completes_none : {X : Type 0} (h : Reception) (c : Command) → given (some c) ≡ answer_to (on_gap h).outcome → X
unfolding answer_to on_gap
gap_completes_none awaiting c e = impossible (cc)
gap_completes_none skipping c e = impossible (cc)
gap_completes_none (partial s) c e = impossible (cc)

-- The receiver of the tool t has given g by the step s.
module _ (t : Tool) (s : Step) (g : Received) (e : answer_of_received g ≡ stepped t.receiver s) where
  pub answers : (v : Event) → g.event ≡ v → answer_of_event v ≡ answer_to s.outcome
  answers v n = sym (ap answer_of_event n) ∙ ap (λ (r : receiver.Response). r.answer) e

  moved_on : with_receiver g.receiver t ≡ after_step s t
  moved_on = ap (λ (r : receiver.Response). with_receiver r.receiver t) e

  pub told_nothing : g.event ≡ Nothing → silent (with_receiver g.receiver t) ≡ heard_step s t
  told_nothing n = ap silent moved_on ∙ hears_nothing s.outcome (after_step s t) (answers Nothing n)

  pub told_bad : (f : Fault) → g.event ≡ Bad f → refusing (with_receiver g.receiver t) (fault_number f) ≡ heard_step s t
  told_bad f b = ap (λ (u : Tool). refusing u (fault_number f)) moved_on ∙ hears_bad s.outcome (fault_number f) (after_step s t) (answers (Bad f) b)

-- a gap completes no frame
pub told_no_frame : {X : Type 0} (t : Tool) (g : Received) → answer_of_received g ≡ stepped t.receiver (on_gap (reception_of t.receiver)) → (c : Command) → g.event ≡ Good c → X
told_no_frame t g e c n = gap_completes_none (reception_of t.receiver) c (answers t (on_gap (reception_of t.receiver)) g e (Good c) n)

-- The same for a good frame that an octet completes.
module _ (t : Tool) (o : ℕ) (g : Received) (e : answer_of_received g ≡ receiver.after_octet t.receiver o) (sound : receiver.Sound t.receiver) (long : length t.receiver.octets ≡ most_held) (c : Command) (good : g.event ≡ Good c) where
  handed : Handed t.receiver o c
  handed = good_handed t.receiver o c sound long (sym (ap (λ (r : receiver.Response). r.answer) e) ∙ ap answer_of_event good)

  octets_taken : take (get_or g.frame 0 0) g.frame ≡ handed.octets
  octets_taken = ap (λ (r : receiver.Response). take (get_or r.frame 0 0) r.frame) e ∙ handed.taken

  pub told_inspected : inspected (take (get_or g.frame 0 0) g.frame) ≡ given c
  told_inspected = ap inspected octets_taken ∙ handed.arrived.good

  pub told_frame : on_frame (with_receiver g.receiver t) c (fields_of c (take (get_or g.frame 0 0) g.frame)) (data_of c (take (get_or g.frame 0 0) g.frame)) ≡ heard_step (on_octet o (reception_of t.receiver)) t
  unfolding heard_as
  told_frame =
      let step = on_octet o (reception_of t.receiver) in
      let next = ap (λ (r : receiver.Response). r.receiver) (e ∙ (octet_follows t.receiver o sound long).answer) in
      let whole = take (get_or g.frame 0 0) g.frame in
      ap (λ r. on_frame (with_receiver r t) c (fields_of c whole) (data_of c whole)) next ∙ ap (λ f. on_frame (after_step step t) c (fields_of c f) (data_of c f)) octets_taken ∙ sym (ap (λ u. heard_as u (after_step step t)) handed.arrived.outcome)
