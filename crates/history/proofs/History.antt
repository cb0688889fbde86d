-- Demand 3: after every history each record that setup gave has the book's length and octets. One call keeps card and book in agreement, so a list of calls does.
use Prim.Native.Nat.{ℕ, ◌<◌}
use mathlib.Core.List.{List, [], ◌∷◌}
use mathlib.Core.Path.{◌≡◌, sym, ap, ◌∙◌}
use native.Mathlib.Omega.{arith}
use lib.ListN.{length, get_or}
use mir.Val.{Val}
use denote.Shadow.{shadow}
use Rattle.numbers.specs.Table.{none}
use Rattle.records.specs.declared.Attributes.{Attributes}
use Rattle.records.specs.declared.Records.{Records}
use Rattle.records.specs.Finding.{used, attributes_of, blank_attributes, record_at}
use Rattle.records.specs.Setup.{Rules}
use Rattle.records.proofs.InUse.{used_count, attributes_length, attributes_at}
use Rattle.records.proofs.Shape.{each-length, record_storage}
use Rattle.records.specs.contracts.Records as row
use Rattle.card.specs.declared.Card.{Card}
use Rattle.card.specs.declared.Answered.{Answered}
use Rattle.card.specs.Parts.{Tells}
use Rattle.card.specs.Setup.{after_setup}
use Rattle.card.specs.Events.{Call, after}
use Rattle.card.proofs.Keeping.{Whole, course}
use Rattle.card.proofs.Fresh.{setup_whole}
use Rattle.history.specs.Book.{Setup, Book, setup_of, step, steps, book_of}
use Rattle.history.specs.Claim.{run, Kept, Arrays, Replayed}
use Rattle.history.proofs.Agreement.{Agrees, step_agrees}
use Rattle.history.proofs.Start.{setup_accepted, fresh_agrees}

pub run_agrees : (s : Setup) (h : List Call) (c : Card) (b : Book) → Whole c → Agrees s c b → Agrees s (run c h) (steps s b h)
unfolding run steps
run_agrees s [] c b whole agrees = agrees
run_agrees s (k ∷ h) c b whole agrees = run_agrees s h (after c k).card (step s b k) (course c whole k).whole (step_agrees s c whole b agrees k)

pub run_whole : (h : List Call) (c : Card) → Whole c → Whole (run c h)
unfolding run
run_whole [] c whole = whole
run_whole (k ∷ h) c whole = run_whole h (after c k).card (course c whole k).whole

-- the record at a place of setup's, in a card whose records have setup's attributes
module _ (given : Records) (arrays : Arrays given) (rules : Rules given) (c : Card) (e : attributes_of c.records ≡ attributes_of given) (i : ℕ) (p : i < given.count) where
  in_use : i < length (used given)
  in_use = omega (arith, used_count given arrays.each rules)

  pub kept_in_use : i < length (used c.records)
  kept_in_use = omega (arith, in_use, attributes_length given, attributes_length c.records, ap length e)

  pub kept_attributes : (record_at c.records i).attributes ≡ (record_at given i).attributes
  kept_attributes = sym (attributes_at c.records i kept_in_use) ∙ ap (λ (l : List Attributes). get_or l i blank_attributes) e ∙ attributes_at given i in_use

-- what agreement says of each record that setup gave
pub agrees_kept : (address key : List ℕ) (given : Records) → Arrays given → Rules given → (c : Card) (b : Book) → Agrees (setup_of address key given) c b → Kept given c b
agrees_kept address key given arrays rules c b agrees =
    let e = agrees.station.attributes in
    record {
      attributes = e;
      each = λ i p. rw (ap (λ (a : Attributes). a.tab) (kept_attributes given arrays rules c e i p)) at (agrees.station.contents.each i (kept_in_use given arrays rules c e i p));
    }

-- For every accepted setup and every history: octets with any number and buffer lent, gaps, session ends and meter writes, refused calls included.
pub history_kept : (address key : List ℕ) (given : Records) → Arrays given → (after_setup address key given).number ≡ none → (h : List Call)
    → Kept given (run (after_setup address key given).card h) (book_of address key given h)
history_kept address key given arrays accepted h =
    let c = (after_setup address key given).card in
    let a = setup_accepted address key given accepted in
    agrees_kept address key given arrays a.sound.rules (run c h) (book_of address key given h)
    (run_agrees (setup_of address key given) h c _ (setup_whole address key given) (fresh_agrees address key given arrays c a))

-- what owning records by value tells of their arrays
pub owned_arrays : (s : Records) (vs : List Val) → shadow ((row.the_row).own_val s vs) → Arrays s
owned_arrays s vs own = record { each = each-length s vs own; storage = record_storage s vs own }

pub replayed : (address key : List ℕ) (given : Records) → Arrays given → (h : List Call) (start : Answered) → Tells (after_setup address key given) start → (last : Card) → last ≡ run start.card h
    → Replayed address key given h (record { card = last; answer = start.answer })
replayed address key given arrays h start e last f =
    let card = f ∙ ap (λ (c : Card). run c h) e.card in
    record { number = e.number; card = card; kept = λ accepted. rw card (history_kept address key given arrays (sym e.number ∙ accepted) h) }
