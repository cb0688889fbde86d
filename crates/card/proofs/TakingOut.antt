-- Taking out the frames that the card doesn't take leaves the same records, exchange and replies: by induction over the list, two cards that differ in
-- their receivers alone side by side.
use Prim.Native.Nat.{ℕ}
use mathlib.Core.Logic.{◌↔◌}
use mathlib.Core.Path.{◌≡◌, refl, sym, ap, ap₂, ◌∙◌}
use mathlib.Core.Bool.{Bool, true, false, cond}
use mathlib.Core.List.{List, [], ◌∷◌, ◌++◌}
use Rattle.octets.proofs.Impossible.{impossible}
use Rattle.frame.specs.declared.codes.Command.{Command}
use Rattle.numbers.specs.Answer.{given}
use Rattle.frame.specs.Checks.{inspected}
use Rattle.frame.specs.Content.{fields_of, data_of}
use Rattle.receiver.specs.Receiving.{awaiting}
use Rattle.receiver.specs.Receiver.{reception_of}
use Rattle.card.specs.declared.Identity.{Identity}
use Rattle.card.specs.declared.Card.{Card}
use Rattle.std.specs.Prelude.{Option, Some, None}
use Rattle.card.specs.declared.taking.Taken.{Taken}
use Rattle.card.specs.Loan.{Loan}
use Rattle.card.specs.Parts.{Response, silent}
use Rattle.card.specs.Taking.{taken_for}
use Rattle.card.specs.Frames.{respond, on_frame}
use Rattle.card.specs.Feeding.{Handed, octets_in, last_loan, Fed, listed, fed}
use Rattle.card.specs.TakingOut.{GoodSending, AllGood, fed_all, is_taken, taken_as, taken_only, Alike}
use Rattle.card.proofs.Keeping.{Whole}
use Rattle.card.proofs.Station.{station_of, same_station, same_reply}
use Rattle.card.proofs.Feeding.{frame_heard, frame_fed}

-- a sound card between frames
record Ready (c : Card) : Type 0 where
  whole : Whole c
  empty : reception_of c.receiver ≡ awaiting

-- what a sending of the good frame f with the command k comes to
record FrameFed (c : Card) (loan : Loan) (k : Command) (f : List ℕ) (x : Fed) : Type 0 where
  ready : Ready x.card
  address : x.card.identity.address ≡ c.identity.address
  station : station_of x.card ≡ station_of (on_frame c loan k (fields_of k f) (data_of k f)).card
  replies : x.replies ≡ listed (on_frame c loan k (fields_of k f) (data_of k f)).reply

sending_fed : (s : List Handed) (u : GoodSending s) (c : Card) → Ready c → FrameFed c (last_loan s) u.command (octets_in s) (fed c s)
sending_fed s u c r =
    let k = u.command in
    let x = frame_heard s u.lent k u.good c r.whole r.empty in
    let y = frame_fed s u.lent k u.good c r.whole r.empty in
    record {
      ready = record { whole = rw y.0 x.whole; empty = rw y.0 x.empty };
      address = ap (λ (d : Card). d.identity.address) y.0 ∙ ap (λ (i : Identity). i.address) x.identity;
      station = ap station_of y.0 ∙ x.station;
      replies = y.1 ∙ ap listed x.reply;
    }

-- what is taken for none of the six is taken out, and nothing else
pub not_taken_means : (t : Option Taken) → (is_taken t ≡ false) ↔ (t ≡ None)
not_taken_means None = (λ e. refl, λ e. refl)
not_taken_means (Some t) = (λ e. impossible (cc), λ e. impossible (cc))

-- a good frame that the card does not take
frame_passed : (c : Card) (loan : Loan) (k : Command) (f : List ℕ) → taken_as (given k) c.identity.address f ≡ false → on_frame c loan k (fields_of k f) (data_of k f) ≡ silent c
unfolding taken_as on_frame respond
frame_passed c loan k f t = rw ((not_taken_means (taken_for c.identity.address k (fields_of k f).ads)).0 t)

record Together (a b : Fed) : Type 0 where
  station : station_of a.card ≡ station_of b.card
  replies : a.replies ≡ b.replies

together : (own : List ℕ) (l : List (List Handed)) → AllGood l → (c d : Card) → c.identity.address ≡ own → Ready c → Ready d → station_of c ≡ station_of d → Together (fed_all c l) (fed_all d (taken_only own l))
unfolding fed_all taken_only
together own [] all c d own_c ready_c ready_d e = record { station = e; replies = refl }
together own (s ∷ l) all c d own_c ready_c ready_d e = go (taken_as (inspected (octets_in s)) own (octets_in s)) refl (together own l all.1)
  where
    go : (b : Bool) → taken_as (inspected (octets_in s)) own (octets_in s) ≡ b
        → ((x y : Card) → x.identity.address ≡ own → Ready x → Ready y → station_of x ≡ station_of y → Together (fed_all x l) (fed_all y (taken_only own l)))
        → Together (fed_all c (s ∷ l)) (fed_all d (cond b (s ∷ taken_only own l) (taken_only own l)))
    go true t rest =
        let k = all.0.command in
        let loan = last_loan s in
        let x = sending_fed s all.0 c ready_c in
        let y = sending_fed s all.0 d ready_d in
        let f = fields_of k (octets_in s) in
        let m = data_of k (octets_in s) in
        let both = rest _ _ (x.address ∙ own_c) x.ready y.ready (x.station ∙ same_station c d e loan k f m ∙ sym y.station) in
        let reply = x.replies ∙ ap listed (same_reply c d e loan k f m) ∙ sym y.replies in
        record { station = both.station; replies = ap₂ ◌++◌ reply both.replies }
    go false t rest =
        let k = all.0.command in
        let x = sending_fed s all.0 c ready_c in
        let passed = frame_passed c (last_loan s) k (octets_in s) (rw (all.0.good, ← own_c) at t) in
        let both = rest _ d (x.address ∙ own_c) x.ready ready_d (x.station ∙ ap (λ (r : Response). station_of r.card) passed ∙ e) in
        let reply : (fed c s).replies ≡ [] = x.replies ∙ ap (λ (r : Response). listed r.reply) passed in
        record { station = both.station; replies = ap₂ ◌++◌ reply both.replies }

-- a card between frames that is fed all of a list's frames, and one that is fed those that it takes
pub taking_out : (c : Card) → Whole c → reception_of c.receiver ≡ awaiting → (l : List (List Handed)) → AllGood l → Alike (fed_all c l) (fed_all c (taken_only c.identity.address l))
taking_out c h e l all =
    let ready : Ready c = record { whole = h; empty = e } in
    let t = together c.identity.address l all c c refl ready ready refl in
    record { records = ap (λ (x : Card). x.records) t.station; exchange = ap (λ (x : Card). x.exchange) t.station; replies = t.replies }
