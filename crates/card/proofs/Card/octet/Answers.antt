-- `Card::octet` tests what is lent (17), then the card (12).
use mathlib.Core.Path.{◌≡◌, refl, sym, ap, ◌∙◌}
use mathlib.Core.Bool.{not}
use lib.ListN.{replicate}
use Rattle.octets.proofs.Splice.{spliced_whole}
use Rattle.frame.specs.Sizes.{number_width}
use Rattle.card.proofs.Soundness.{sound_means}
use Rattle.card.proofs.Giving.{gives_by, silent_by}
use Rattle.card.proofs.Receptions.{wrong_number, wrong_buffer, broken_card, octet_made}
use Rattle.std.specs.Array.{IsFirstChunk}
use Rattle.frame.specs.Sizes.{longest_frame}
use Prim.Native.Nat.{ℕ, ◌≤◌}
use mathlib.Core.List.{List, ◌++◌}
use native.Mathlib.Omega.{arith}
use lib.ListN.{length, drop, take-append-drop, length-append, length-drop}
use Rattle.card.proofs.Lent.{gives_front, heard_lent}
use Rattle.card.proofs.Card.octet.Goals as goal

-- the front of the buffer, and what is left of it
front_whole : {s front : List ℕ} → IsFirstChunk s front longest_frame → (longest_frame ≤ length s) × (front ++ drop longest_frame s ≡ s)
front_whole {s = s} h = (h.enough, rw h.same (take-append-drop longest_frame s))

pub returns-then-na2-ne-NUMBER_WIDTH : goal.returns-then-na2-ne-NUMBER_WIDTH
returns-then-na2-ne-NUMBER_WIDTH c = gives_by (wrong_number _ _ _ c.if-na2-ne-NUMBER_WIDTH.true) (silent_by _ _ _ _ _ c.unreplied.ensures refl)

pub returns-in_default : goal.returns-in_default
returns-in_default c =
    gives_by (wrong_buffer _ _ _ c.if-na2-ne-NUMBER_WIDTH.false c.in_default.ensures.cases) (silent_by _ _ _ _ _ c.unreplied-in_default.ensures refl)

pub returns-then-not-sound : goal.returns-then-not-sound
returns-then-not-sound c =
    let whole = front_whole c.in-Some.ensures.cases in
    gives_by (broken_card _ _ _ c.if-na2-ne-NUMBER_WIDTH.false whole.0 c.sound.result c.sound.ensures (ap not c.if-not-sound.true))
    (rw whole.1 (silent_by _ _ _ _ _ c.unreplied-then-not-sound.ensures refl))

pub heard-requires : goal.heard-requires
heard-requires c = let s = c.sound in
    (sound_means c.args.self).0 (sym s.ensures ∙ c.if-not-sound.false)

pub returns : goal.returns
returns c =
    let eight = c.if-na2-ne-NUMBER_WIDTH.false in
    let whole = front_whole c.in-Some.ensures.cases in
    let lent = c.padded.ensures ∙ spliced_whole (replicate number_width 0) c.args.na2.now eight in
    let long : length c.heard.new.reply ≡ length c.in-Some.front.now = omega (arith, length-append c.heard.new.reply (drop longest_frame c.args.reply.now), length-drop longest_frame c.args.reply.now, length-append c.in-Some.front.now (drop longest_frame c.args.reply.now), ap length whole.1) in
    gives_by (octet_made _ _ _ eight whole.0 c.sound.result c.sound.ensures (ap not c.if-not-sound.false) ∙ heard_lent c.args.na2.now (length c.args.reply.now) (length c.in-Some.front.now) c.args.self c.args.octet)
    (rw whole.1 at (gives_front _ _ _ (drop longest_frame c.args.reply.now) _ long (rw lent at c.heard.ensures)))
