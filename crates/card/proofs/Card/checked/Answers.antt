-- `Card::checked` tests the lengths; an address of six octets and a key of eight are then copied whole.
use mathlib.Core.Path.{refl}
use lib.ListN.{replicate}
use borrow.Author.Tests.{eq-eqb, ne_eqb}
use Rattle.octets.proofs.Splice.{spliced_whole}
use Rattle.frame.specs.Sizes.{address_width, number_width}
use Rattle.card.specs.Setup.{after_setup}
use Rattle.card.proofs.Giving.{told}
use Rattle.card.proofs.Card.checked.Goals as goal
use Rattle.card.proofs.Card.checked.Goals.{then-address-ne-ADDRESS_WIDTH-via-then-address-ne-ADDRESS_WIDTH, then-address-ne-ADDRESS_WIDTH-via-else-address-ne-ADDRESS_WIDTH+then-key-ne-NUMBER_WIDTH}

pub returns-then-address-ne-ADDRESS_WIDTH : goal.returns-then-address-ne-ADDRESS_WIDTH
unfolding after_setup
returns-then-address-ne-ADDRESS_WIDTH c =
    elim c.then-address-ne-ADDRESS_WIDTH.branch [
      | then-address-ne-ADDRESS_WIDTH-via-then-address-ne-ADDRESS_WIDTH w ↦ rw (ne_eqb _ _ w.if-address-ne-ADDRESS_WIDTH.true) (told _ _ _ _ refl refl)
      | then-address-ne-ADDRESS_WIDTH-via-else-address-ne-ADDRESS_WIDTH+then-key-ne-NUMBER_WIDTH w ↦ rw (eq-eqb _ _ w.if-address-ne-ADDRESS_WIDTH.false, ne_eqb _ _ w.if-key-ne-NUMBER_WIDTH.true) (told _ _ _ _ refl refl)
    ]

pub returns : goal.returns
unfolding after_setup
returns c =
    rw (eq-eqb _ _ c.if-address-ne-ADDRESS_WIDTH.false, eq-eqb _ _ c.if-key-ne-NUMBER_WIDTH.false, ← spliced_whole (replicate address_width 0) c.args.address.now c.if-address-ne-ADDRESS_WIDTH.false, ← spliced_whole (replicate number_width 0) c.args.key.now c.if-key-ne-NUMBER_WIDTH.false, ← c.padded.ensures, ← c.padded-2.ensures)
    c.admitted.ensures
