-- The card that setup hands back, refused or not, is sound: no call refuses it with 12.
use Prim.Native.Nat.{ℕ, zero, suc}
use mathlib.Core.Path.{◌≡◌, refl}
use mathlib.Core.Bool.{Bool, true, false, cond, ◌&&◌}
use mathlib.Core.List.{List}
use native.Mathlib.Omega.{arith}
use lib.Dec.{eqb}
use lib.ListN.{length}
use Rattle.des.specs.WeakKeys.{without_parity, weak_keys, weak}
use Rattle.numbers.specs.Table.{wrong_address, broken_rule, wrong_length, weak_key}
use Rattle.frame.specs.Sizes.{address_width, number_width}
use Rattle.frame.specs.Addresses.{broadcast}
use Rattle.records.specs.declared.Records.{Records}
use Rattle.records.specs.Finding.{used}
use Rattle.records.specs.Setup.{keeps_rules, contents_number, empty}
use Rattle.records.specs.Setup as records
use Rattle.records.proofs.Soundness.{sound_means, empty-sound}
use Rattle.receiver.proofs.Soundness.{fresh-sound}
use Rattle.card.specs.Setup.{fresh, bare, refused_setup, admitted_with, admitted, after_setup}
use Rattle.card.proofs.Keeping.{Whole}

fresh_whole : (address key : List ℕ) (s : Records) → broadcast address ≡ false → weak key ≡ false → records.Sound s → Whole (fresh address key s)
fresh_whole address key s e w h = record { sound = record { address = e; key = w; fits = omega arith; receiver = fresh-sound; records = h }; long = refl }

pub bare_whole : Whole bare
unfolding broadcast weak weak_keys without_parity
bare_whole = fresh_whole _ _ empty refl refl empty-sound

module _ (address key : List ℕ) (s : Records) where
  admitted_whole : Whole (admitted address key s).card
  unfolding admitted admitted_with records.sound
  admitted_whole = go (broadcast address) refl (keeps_rules s) refl (weak key) refl (contents_number (used s)) refl
    where
      go : (b : Bool) → broadcast address ≡ b → (k : Bool) → keeps_rules s ≡ k → (w : Bool) → weak key ≡ w → (n : ℕ) → contents_number (used s) ≡ n
          → Whole (cond b (refused_setup wrong_address) (cond k (cond w (refused_setup weak_key) (admitted_with n (fresh address key s))) (refused_setup broken_rule))).card
      go true e k f w v n g = bare_whole
      go false e false f w v n g = bare_whole
      go false e true f true v n g = bare_whole
      go false e true f false v (suc n) g = bare_whole
      go false e true f false v zero g = fresh_whole address key s e v ((sound_means s).0 (rw (f, g)))

  pub setup_whole : Whole (after_setup address key s).card
  unfolding after_setup
  setup_whole = go (eqb (length address) address_width && eqb (length key) number_width)
    where
      go : (b : Bool) → Whole (cond b (admitted address key s) (refused_setup wrong_length)).card
      go true = admitted_whole
      go false = bare_whole
