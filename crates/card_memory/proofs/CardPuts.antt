-- The runs of octets that a card is encoded by: where they lie, and which of them hold what.
use Prim.Native.Nat.{ℕ, zero, suc, ◌+◌, ◌*◌, ◌≤◌, ◌<◌}
use mathlib.Core.Path.{◌≡◌, subst, sym}
use mathlib.Core.List.{List, [], ◌∷◌, ◌++◌}
use mathlib.Core.Logic.{inl, inr}
use native.Mathlib.Omega.{arith}
use lib.ListN.{length, get_or}
use Rattle.records.specs.declared.Record.{Record}
use Rattle.records.specs.Finding.{blank}
use Rattle.receiver_memory.specs.Puts.{Put, put}
use Rattle.receiver_memory.specs.Receiver as receiver
use Rattle.receiver_memory.proofs.Puts.{Rising, Among, here, later, AllSpare, spare_append, spare_before, spare_past, rising_from, rising_append, among_left, among_right}
use Rattle.receiver_memory.proofs.Receiver.{image-length}
use Rattle.card.specs.declared.Phase.{Phase}
use Rattle.card.specs.declared.Phase.TheVariants.{Idle, Waiting}
use Rattle.card.specs.declared.Card.{Card}
use Rattle.card.specs.Soundness.{waiting_length}
use Rattle.card_memory.specs.Layout.{wait_mark_at, wait_data_size, na2_size, count_at, records_at, length_at, storage_size, record_size, record_places, receiver_at, size}
use Rattle.card_memory.specs.Encoding.{phase_image, contents_image, contents_puts, wait_puts, card_puts}

-- records whose storages have their length
abbrev pub Stored : List Record → Type 0
Stored l = (i : ℕ) → i < length l → length (get_or l i blank).storage ≡ storage_size

stored_tail : (r : Record) (l : List Record) → Stored (r ∷ l) → Stored l
stored_tail r l s i k = s (suc i) (omega arith)

pub contents-length : (r : Record) → length r.storage ≡ storage_size → length (contents_image r) ≡ suc storage_size
unfolding contents_image
contents-length r e = omega (arith, e)

pub contents_rising : (l : List Record) (at : ℕ) → Stored l → Rising at (contents_puts at l) (at + record_size * length l)
unfolding contents_puts
contents_rising [] at s = omega arith
contents_rising (r ∷ l) at s =
    let e : at + length_at + length (contents_image r) ≡ at + record_size = omega (arith, contents-length r (s 0 (omega arith))) in
    let n : at + record_size * suc (length l) ≡ at + record_size + record_size * length l = omega arith in
    (omega arith, rw (e, n) (contents_rising l (at + record_size) (stored_tail r l s)))

-- the contents of the i-th record
pub contents_among : (l : List Record) (at i : ℕ) → i < length l → Among (put (at + record_size * i + length_at) (contents_image (get_or l i blank))) (contents_puts at l)
unfolding contents_puts
contents_among [] at i k = let z : ⊥ = omega arith in absurd z
contents_among (r ∷ l) at zero k =
    let e : at + record_size * 0 ≡ at = omega arith in
    rw e here
contents_among (r ∷ l) at (suc i) k =
    let e : at + record_size * suc i ≡ at + record_size + record_size * i = omega arith in
    rw e (later (contents_among l (at + record_size) i (omega arith)))

-- they leave TAB, kind, limits and marks of every record
pub contents_spare : (l : List Record) (at : ℕ) (m : List ℕ) → Stored l → (i k : ℕ) → k < length_at → AllSpare m (at + record_size * i + k) (contents_puts at l)
unfolding contents_puts
contents_spare [] at m s i k h = tt
contents_spare (r ∷ l) at m s zero k h = (
  inl (inl (omega arith)),
  spare_before (contents_puts (at + record_size) l) (at + record_size) _ m (at + record_size * 0 + k) (contents_rising l (at + record_size) (stored_tail r l s)) (omega arith),
)
contents_spare (r ∷ l) at m s (suc i) k h =
    let e : at + record_size * suc i + k ≡ at + record_size + record_size * i + k = omega arith in (
      inl (inr (omega (arith, contents-length r (s 0 (omega arith))))),
      subst (λ (x : ℕ). AllSpare m x (contents_puts (at + record_size) l)) (sym e) (contents_spare l (at + record_size) m (stored_tail r l s) i k h),
    )

pub phase_length : (p : Phase) → length (phase_image p) ≤ 4
phase_length Idle = omega arith
phase_length (Waiting adp tab n) = omega arith

-- the arrays have their lengths, and the numbers fit in octets
pub record Shaped (c : Card) : Type 0 where
  pub content : length c.exchange.content ≡ wait_data_size
  pub na2 : length c.exchange.na2 ≡ na2_size
  pub octets : length c.receiver.octets ≡ receiver.most_held
  pub counted : c.receiver.count.0 < 256
  pub phase : waiting_length c.exchange.phase < 256
  pub each : length c.records.each ≡ record_places
  pub stored : Stored c.records.each
  pub lengths : (i : ℕ) → i < record_places → (get_or c.records.each i blank).length.0 < 256

module _ (c : Card) (shaped : Shaped c) where
  abbrev contents : List Put
  contents = contents_puts records_at c.records.each

  abbrev received : List Put
  received = put receiver_at (receiver.image c.receiver) ∷ []

  pub wait_rising : Rising wait_mark_at (wait_puts c.exchange) count_at
  wait_rising = omega (arith, phase_length c.exchange.phase, shaped.content, shaped.na2)

  pub records_rising : Rising records_at contents receiver_at
  records_rising =
      let e : records_at + record_size * length c.records.each ≡ receiver_at = omega (arith, shaped.each) in
      rw e at (contents_rising c.records.each records_at shaped.stored)

  pub receiver_rising : Rising receiver_at received size
  receiver_rising = (omega arith, omega (arith, image-length c.receiver shaped.octets))

  pub card_rising : Rising wait_mark_at (card_puts c) size
  card_rising =
      rising_append (wait_puts c.exchange) (contents ++ received) wait_mark_at count_at size wait_rising
      (rising_append contents received count_at receiver_at size (rising_from contents count_at records_at receiver_at (omega arith) records_rising) receiver_rising)

  pub in_wait : {p : Put} → Among p (wait_puts c.exchange) → Among p (card_puts c)
  in_wait = among_left (contents ++ received)

  pub in_contents : {p : Put} → Among p contents → Among p (card_puts c)
  in_contents x = among_right (wait_puts c.exchange) (among_left received x)

  pub in_receiver : Among (put receiver_at (receiver.image c.receiver)) (card_puts c)
  in_receiver = among_right (wait_puts c.exchange) (among_right contents here)

  -- which octets are left: all in front of the wait, the count, what setup gave a record besides its contents, all behind the receiver
  pub all_spare : (m : List ℕ) (j : ℕ) → AllSpare m j (wait_puts c.exchange) → AllSpare m j contents → AllSpare m j received → AllSpare m j (card_puts c)
  all_spare m j a b d = spare_append (wait_puts c.exchange) (contents ++ received) m j a (spare_append contents received m j b d)

  pub identity_spare : (m : List ℕ) (j : ℕ) → j < wait_mark_at → AllSpare m j (card_puts c)
  identity_spare m j k = spare_before (card_puts c) wait_mark_at size m j card_rising k

  pub count_spare : (m : List ℕ) → AllSpare m count_at (card_puts c)
  count_spare m =
      all_spare m count_at (spare_past (wait_puts c.exchange) wait_mark_at count_at m count_at wait_rising (omega arith))
      (spare_before contents records_at receiver_at m count_at records_rising (omega arith))
      (spare_before received receiver_at size m count_at receiver_rising (omega arith))

  pub attributes_spare : (m : List ℕ) (i k : ℕ) → i < record_places → k < length_at → AllSpare m (records_at + record_size * i + k) (card_puts c)
  attributes_spare m i k h q =
      let j = records_at + record_size * i + k in
      all_spare m j (spare_past (wait_puts c.exchange) wait_mark_at count_at m j wait_rising (omega arith))
      (contents_spare c.records.each records_at m shaped.stored i k q)
      (spare_before received receiver_at size m j receiver_rising (omega arith))

  pub past_spare : (m : List ℕ) (j : ℕ) → size ≤ j → AllSpare m j (card_puts c)
  past_spare m j k = spare_past (card_puts c) wait_mark_at size m j card_rising k
