-- The small memory follows the list of all requests: it gives a wake-up exactly where the clauses of 01 do.
use Prim.Native.Nat.{ℕ, suc, ◌+◌, ◌≤◌, ◌<◌}
use mathlib.Core.Path.{◌≡◌, refl, sym, ap, ◌∙◌}
use mathlib.Core.Bool.{Bool, true, false, cond, not, ◌&&◌, ◌||◌}
use mathlib.Core.List.{List, [], ◌∷◌}
use native.Mathlib.Decide.{dec_lt}
use native.Mathlib.Omega.{arith}
use lib.Dec.{ltb, leb}
use borrow.Author.Tests.{lt-ltb, le-ltb, le-leb, lt-leb, ltb-true, ltb-false}
use Rattle.octets.specs.Part.{same}
use Rattle.octets.proofs.Impossible.{impossible}
use Rattle.octets.proofs.Same.{same_self, same_equal}
use Rattle.wake.specs.declared.Request.{Request}
use Rattle.wake.specs.declared.Wake.TheVariants.{None, Agn}
use Rattle.wake.specs.declared.Last.{Last}
use Rattle.wake.specs.declared.Last.TheVariants.{EnqTrf, Other}
use Rattle.wake.specs.declared.WakeUps.{WakeUps}
use Rattle.wake.specs.Rule.{fresh, last_after, last_enq_trf, exchanges, awake, wake_before, calling, otherwise, asked, with_successes, succeeded}
use Rattle.wake.specs.Clauses.{running, well, with_number, Entry, enq_or_trf, succeeds, is_wake_up, enqs_and_trfs, first, elsewhere, after_other, since_wake_up, counted, successes, most_exchanges, due}
use Rattle.wake.specs.Lists.{sent, ended_as}

-- a count up to five stands for the number n
pub record Counts (k n : ℕ) : Type 0 where
  pub few : k < most_exchanges → n ≡ k
  pub many : most_exchanges ≤ k → most_exchanges ≤ n

-- the last request is an ENQ or TRF
abbrev pub last_asked : List Entry → Bool
last_asked [] = false
last_asked (e ∷ past) = enq_or_trf e.request

abbrev pub last_station : List Entry → List ℕ
last_station [] = []
last_station (e ∷ past) = e.station

-- What the last request and the memory w hold of the requests of the past.
pub record Follows (last : Last) (w : WakeUps) (past : List Entry) : Type 0 where
  pub sort : last_enq_trf last ≡ last_asked past
  pub station : last_asked past ≡ true → w.station ≡ last_station past
  pub count : last_asked past ≡ true → Counts w.successes.0 (successes (since_wake_up past) w.station)

pub fresh_follows : Follows Other fresh []
fresh_follows = record { sort = refl; station = λ e. impossible (cc); count = λ e. impossible (cc) }

-- the third of four clauses
third : (a b d : Bool) → (a || (b || (true || d))) ≡ true
third true b d = refl
third false true d = refl
third false false d = refl

woken : (b : Bool) → is_wake_up (cond b None Agn) ≡ not b
woken true = refl
woken false = refl

none_or_agn : (b : Bool) → cond b None Agn ≡ cond (not b) Agn None
none_or_agn true = refl
none_or_agn false = refl

five_or_fewer : (k n : ℕ) → Counts k n → not (ltb k most_exchanges) ≡ leb most_exchanges n
five_or_fewer k n c = go (dec_lt k most_exchanges)
  where
    go : Dec (k < most_exchanges) → not (ltb k most_exchanges) ≡ leb most_exchanges n
    go (yes p) = rw (lt-ltb k most_exchanges p) (sym (lt-leb most_exchanges n (omega (arith, c.few p))))
    go (no q) = rw (le-ltb k most_exchanges (omega arith)) (sym (le-leb most_exchanges n (c.many (omega arith))))

not-awake : (last : Last) (w : WakeUps) (s : List ℕ) → last_enq_trf last ≡ false → awake last w s ≡ false
unfolding awake
not-awake last w s e = rw e

-- an ENQ or TRF right after an ENQ or TRF e
after_enq_trf : (last : Last) (w : WakeUps) (s : List ℕ) (e : Entry) (n : ℕ) → last_enq_trf last ≡ true → w.station ≡ e.station
    → (s ≡ w.station → Counts w.successes.0 n) → not (awake last w s) ≡ (not (same s e.station) || leb most_exchanges n)
unfolding awake
after_enq_trf last w s e n l st c = rw (l, st) (go (same s e.station) refl)
  where
    go : (b : Bool) → same s e.station ≡ b → not (b && ltb w.successes.0 most_exchanges) ≡ (not b || leb most_exchanges n)
    go true p = five_or_fewer w.successes.0 n (c (same_equal s e.station p ∙ sym st))
    go false p = refl

module _ (last : Last) (w : WakeUps) where
  awake-due : (past : List Entry) (s : List ℕ) → Follows last w past
      → not (awake last w s) ≡ (first (enqs_and_trfs past) || (elsewhere (enqs_and_trfs past) s || (after_other past || leb most_exchanges (successes (since_wake_up past) s))))
  unfolding first enqs_and_trfs elsewhere after_other
  awake-due [] s f = rw (not-awake last w s f.sort)
  awake-due (e ∷ past) s f = go (enq_or_trf e.request) refl
    where
      go : (b : Bool) → enq_or_trf e.request ≡ b
          → not (awake last w s) ≡ (first (cond b (e ∷ enqs_and_trfs past) (enqs_and_trfs past)) || (elsewhere (cond b (e ∷ enqs_and_trfs past) (enqs_and_trfs past)) s || (not b || leb most_exchanges (successes (since_wake_up (e ∷ past)) s))))
      go true p =
          let c = f.count p in
          after_enq_trf last w s e (successes (since_wake_up (e ∷ past)) s) (f.sort ∙ p) (f.station p) (λ q. rw (← q) at c)
      go false p =
          rw (not-awake last w s (f.sort ∙ p))
          (sym (third (first (enqs_and_trfs past)) (elsewhere (enqs_and_trfs past) s) (leb most_exchanges (successes (since_wake_up (e ∷ past)) s))))

  -- the memory gives the wake-up that is due
  pub wakes_when_due : (past : List Entry) (r : Request) (s : List ℕ) → Follows last w past → wake_before last w r s ≡ due past r s
  unfolding wake_before due
  wakes_when_due past r s f = go (enq_or_trf r)
    where
      go : (b : Bool) → cond (b && awake last w s) None Agn ≡ cond b (cond (first (enqs_and_trfs past) || (elsewhere (enqs_and_trfs past) s || (after_other past || leb most_exchanges (successes (since_wake_up past) s)))) Agn None) Agn
      go true = none_or_agn (awake last w s) ∙ ap (λ b. cond b Agn None) (awake-due past s f)
      go false = refl

  -- the count after an ENQ or TRF to the station s
  calling_counts : (past : List Entry) (s : List ℕ) → Follows last w past
      → Counts (cond (awake last w s) w.successes (exchanges 0)).0 (successes (cond (not (awake last w s)) [] (since_wake_up past)) s)
  unfolding awake successes
  calling_counts past s f = go (last_enq_trf last) (same s w.station) (ltb w.successes.0 most_exchanges) refl refl
    where
      go : (a b c : Bool) → last_enq_trf last ≡ a → same s w.station ≡ b
          → Counts (cond (a && (b && c)) w.successes (exchanges 0)).0 (successes (cond (not (a && (b && c))) [] (since_wake_up past)) s)
      go true true true p q =
          let c = f.count (sym f.sort ∙ p) in
          rw (same_equal s w.station q) c
      go true true false p q = record { few = λ h. refl; many = λ h. omega arith }
      go true false c p q = record { few = λ h. refl; many = λ h. omega arith }
      go false b c p q = record { few = λ h. refl; many = λ h. omega arith }

not-counted : (e : Entry) (s : List ℕ) → succeeds e.ending ≡ false → counted e s ≡ false
unfolding counted
not-counted e s z = go (enq_or_trf e.request) (same s e.station)
  where
    go : (a b : Bool) → (a && (b && succeeds e.ending)) ≡ false
    go true true = z
    go true false = refl
    go false b = refl

sort_after : (r : Request) → last_enq_trf (last_after r) ≡ enq_or_trf r
sort_after r = go (enq_or_trf r)
  where
    go : (b : Bool) → last_enq_trf (cond b EnqTrf Other) ≡ b
    go true = refl
    go false = refl

-- a request is sent with the wake-up that the memory gives
pub asked_follows : (last : Last) (w : WakeUps) (past : List Entry) (r : Request) (s : List ℕ) → Follows last w past
    → Follows (last_after r) (asked last w r s) (sent r s (wake_before last w r s) ∷ past)
unfolding asked since_wake_up successes wake_before
asked_follows last w past r s f = go (enq_or_trf r) refl
  where
    go : (b : Bool) → enq_or_trf r ≡ b → Follows (last_after r) (cond b (calling last w s) (otherwise w)) (sent r s (wake_before last w r s) ∷ past)
    go true p =
        record {
          sort = sort_after r;
          station = λ e. refl;
          count = λ e. rw (not-counted (sent r s (wake_before last w r s)) s refl, p, woken (awake last w s)) (calling_counts last w past s f);
        }
    go false p = record { sort = sort_after r; station = λ e. impossible (cc); count = λ e. impossible (cc) }

-- one success more, below five and from there on
one_more : (k n : ℕ) → Counts k n → ltb k most_exchanges ≡ true → Counts (k + 1) (suc n)
one_more k n c q =
    let e = c.few (ltb-true k most_exchanges q) in
    record { few = λ h. omega arith; many = λ h. omega arith }

no_more : (k n : ℕ) → Counts k n → ltb k most_exchanges ≡ false → Counts k (suc n)
no_more k n c q =
    let h = c.many (ltb-false k most_exchanges q) in
    record { few = λ l. omega (arith, ltb-false k most_exchanges q); many = λ l. omega arith }

is_counted : (e : Entry) → enq_or_trf e.request ≡ true → counted (ended_as well e) e.station ≡ true
unfolding counted
is_counted e p = rw (p, same_self e.station)

-- the latest request ends
module _ (last : Last) (w : WakeUps) (e : Entry) (past : List Entry) (open_yet : e.ending ≡ running) (f : Follows last w (e ∷ past)) where
  counts : enq_or_trf e.request ≡ true → Counts w.successes.0 (successes (cond (is_wake_up e.wake) [] (since_wake_up past)) e.station)
  unfolding since_wake_up successes
  counts h =
      let c = f.count h in
      rw (f.station h, not-counted e e.station (ap succeeds open_yet)) at c

  pub succeeded_follows : Follows last (succeeded last w) (ended_as well e ∷ past)
  unfolding succeeded since_wake_up successes
  succeeded_follows = go (last_enq_trf last) (ltb w.successes.0 most_exchanges) refl refl
    where
      go : (a b : Bool) → last_enq_trf last ≡ a → ltb w.successes.0 most_exchanges ≡ b → Follows last (cond (a && b) (with_successes (w.successes.0 + 1) w) w) (ended_as well e ∷ past)
      go true true p q =
          record { sort = f.sort; station = f.station; count = λ h. rw (f.station h, is_counted e h) (one_more _ _ (counts h) q) }
      go true false p q =
          record { sort = f.sort; station = f.station; count = λ h. rw (f.station h, is_counted e h) (no_more _ _ (counts h) q) }
      go false b p q = record { sort = f.sort; station = f.station; count = λ h. impossible (cc f.sort) }

  -- "a failed one isn't counted"
  pub failed_follows : (n : ℕ) → Follows last w (ended_as (with_number n) e ∷ past)
  unfolding since_wake_up successes
  failed_follows n =
      record {
        sort = f.sort;
        station = f.station;
        count = λ h. rw (f.station h, not-counted (ended_as (with_number n) e) e.station refl) (counts h);
      }
