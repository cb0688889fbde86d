-- Records that hold what a book has noted: as setup leaves them, and after a write that the book notes on the same terms.
use Prim.Native.Nat.{ℕ, zero, suc, ◌<◌}
use mathlib.Core.Bool.{Bool, true, false}
use mathlib.Core.List.{List, [], ◌∷◌}
use mathlib.Core.Path.{◌≡◌, refl, sym, ap, ◌∙◌}
use native.Mathlib.Omega.{arith}
use lib.Dec.{eqb}
use lib.ListN.{length, get_or}
use borrow.Author.Tests.{eq-eqb, ne_eqb, eqb-true, eqb-false}
use Rattle.numbers.specs.Table.{none}
use Rattle.numbers.specs.Answer.{Answer, given, refused, refused_at, number_of}
use Rattle.records.specs.declared.Cause.{Cause}
use Rattle.records.specs.declared.Record.{Record}
use Rattle.records.specs.declared.Records.{Records}
use Rattle.records.specs.Judging.{contents}
use Rattle.records.specs.Finding.{used, attributes_of, blank, record_at}
use Rattle.records.specs.Writing.{grant, write}
use Rattle.records.specs.Setup.{Rules, Sound}
use Rattle.records.proofs.InUse.{attributes_length, used-length, used_at}
use Rattle.records.proofs.Refusals.{Bounded, grant_bounded}
use Rattle.records.proofs.Soundness.{sound-length}
use Rattle.records.proofs.Writes.{holding_contents, write_attributes, write-refused, write_holds, write_others}
use Rattle.history.specs.Book.{last_noted, contents_of}
use Rattle.history.specs.Claim.{Holds, Arrays}

-- each record in use holds what is noted for its TAB
pub record AsNoted (s : Records) (noted : ℕ → List ℕ) : Type 0 where
  pub each : (i : ℕ) → i < length (used s) → Holds (noted (record_at s i).attributes.tab) (record_at s i)

-- the first contents of a record stand under its TAB where no other record has it
own_contents : (l : List Record) (i : ℕ) → i < length l → ((j : ℕ) → j < length l → (get_or l j blank).attributes.tab ≡ (get_or l i blank).attributes.tab → j ≡ i)
    → contents_of l (get_or l i blank).attributes.tab ≡ contents (get_or l i blank)
unfolding contents_of
own_contents [] i h apart = let z : ⊥ = omega arith in absurd z
own_contents (r ∷ l) zero h apart = rw (eq-eqb r.attributes.tab r.attributes.tab refl)
own_contents (r ∷ l) (suc i) h apart =
    rw (ne_eqb r.attributes.tab (get_or l i blank).attributes.tab (λ e. omega (arith, apart 0 (omega arith) e)))
    (own_contents l i (omega arith) (λ j p e. omega (arith, apart (suc j) (omega arith) e)))

pub first_noted : (s : Records) → Arrays s → Sound s → AsNoted s (contents_of (used s))
first_noted s arrays sound = record { each = λ i h. record { long = long i h; octets = sym (own i h) } }
  where
    own : (i : ℕ) → i < length (used s) → contents_of (used s) (record_at s i).attributes.tab ≡ contents (record_at s i)
    own i h =
        let at = used_at s i h in
        rw at at
        (own_contents (used s) i h
        (λ j p e. sound.rules.apart j i p h (ap (λ (r : Record). r.attributes.tab) (sym (used_at s j p)) ∙ e ∙ ap (λ (r : Record). r.attributes.tab) at)))

    long : (i : ℕ) → i < length (used s) → (record_at s i).length.0 ≡ length (contents_of (used s) (record_at s i).attributes.tab)
    long i h = rw (own i h) (sym (sound-length s sound i h (arrays.storage i (omega (arith, used-length s arrays.each)))))

module _ (s : Records) (rules : Rules s) (noted : ℕ → List ℕ) (h : AsNoted s noted) (cause : Cause) (t : ℕ) (d : List ℕ) where
  abbrev next : Records
  next = (write s cause t d).records

  was_used : (j : ℕ) → j < length (used next) → j < length (used s)
  was_used j p = omega (arith, attributes_length s, attributes_length next, ap length (write_attributes s cause t d))

  -- a granted write leaves the data in the record with the TAB, and the other records as they were
  stored : (write s cause t d).number ≡ none → (i j : ℕ) → j < length (used s) → (q : Bool) → eqb (record_at s j).attributes.tab t ≡ q → Holds (last_noted (given i) t d noted (record_at next j).attributes.tab) (record_at next j)
  stored granted i j p true e =
      rw (write_holds s cause t d rules j p (eqb-true _ _ e) granted, e)
      (record { long = refl; octets = holding_contents d (record_at s j) })
  stored granted i j p false e = rw (write_others s cause t d j (λ used same. eqb-false _ _ e same), e) (h.each j p)

  pub write_noted : AsNoted next (last_noted (grant (attributes_of s) cause t d) t d noted)
  write_noted = by (grant (attributes_of s) cause t d) refl (grant_bounded (attributes_of s) cause t d)
    where
      by : (g : Answer ℕ) → grant (attributes_of s) cause t d ≡ g → Bounded g → AsNoted next (last_noted g t d noted)
      by (given i) e k = record { each = λ j p. stored (ap (λ (g : Answer ℕ). number_of g) e) i j (was_used j p) (eqb (record_at s j).attributes.tab t) refl }
      by (refused n) e k =
          let number : (write s cause t d).number ≡ n = ap (λ (g : Answer ℕ). number_of g) e in
          rw (write-refused s cause t d (λ z. omega (arith, number, z))) h
      by (refused_at n offset) e k = absurd k
