-- Each way out of `write`, against the definition.
use Prim.Native.Nat.{ℕ, ◌≤◌, ◌<◌}
use mathlib.Core.Path.{◌≡◌, refl, sym, ap, ◌∙◌}
use mathlib.Core.Bool.{Bool, true, false}
use mathlib.Core.List.{List}
use native.Mathlib.Omega.{arith}
use lib.ListN.{length}
use lib.Dec.{ltb}
use borrow.Author.Tests.{le-leb, lt-leb, ltb-true, ltb-false}
use Rattle.numbers.specs.declared.Octets.{Octets}
use Rattle.numbers.specs.Counts.{in_octets}
use Rattle.numbers.specs.Answer.{given, refused, refused_at}
use Rattle.octets.specs.Splice.{fronted}
use Rattle.numbers.specs.Table.{wrong_length}
use Rattle.swap.specs.declared.file.RecordCount.{RecordCount}
use Rattle.swap.specs.Record.{file_limit}
use Rattle.swap.specs.Reading.{verdict_of}
use Rattle.std.specs.Prelude.{Option, None, Some, Result, Ok, Err, ok_or}
use Rattle.swap.specs.declared.file.Fault.{Fault}
use Rattle.swap_write.specs.Heads.{file_of}
use Rattle.swap_write.specs.Writing.{writing, judged_writing, laid, size_of}

module _ (hs ds b : List ℕ) where
  pub writing-refused : (n : ℕ) (o : Octets) → refused_at n o ≡ verdict_of (file_of hs ds) → record { answer = refused_at n o; buffer = b } ≡ writing hs ds b
  unfolding writing judged_writing
  writing-refused n o e = rw (← e)

  module _ (c : RecordCount) (e : given c ≡ verdict_of (file_of hs ds)) where
    pub writing_short : length b < length (file_of hs ds) → record { answer = refused wrong_length; buffer = b } ≡ writing hs ds b
    unfolding writing judged_writing laid
    writing_short h = rw (← e, lt-leb (length (file_of hs ds)) (length b) h)

    pub writing_whole : length (file_of hs ds) ≤ length b → record { answer = given (in_octets (length (file_of hs ds))); buffer = fronted (file_of hs ds) b } ≡ writing hs ds b
    unfolding writing judged_writing laid
    writing_whole h = rw (← e, le-leb (length (file_of hs ds)) (length b) h)

-- what the size of a file says
pub size_long : (s : List ℕ) → size_of s ≡ None → file_limit < length s
unfolding size_of
size_long s e = go (ltb file_limit (length s)) refl
  where
    go : (b : Bool) → ltb file_limit (length s) ≡ b → file_limit < length s
    go true h = ltb-true file_limit (length s) h
    go false h = let r = rw h at e in let z : ◌≡◌ {A = ℕ} 0 1 = cc in let y : ⊥ = omega arith in absurd y

pub size_within : (s : List ℕ) (l : Octets) → size_of s ≡ Some l → (length s ≤ file_limit) × (l ≡ in_octets (length s))
unfolding size_of
size_within s l e = go (ltb file_limit (length s)) refl
  where
    go : (b : Bool) → ltb file_limit (length s) ≡ b → (length s ≤ file_limit) × (l ≡ in_octets (length s))
    go true h = let r = rw h at e in let z : ◌≡◌ {A = ℕ} 0 1 = cc in let y : ⊥ = omega arith in absurd y
    go false h = let r : Some (in_octets (length s)) ≡ Some l = rw h at e in let q : in_octets (length s) ≡ l = cc in (ltb-false file_limit (length s) h, sym q)

-- and what it says as an answer, with a fault in the place of none
module _ (s : List ℕ) (size : Option Octets) (fault : Fault) (r : Result Octets Fault) (sized : size ≡ size_of s) (answered : r ≡ ok_or size fault) where
  pub sized_long : (e : Fault) → r ≡ Err e → (file_limit < length s) × (e ≡ fault)
  sized_long e i = go size sized (sym answered ∙ i)
    where
      go : (o : Option Octets) → o ≡ size_of s → ok_or o fault ≡ Err e → (file_limit < length s) × (e ≡ fault)
      go None n x = (size_long s (sym n), cc)
      go (Some l) n x = let z : ⊥ = cc in absurd z

  pub sized_within : (l : Octets) → r ≡ Ok l → (length s ≤ file_limit) × (l ≡ in_octets (length s))
  sized_within l i = go size sized (sym answered ∙ i)
    where
      go : (o : Option Octets) → o ≡ size_of s → ok_or o fault ≡ Ok l → (length s ≤ file_limit) × (l ≡ in_octets (length s))
      go None n x = let z : ⊥ = cc in absurd z
      go (Some k) n x = let q : k ≡ l = cc in size_within s l (sym n ∙ ap Some q)
