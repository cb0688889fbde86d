-- `lay_record`: three writes, one after the other, make up the record's octets.
use Prim.Native.Nat.{ℕ, ◌+◌, ◌<◌}
use mathlib.Core.Path.{◌≡◌, ap, ap₂, ◌∙◌}
use mathlib.Core.List.{List}
use lib.ListN.{length, get_or}
use Rattle.octets.specs.Splice.{spliced}
use Rattle.numbers.specs.Counts.{in_octets}
use Rattle.number.specs.Groups.{encoded, with_number_at}
use Rattle.swap_write.specs.Heads.{head_length}
use Rattle.swap_write.proofs.Judged.{length_small}
use Rattle.swap_write.proofs.Laid.{record_laid}
use native.Mathlib.Omega.{arith}
use Rattle.swap_write.proofs.lay.lay_record.Goals as goal

pub overflow_cast-length : goal.overflow_cast-length
overflow_cast-length c =
    let octets : (i : ℕ) → get_or c.args.heads.now i 0 < 256 = λ i. (c.type_inv.heads i).fits in
    omega (arith, c.head_length-length.ensures, length_small c.args.heads.now octets)

pub returns : goal.returns
returns c = let a = c.args in
    let n : c.head_length-length.result.0 ≡ head_length a.heads.now = c.head_length-length.ensures in
    let f : a.at + 8 + c.width_of.result ≡ a.at + 8 + length (encoded (head_length a.heads.now)) = ap (λ (i : ℕ). a.at + 8 + i) (c.width_of.ensures ∙ ap (λ (i : ℕ). length (encoded i)) n) in
    c.put-2.ensures
    ∙ ap (λ (l : List ℕ). spliced l (a.at + 8 + c.width_of.result) a.content.now) (c.write.ensures.1 ∙ ap₂ (λ (l : List ℕ) (i : ℕ). with_number_at l (in_octets (a.at + 8)) i) c.put.ensures n)
    ∙ record_laid a.buffer.now a.heads.now a.content.now a.at _ c.requires.0 f (omega (arith, f, c.requires.1))
