-- Encoding puts eleven runs of octets into the memory, one behind the other, over all of it.
use Prim.Native.Nat.{ℕ, ◌+◌, ◌≤◌, ◌<◌}
use mathlib.Core.Path.{◌≡◌, refl}
use mathlib.Core.List.{List, [], ◌∷◌, ◌++◌}
use native.Mathlib.Omega.{arith}
use lib.ListN.{length, get_or}
use Rattle.receiver_memory.specs.Fields.{field_at}
use Rattle.receiver_memory.specs.Puts.{Put, put, put_all}
use Rattle.receiver_memory.proofs.Fields.{get_or_field, length_field}
use Rattle.receiver_memory.proofs.Puts.{Held, Rising, Among, put_all-length, put_there}
use Rattle.receiver_memory.proofs.Receiver.{image-length}
use Rattle.tool.specs.declared.Tool.{Tool}
use Rattle.tool_memory.specs.Layout.{mark_at, size}
use Rattle.tool_memory.specs.Encoding.{mark_puts, request_puts, programming_puts, waking_puts, receiver_puts, encoded}
use Rattle.tool_memory.proofs.Shape.{Shaped}

abbrev pub tool_puts : Tool → List ℕ → List Put
tool_puts t m = mark_puts t m ++ (request_puts t ++ (programming_puts t ++ (waking_puts t ++ receiver_puts t)))

pub as_puts : (t : Tool) (m : List ℕ) → encoded t m ≡ put_all (tool_puts t m) m
unfolding encoded put_all
as_puts t m = refl

pub rising : (t : Tool) (m : List ℕ) → Shaped t → Rising mark_at (tool_puts t m) size
rising t m s =
    let r = image-length t.receiver s.octets in
    (omega arith, (omega arith, (omega arith, (omega arith, (omega (arith, s.ads), (omega arith, (omega (arith, s.key), (omega (arith, s.na1), (omega (arith, s.sent), (omega (arith, s.station), (omega arith, omega arith)))))))))))

pub encoded-length : (t : Tool) (m : List ℕ) → length (encoded t m) ≡ length m
encoded-length t m = rw (as_puts t m) (put_all-length (tool_puts t m) m)

-- an octet of a run stands where it was put
pub stands : (t : Tool) (m : List ℕ) → length m ≡ size → Shaped t → (p : Put) → Among p (tool_puts t m) → (k : ℕ) → k < length p.octets → get_or (encoded t m) (p.at + k) 0 ≡ get_or p.octets k 0
stands t m e s p x k h = rw (as_puts t m) (put_there (tool_puts t m) mark_at size m x (rising t m s) (omega arith) k h)

-- runs that the memory has already
pub octet_held : (m : List ℕ) (at v : ℕ) → v ≡ get_or m at 0 → Held m (put at (v ∷ []))
octet_held m at v e k h =
    let z : k ≡ 0 = omega arith in
    let a : at + 0 ≡ at = omega arith in
    rw (z, a) e

pub field_held : (n : ℕ) (m : List ℕ) (at : ℕ) → at + n ≤ length m → Held m (put at (field_at n m at))
field_held n m at b k h = get_or_field n m at b k (omega (arith, length_field n m at b))
