-- `write`: at each turn the octets laid and the form of what is left make up the form of the number.
use Rattle.std.proofs.Common.{arith, ◌≡◌, length, ℕ, ◌+◌, ◌-◌, ◌<◌, ◌≤◌}
use Rattle.number.specs.Groups.{encoded}
use Rattle.number.proofs.Laying.{laid_none, laid_more, none_left, encoded_some, written_octets, written_next, short_answer, short_octets}
use Rattle.number.proofs.write.Goals.{then-octets-size-via-then-octets-size, then-octets-size-via-else-octets-size+then-octets-size-2}
use Rattle.number.proofs.write.Goals as goal

pub returns-then-octets-size : goal.returns-then-octets-size
returns-then-octets-size c =
    let a = c.args in
    let h : length a.octets.now < a.at.0 + length (encoded a.n) = elim c.then-octets-size.branch [
      | then-octets-size-via-then-octets-size w ↦ omega (arith, c.width-size.ensures, w.if-octets-size.true)
      | then-octets-size-via-else-octets-size+then-octets-size-2 w ↦ omega (arith, c.width-size.ensures, w.if-octets-size.false, w.if-octets-size-2.true)
    ] in
    (short_answer a.octets.now a.at.0 a.n h, short_octets a.octets.now a.at.0 a.n h)

pub overflow_sub-last : goal.overflow_sub-last
overflow_sub-last c = omega (arith, c.width-size.ensures, encoded_some c.args.n)

pub loop-next-init : goal.loop-next-init
loop-next-init c =
    let a = c.args in
    let none : a.at.0 - a.at.0 ≡ 0 = omega arith in
    rw none (laid_none a.octets.now a.at.0 a.n c.ranges.n.fits (omega (arith, c.width-size.ensures)))

pub loop-next-preserved : goal.loop-next-preserved
loop-next-preserved c =
    let at : ℕ = c.args.at.0 in
    let next : ℕ = c.loop-next.next in
    let place : at + (next - at) ≡ next = omega (arith, c.loop-next.auto.next) in
    let more : next + 1 - at ≡ next - at + 1 = omega (arith, c.loop-next.auto.next) in
    rw more (rw place at (laid_more _ at c.args.n _ c.loop-next.rest (next - at) c.loop-next.invariant (omega (arith, c.width-size.ensures, c.loop-next.auto.next))))

-- behind the loop the last place is left
last_left : (c : goal.After-loop-next) → (c.loop-next.next - c.args.at.0 + 1 ≡ length (encoded c.args.n)) × (c.args.at.0 + (c.loop-next.next - c.args.at.0) ≡ c.args.at.0 + c.width-size.result.0 - 1)
last_left c =
    let size = encoded_some c.args.n in
    let end : c.loop-next.next ≤ c.args.at.0 + c.width-size.result.0 - 1 = c.loop-next.auto.next-end (omega (arith, c.width-size.ensures, size)) in
    (omega (arith, c.width-size.ensures, size, end, c.loop-next.auto.next, c.loop-next-test.false), omega (arith, end, c.loop-next.auto.next, c.loop-next-test.false))

pub overflow_cast-octets-2 : goal.overflow_cast-octets-2
overflow_cast-octets-2 c = omega (arith, none_left c.loop-next.invariant (omega (arith, (last_left c).0)))

pub bounds-octets-last : goal.bounds-octets-last
bounds-octets-last c = omega (arith, c.loop-next.auto.octets, c.width-size.ensures, encoded_some c.args.n)

pub returns : goal.returns
returns c =
    let a = c.args in
    let left = last_left c in
    let end : a.at.0 + c.width-size.result.0 - 1 + 1 ≡ a.at.0 + length (encoded a.n) = omega (arith, c.width-size.ensures, encoded_some a.n) in
    (rw end (written_next a.octets.now a.at.0 a.n c.loop-next.octets c.loop-next.rest _ c.loop-next.invariant left.0), rw (← left.1) (written_octets a.octets.now a.at.0 a.n c.loop-next.octets c.loop-next.rest _ c.loop-next.invariant left.0))
