-- `read`: the groups passed and what is left to read make up what stood at the offset, and each way out ends it by its octet.
use Rattle.std.proofs.Common.{arith, ◌≡◌, sym, ◌∙◌, ap, ℕ, ◌+◌, ◌*◌, get_or, drop, false, ⊎_elim, Result, Ok, Err, Some}
use Rattle.std.proofs.lemmas.Bool.{false≢true}
use Rattle.std.specs.Result.{OkIff, is_ok, result_ok}
use Rattle.number.specs.Groups.{decoded, found}
use Rattle.number.proofs.Turns.{rest_is, started, past, goes_on, ends, longer, cut, too_many, scale_small, reads_none, reads_large, reads_number}
use Rattle.number.proofs.read.Goals.{After-try_from, else-octet-eq0-via-then-octet-eq0+else-groups-gt0, else-octet-eq0-via-else-octet-eq0}
use Rattle.number.proofs.read.Goals as goal

-- what `try_from` tells of a number that fits, and of one that does not
fits : {E : Type 0} (r : Result ℕ E) (P : Type 0) (v x : ℕ) → OkIff r P v → Some x ≡ result_ok r → P × (x ≡ v)
fits (Ok y) P v x h e = let same : x ≡ y = cc in (h.0, same ∙ h.1)
fits (Err d) P v x h e = absurd cc

over : {E : Type 0} (r : Result ℕ E) (P : Type 0) (v : ℕ) → OkIff r P v → false ≡ is_ok r → P → ⊥
over (Ok x) P v h e = absurd (false≢true e)
over (Err d) P v h e = h

-- a last octet that is no zero behind other groups
last_octet : (c : After-try_from) → decoded 5 (drop c.args.at.0 c.args.octets.now) ≡ found (c.loop-groups.value + c.from-octet.result * c.loop-groups.scale) (c.loop-groups.groups + 1)
last_octet c =
    let l = c.loop-groups in
    let from = c.in_ok-rest.ensures.lookup.0 in
    let there = c.in_ok-get.ensures.lookup.3 in
    let octet : get_or c.in_ok-rest.rest.now l.groups 0 ≡ c.from-octet.result = sym (c.from-octet.ensures ∙ there.1 0) in
    let alone : c.from-octet.result ≡ 0 → l.groups ≡ 0 = elim c.else-octet-eq0.branch [
      | else-octet-eq0-via-then-octet-eq0+else-groups-gt0 w ↦ λ _. omega (arith, w.if-groups-gt0.false)
      | else-octet-eq0-via-else-octet-eq0 w ↦ λ e. absurd (w.if-octet-eq0.false e)
    ] in
    ap (decoded 5) (rest_is _ _ c.args.at.0 from.0 from.2) ∙ rw (← octet) (ends l.invariant c.loop-groups-test.true there.0 (rw octet c.if-octet-lt128.true) (λ e. alone (sym octet ∙ e)))

pub returns-in_err-rest : goal.returns-in_err-rest
returns-in_err-rest c =
    let a = c.args in
    rw c.from_residual.ensures (sym (reads_none a.octets.now a.at.0 (past a.octets.now a.at.0 (⊎_elim (λ h. h) (λ h. omega (arith, h)) c.in_err-rest.ensures.lookup.0))))

pub loop-groups-init : goal.loop-groups-init
loop-groups-init c = started c.in_ok-rest.rest.now

pub returns-in_err-get : goal.returns-in_err-get
returns-in_err-get c =
    let from = c.in_ok-rest.ensures.lookup.0 in
    rw c.from_residual-in_err-get.ensures (sym (reads_none _ c.args.at.0 (ap (decoded 5) (rest_is _ _ c.args.at.0 from.0 from.2) ∙ cut c.loop-groups.invariant c.loop-groups-test.true c.in_err-get.ensures.lookup.3)))

pub returns-then-groups-gt0 : goal.returns-then-groups-gt0
returns-then-groups-gt0 c =
    let from = c.in_ok-rest.ensures.lookup.0 in
    let there = c.in_ok-get.ensures.lookup.3 in
    let zero : get_or c.in_ok-rest.rest.now c.loop-groups.groups 0 ≡ 0 = sym (c.from-octet.ensures ∙ there.1 0) ∙ c.if-octet-eq0.true in
    sym (reads_none _ c.args.at.0 (ap (decoded 5) (rest_is _ _ c.args.at.0 from.0 from.2) ∙ longer c.loop-groups.invariant c.loop-groups-test.true there.0 zero c.if-groups-gt0.true))

pub returns-in_err-ok : goal.returns-in_err-ok
returns-in_err-ok c =
    rw c.from_residual-in_err-ok.ensures (sym (reads_large c.args.octets.now c.args.at.0 _ _ (last_octet (goal.at.returns-in_err-ok c).After-try_from) (omega (arith, over _ _ _ c.try_from.ensures c.in_err-ok.ensures.variant))))

pub returns-then-octet-lt128 : goal.returns-then-octet-lt128
returns-then-octet-lt128 c =
    let told = fits _ _ _ _ c.try_from.ensures c.in_ok-ok.ensures.value in
    let place : c.args.at.0 + c.loop-groups.groups + 1 ≡ c.args.at.0 + (c.loop-groups.groups + 1) = omega arith in
    rw (told.1, place) (sym (reads_number c.args.octets.now c.args.at.0 _ _ (last_octet (goal.at.returns-then-octet-lt128 c).After-try_from) told.0))

pub overflow_mul-scale : goal.overflow_mul-scale
overflow_mul-scale c = omega (arith, scale_small c.loop-groups.invariant c.loop-groups-test.true)

pub loop-groups-preserved : goal.loop-groups-preserved
loop-groups-preserved c =
    let there = c.in_ok-get.ensures.lookup.3 in
    let octet : c.from-octet.result ≡ get_or c.in_ok-rest.rest.now c.loop-groups.groups 0 = c.from-octet.ensures ∙ there.1 0 in
    rw octet (goes_on c.loop-groups.invariant c.loop-groups-test.true there.0 (rw octet at c.if-octet-lt128.false))

pub returns : goal.returns
returns c =
    let from = c.in_ok-rest.ensures.lookup.0 in
    sym (reads_none _ c.args.at.0 (ap (decoded 5) (rest_is _ _ c.args.at.0 from.0 from.2) ∙ too_many _ _ _ _ c.loop-groups.invariant c.loop-groups-test.false))
