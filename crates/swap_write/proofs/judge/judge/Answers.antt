-- `judge`: a count over the limit is bad at the start; else the heads decide.
use Prim.Native.Nat.{◌/◌}
use mathlib.Core.Path.{◌∙◌}
use lib.ListN.{length, length-append}
use Rattle.number.specs.Groups.{encoded}
use Rattle.swap_write.specs.Heads.{body_of, file_of}
use Rattle.swap_write.proofs.Judged.{file_many, file_records}
use native.Mathlib.Omega.{arith}
use Rattle.swap_write.proofs.judge.judge.Goals as goal

pub returns-then-count-gt-COUNT_LIMIT : goal.returns-then-count-gt-COUNT_LIMIT
returns-then-count-gt-COUNT_LIMIT c = let a = c.args in
    file_many a.heads.now a.contents.now c.requires c.if-count-gt-COUNT_LIMIT.true

pub judge_heads-requires : goal.judge_heads-requires
unfolding file_of
judge_heads-requires c = let a = c.args in
    let hs = a.heads.now in
    let n = length hs / 10 in
    (omega arith, omega (arith, length-append (encoded n) (body_of n hs a.contents.now), c.requires))

pub returns : goal.returns
returns c = let a = c.args in
    c.judge_heads.ensures ∙ file_records a.heads.now a.contents.now c.requires c.if-count-gt-COUNT_LIMIT.false
