-- `computation` meets its contract: the steps follow one another.
-- Assumes nothing.
use mathlib.Core.Path.{ap, ◌∙◌}
use Rattle.des.specs.Tables.{inverse_ip}
use Rattle.des.specs.Des.{octets, permuted, rounds, exchanged, computation}
use Rattle.des.proofs.computation.Goals as goal

pub returns : goal.returns
unfolding computation
returns c = c.output.ensures
    ∙ ap (λ b. octets 8 (permuted inverse_ip (exchanged b))) (c.rounds.ensures.same ∙ ap (rounds _ 16) c.permuted_input-lr.ensures.same)
