-- `Tool::accepted` tests the lengths (17), then the request.
use mathlib.Core.Path.{sym, ap, ◌∙◌}
use Rattle.tool.specs.Requests.{admission, sending, unless_refused, after_asking}
use Rattle.tool.proofs.Admission.{admits}
use Rattle.tool.proofs.Tool.accepted.Goals as goal

pub returns-clause-ok : goal.returns-clause-ok
unfolding after_asking unless_refused
returns-clause-ok c = let s = c.in_ok-arguments.ensures.ok in
    let pass = ap (admission c.args.self) (sym s.asking) ∙ sym c.in_ok-admission.ensures in
    record {
      content = (admits _ _ (sym c.in_ok-admission.ensures)).within;
      response = rw (s.lent, pass) (ap (λ q. sending q c.args.self) (sym s.asking));
    }
