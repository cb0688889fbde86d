-- `split_memory_call` reads the room, and then the call behind it.
use mathlib.Core.Path.{◌≡◌, sym, ap, ◌∙◌}
use native.Mathlib.Omega.{arith}
use lib.ListN.{drop}
use Rattle.history.specs.Encoding.{size_at}
use Rattle.history.proofs.Decoding.{behind}
use Rattle.memory_history.specs.Encoding.{room_at, memory_call_at}
use Rattle.memory_history.proofs.Decoding.{cut_memory_call, cut_memory_rest, whole_memory_rest}
use Rattle.memory_history.proofs.split_memory_call.Goals as goal

pub returns-in_default-clause-call : goal.returns-in_default-clause-call
returns-in_default-clause-call c = cut_memory_call c.args.history.now (omega arith) _ (c.from.ensures ∙ c.octet.ensures)

pub returns-in_default-clause-rest : goal.returns-in_default-clause-rest
returns-in_default-clause-rest c = sym (cut_memory_rest c.args.history.now (omega arith))

pub returns-clause-call : goal.returns-clause-call
unfolding memory_call_at
returns-clause-call c =
    let room : c.from-2.result ≡ room_at c.args.history.now = omega (arith, c.from-2.ensures, c.from_le_bytes.ensures) in
    rw (room, c.split_call.ensures.call, (behind 2 c.args.history.now).0)

pub returns-clause-rest : goal.returns-clause-rest
returns-clause-rest c =
    let h = c.args.history.now in
    c.split_call.ensures.rest ∙ ap (λ s. drop (size_at s) s) (behind 2 h).0 ∙ sym (whole_memory_rest h (omega arith))
