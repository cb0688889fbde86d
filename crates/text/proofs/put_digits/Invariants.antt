-- `put_digits` meets its contract: after each turn the digits of the octets so far are laid.
use Rattle.text.proofs.Hexadecimal.{Laying}
use Rattle.text.proofs.put_digits.Given as goal

abbrev pub invariant-loop-octet : goal.invariant-loop-octet
invariant-loop-octet l = Laying l.initial.buffer l.initial.next l.octets l.buffer l.next l.octet-index
