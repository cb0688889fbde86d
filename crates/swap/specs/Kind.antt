-- An octet taken for a kind.
use Rattle.std.specs.Prelude.{ℕ, Result, Ok, Err, cond}
use Rattle.swap.specs.declared.kind.Kind.{Kind}
use Rattle.swap.specs.declared.kind.UnknownKind.{UnknownKind}
use Rattle.swap.specs.Record.{known_kind, kind_of}

-- 01, Swap file: the kind of a known octet (00, 01 or 02); any other stands for none
unfoldable pub kind_read : ℕ → Result Kind UnknownKind
kind_read octet = cond (known_kind octet) (Ok (kind_of octet)) (Err (record {}))
