-- A number between two bounds, as a test.
use Rattle.std.specs.Prelude.{ℕ, Bool, ◌&&◌, leb}

unfoldable pub between : ℕ → ℕ → ℕ → Bool
between least most n = leb least n && leb n most
