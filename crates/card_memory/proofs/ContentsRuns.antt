-- The contents of records, one record after the other.
use Prim.Native.Nat.{ℕ, ◌+◌, ◌≤◌, ◌<◌}
use mathlib.Core.Path.{◌≡◌}
use mathlib.Core.List.{List}
use native.Mathlib.Numerals.{add-one}
use lib.ListN.{length, drop, get_or, drop_of_length-le}
use lib.Seq.{drop-cons}
use Rattle.octets.specs.Splice.{spliced}
use Rattle.records.specs.declared.Record.{Record}
use Rattle.records.specs.Finding.{blank}
use Rattle.receiver_memory.specs.Puts.{put_all}
use Rattle.card_memory.specs.Layout.{length_at, record_size}
use Rattle.card_memory.specs.Encoding.{contents_image, contents_puts}

module _ (at i : ℕ) (each : List Record) (m : List ℕ) where
  pub contents_next : i < length each
      → put_all (contents_puts (at + record_size) (drop (i + 1) each)) (spliced m (at + length_at) (contents_image (get_or each i blank))) ≡ put_all (contents_puts at (drop i each)) m
  unfolding contents_puts put_all
  contents_next h = rw (add-one, drop-cons each i blank h)

  pub contents_end : length each ≤ i → put_all (contents_puts at (drop i each)) m ≡ m
  unfolding contents_puts put_all
  contents_end h = rw (drop_of_length-le each {i = i} h)
