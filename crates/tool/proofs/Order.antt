-- The order of a request's numbers (01, The tool; 02, E5): 17, 12, 16, 6, 21, 7. Each comes whatever those behind it would say.
use Prim.Native.Nat.{ℕ, ◌<◌, ◌≤◌}
use mathlib.Core.Path.{◌≡◌}
use mathlib.Core.Bool.{true, false}
use lib.ListN.{length}
use borrow.Author.Tests.{le-leb, lt-leb}
use Rattle.des.specs.WeakKeys.{weak}
use Rattle.numbers.specs.Table.{wrong_address, too_long, broken_rule, busy, wrong_length, weak_key}
use Rattle.wake.specs.declared.Request.TheVariants.{Rec}
use Rattle.tool.specs.declared.Tool.{Tool}
use Rattle.tool.specs.Parts.{idle, refusing}
use Rattle.tool.specs.Soundness.{sound}
use Rattle.tool.specs.Requests.{Asking, addressable, weakly_keyed, limit_of, lent_rightly, admission, sending, unless_refused, after_asking}

module _ (t : Tool) (q : Asking) (buffer_length : ℕ) where
  pub lengths_first : lent_rightly q.ads q.key q.na1 buffer_length ≡ false → after_asking t q buffer_length ≡ refusing t wrong_length
  unfolding after_asking
  lengths_first e = rw e

  module _ (lent : lent_rightly q.ads q.key q.na1 buffer_length ≡ true) where
    pub then_soundness : sound t ≡ false → after_asking t q buffer_length ≡ refusing t broken_rule
    unfolding after_asking admission unless_refused
    then_soundness e = rw (lent, e)

    module _ (s : sound t ≡ true) where
      pub then_busy : idle t.phase ≡ false → after_asking t q buffer_length ≡ refusing t busy
      unfolding after_asking admission unless_refused
      then_busy e = rw (lent, s, e)

      module _ (i : idle t.phase ≡ true) where
        pub then_address : addressable q.request q.ads ≡ false → after_asking t q buffer_length ≡ refusing t wrong_address
        unfolding after_asking admission unless_refused
        then_address e = rw (lent, s, i, e)

        module _ (a : addressable q.request q.ads ≡ true) where
          -- 21 "in the tool after 6 and before 7"
          pub then_key : q.request ≡ Rec → weak q.key ≡ true → after_asking t q buffer_length ≡ refusing t weak_key
          unfolding after_asking admission unless_refused
          then_key r w = rw (lent, s, i, a, r, w)

          module _ (k : weakly_keyed q.request q.key ≡ false) where
            pub then_data : limit_of q.request < length q.content → after_asking t q buffer_length ≡ refusing t too_long
            unfolding after_asking admission unless_refused
            then_data h = rw (lent, s, i, a, k, lt-leb (length q.content) (limit_of q.request) h)

            pub then_sent : length q.content ≤ limit_of q.request → after_asking t q buffer_length ≡ sending q t
            unfolding after_asking admission unless_refused
            then_sent h = rw (lent, s, i, a, k, le-leb (length q.content) (limit_of q.request) h)
