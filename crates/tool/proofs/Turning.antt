-- AUT is sent after the right ECH.
use Prim.Native.Nat.{ℕ}
use mathlib.Core.Path.{◌≡◌}
use mathlib.Core.Bool.{true, cond}
use mathlib.Core.List.{List}
use lib.ListN.{take}
use borrow.Author.Tests.{eq-eqb}
use Rattle.octets.proofs.Same.{same_self}
use Rattle.des.specs.Des.{encipher}
use Rattle.numbers.specs.declared.Octets.{Octets}
use Rattle.frame.specs.declared.codes.Command.TheVariants as codes
use Rattle.frame.specs.declared.content.Fields.{Fields}
use Rattle.tool.specs.declared.Phase.{Phase}
use Rattle.tool.specs.declared.Phase.TheVariants.{Programming}
use Rattle.tool.specs.declared.Tool.{Tool}
use Rattle.tool.specs.declared.replies.Reply.TheVariants.{Ech}
use Rattle.tool.specs.Parts.{silent}
use Rattle.tool.specs.Replies.{authenticate, enciphers, echoes, on_echo, turn, authenticating, performed, expected, on_frame}

-- an ECH with the cipher of NA1, the TAB and the DATA sent
pub right_echo : (t : Tool) (f : Fields) (d : List ℕ) (tab : ℕ) (n : Octets) → f.za1 ≡ encipher t.key t.na1 → f.tab ≡ tab → d ≡ take n.0 t.sent → on_echo t tab n.0 f d ≡ authenticate
unfolding on_echo enciphers echoes
right_echo t f d tab n c q s =
    rw (c, same_self (encipher t.key t.na1), eq-eqb f.tab tab q, s, same_self (take n.0 t.sent))

-- the right ECH from the station of the programming request that runs, for its ADP: AUT is sent
pub echo_authenticates : (t : Tool) (f : Fields) (d : List ℕ) (tab : ℕ) (n : Octets) → t.phase ≡ Programming tab n → expected t f ≡ true → f.za1 ≡ encipher t.key t.na1 → f.tab ≡ tab
    → d ≡ take n.0 t.sent → on_frame t codes.Ech f d ≡ authenticating f.za2 t
unfolding on_frame turn performed
echo_authenticates t f d tab n p x c q s = go t.phase p
  where
    go : (h : Phase) → h ≡ Programming tab n → cond (expected t f) (performed (turn h t Ech f d) f d t) (silent t) ≡ authenticating f.za2 t
    go h e = rw (x, e, right_echo t f d tab n c q s)
