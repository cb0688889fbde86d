-- What is claimed of the lists of calls on a fresh tool, in terms of the host's log. The claim on wake-ups is `Rightly` of its entries.
use Rattle.std.specs.Prelude.{ℕ, ◌≡◌, List, [], take}
use Rattle.std.proofs.Math.Option.{Option, some}
use Rattle.des.specs.Des.{encipher}
use Rattle.frame.specs.declared.codes.Command.TheVariants.{Ech, Aut}
use Rattle.frame.specs.Content.{fields_of, data_of}
use Rattle.frame.specs.Building.{frame_octets}
use Rattle.receiver.specs.Receiving.{complete_outcome, on_octet}
use Rattle.wake.specs.declared.Request.{Request}
use Rattle.wake.specs.declared.Request.TheVariants.{Enq, Trf, Rec}
use Rattle.tool.specs.declared.Phase.{Phase}
use Rattle.tool.specs.declared.Phase.TheVariants.{Idle, Reading, Transferring, Programming, Authenticating}
use Rattle.tool.specs.declared.Tool.{Tool}
use Rattle.tool.specs.Requests.{Asking, zero_number, fields_to}
use Rattle.tool.specs.Log.{Log}

-- the latest request that was accepted is such a one, to this station for this ADP
pub record Latest (r : Request) (ads : List ℕ) (adp : ℕ) (latest : Option Asking) : Type 0 where
  pub asking : Asking
  pub last : latest ≡ some asking
  pub request : asking.request ≡ r
  pub station : ads ≡ asking.ads
  pub primary : adp ≡ asking.adp

-- what is kept of a programming request is its own
pub record Keeps (q : Asking) (tab : ℕ) (key na1 content : List ℕ) : Type 0 where
  pub same_tab : tab ≡ q.tab
  pub same_key : key ≡ q.key
  pub same_na1 : na1 ≡ q.na1
  pub same_content : content ≡ q.content

-- The mark of the request: a reply to ENQ, TRF, REC or AUT is awaited exactly as the latest request that was accepted asks for it.
abbrev pub Marked : Tool → Option Asking → Phase → Type 0
Marked t latest (Idle last) = Unit {0}
Marked t latest (Reading tab) = (w : Latest Enq t.ads t.adp latest) × (tab ≡ w.asking.tab)
Marked t latest Transferring = Latest Trf t.ads t.adp latest
Marked t latest (Programming tab n) = (w : Latest Rec t.ads t.adp latest) × Keeps w.asking tab t.key t.na1 (take n.0 t.sent)
Marked t latest Authenticating = Latest Rec t.ads t.adp latest

-- 01, The tool, "On ECH: ..": the octet o sends this frame. The latest request that was accepted is a programming request; the octet completes an ECH from its
-- station for its ADP, whose ZA1 is the request's NA1 enciphered under its key, and whose TAB and DATA are its own; and the frame is AUT to that station for
-- that ADP, with zero in ZA1 and ECH's ZA2 enciphered under that key in ZA2.
pub record Authenticates (l : Log) (o : ℕ) (frame : List ℕ) : Type 0 where
  pub asking : Asking
  pub latest : l.latest ≡ some asking
  pub programs : asking.request ≡ Rec
  pub octets : List ℕ
  pub complete : (on_octet o l.reception).outcome ≡ complete_outcome Ech octets
  pub station : (fields_of Ech octets).ads ≡ asking.ads
  pub primary : (fields_of Ech octets).adp ≡ asking.adp
  pub cipher : (fields_of Ech octets).za1 ≡ encipher asking.key asking.na1
  pub tab : (fields_of Ech octets).tab ≡ asking.tab
  pub content : data_of Ech octets ≡ asking.content
  pub sends : frame ≡ frame_octets Aut (fields_to asking.ads asking.adp 0 zero_number (encipher asking.key (fields_of Ech octets).za2)) []
