-- Why a good frame is answered as it is: a rule for each sentence of 01, The tool, on replies. One applies to every frame, and no two give two answers.
use Rattle.std.specs.Prelude.{ℕ, ◌≡◌, true, false, List, [], ◌∷◌, take}
use Rattle.des.specs.Des.{encipher}
use Rattle.numbers.specs.declared.Octets.{Octets}
use Rattle.frame.specs.declared.codes.Command.{Command}
use Rattle.frame.specs.declared.codes.Command.TheVariants.{Dat, Ech, Eos, Drj, Arj, Tra}
use Rattle.frame.specs.declared.content.Fields.{Fields}
use Rattle.frame.specs.Content.{fields_of, data_of}
use Rattle.receiver.specs.Receiving.{silent_outcome, dropped_outcome, complete_outcome, on_octet}
use Rattle.receiver.specs.Receiver.{reception_of}
use Rattle.tool.specs.declared.Phase.{Phase}
use Rattle.tool.specs.declared.Phase.TheVariants.{Idle, Reading, Transferring, Programming, Authenticating}
use Rattle.tool.specs.declared.Tool.{Tool}
use Rattle.tool.specs.Parts.{idle, Response, silent, refusing, over, finished}
use Rattle.tool.specs.Replies.{authenticating}
use Rattle.tool.specs.Events.{after_step}
use Rattle.tool.specs.Leaving.{unmade}

-- from that station for that ADP
pub record From (t : Tool) (f : Fields) : Type 0 where
  pub station : f.ads ≡ t.ads
  pub primary : f.adp ≡ t.adp

-- ECH, whose ZA1 is NA1 enciphered, and whose TAB and DATA are those sent
pub record Echo (t : Tool) (c : Command) (f : Fields) (d : List ℕ) : Type 0 where
  pub command : c ≡ Ech
  pub tab : ℕ
  pub count : Octets
  pub phase : t.phase ≡ Programming tab count
  pub cipher : f.za1 ≡ encipher t.key t.na1
  pub same_tab : f.tab ≡ tab
  pub same_data : d ≡ take count.0 t.sent

-- the replies that 01 names: after ENQ, TRF, REC and AUT
abbrev pub replies_to : Phase → List Command
replies_to (Idle last) = []
replies_to (Reading tab) = Dat ∷ Drj ∷ []
replies_to Transferring = Tra ∷ Drj ∷ []
replies_to (Programming tab n) = Ech ∷ []
replies_to Authenticating = Eos ∷ Arj ∷ Drj ∷ []

abbrev pub NoneOf : Command → List Command → Type 0
NoneOf c [] = Unit {0}
NoneOf c (k ∷ ks) = (c ≡ k → ⊥) × NoneOf c ks

-- The response r to a good frame from that station for that ADP, with the command c, the fields f and the DATA d.
pub data Verdict (t : Tool) (c : Command) (f : Fields) (d : List ℕ) (r : Response) : Type 0 where
  -- DAT, with the TAB asked for, TRA, and EOS after AUT end without a number; of these DAT alone hands over DATA
  read : (tab : ℕ) → t.phase ≡ Reading tab → c ≡ Dat → f.tab ≡ tab → r ≡ finished d t → Verdict t c f d r
  transferred : t.phase ≡ Transferring → c ≡ Tra → r ≡ finished [] t → Verdict t c f d r
  programmed : t.phase ≡ Authenticating → c ≡ Eos → r ≡ finished [] t → Verdict t c f d r
  -- "On ECH: ZA1 must equal DES(Ki, NA1) (13), then TAB and DATA must equal those sent (14); only then is AUT sent."
  forged : (tab : ℕ) (n : Octets) → t.phase ≡ Programming tab n → c ≡ Ech → (f.za1 ≡ encipher t.key t.na1 → ⊥) → r ≡ over t 13 → Verdict t c f d r
  altered : (tab : ℕ) (n : Octets) → t.phase ≡ Programming tab n → c ≡ Ech → f.za1 ≡ encipher t.key t.na1 → ((f.tab ≡ tab) × (d ≡ take n.0 t.sent) → ⊥)
      → r ≡ over t 14 → Verdict t c f d r
  echoed : Echo t c f d → r ≡ authenticating f.za2 t → Verdict t c f d r
  -- "After AUT, ARJ ends with 13"
  denied : t.phase ≡ Authenticating → c ≡ Arj → r ≡ over t 13 → Verdict t c f d r
  -- "after AUT or TRF, DRJ ends with 20, and so does the negative answer after ENQ"
  unprogrammed : t.phase ≡ Authenticating → c ≡ Drj → r ≡ over t 20 → Verdict t c f d r
  untransferred : t.phase ≡ Transferring → c ≡ Drj → r ≡ over t 20 → Verdict t c f d r
  unread : (tab : ℕ) → t.phase ≡ Reading tab → c ≡ Drj → r ≡ over t 20 → Verdict t c f d r
  -- "Where DAT carries a TAB, another than asked ends with 14."
  misread : (tab : ℕ) → t.phase ≡ Reading tab → c ≡ Dat → (f.tab ≡ tab → ⊥) → r ≡ over t 14 → Verdict t c f d r
  -- "An unexpected good frame from that station for that ADP ends with 19."
  unexpected : idle t.phase ≡ false → NoneOf c (replies_to t.phase) → r ≡ over t 19 → Verdict t c f d r

-- The same for every good frame. "frames with another ADS or ADP, are dropped and the wait goes on"; "with no request running, frames are dropped"
pub data Reason (t : Tool) (c : Command) (f : Fields) (d : List ℕ) (r : Response) : Type 0 where
  unasked : idle t.phase ≡ true → r ≡ silent t → Reason t c f d r
  elsewhere : (From t f → ⊥) → r ≡ silent t → Reason t c f d r
  answered : From t f → Verdict t c f d r → Reason t c f d r

-- The response r to the octet o: it is refused with 12 or 17; it completes no frame; it completes a bad one, which is dropped; or a good one.
pub data Hears (t : Tool) (o : ℕ) (r : Response) : Type 0 where
  unheard : (n : ℕ) → unmade n ≡ true → r ≡ refusing t n → Hears t o r
  partly : (on_octet o (reception_of t.receiver)).outcome ≡ silent_outcome → r ≡ silent (after_step (on_octet o (reception_of t.receiver)) t) → Hears t o r
  badly : (n : ℕ) → (on_octet o (reception_of t.receiver)).outcome ≡ dropped_outcome n → r ≡ refusing (after_step (on_octet o (reception_of t.receiver)) t) n → Hears t o r
  whole : (c : Command) (s : List ℕ) → (on_octet o (reception_of t.receiver)).outcome ≡ complete_outcome c s
      → Reason (after_step (on_octet o (reception_of t.receiver)) t) c (fields_of c s) (data_of c s) r → Hears t o r
