-- Every good frame is answered for one of 01's reasons.
use Prim.Native.Nat.{ℕ}
use mathlib.Core.Path.{◌≡◌, refl, sym, ap, ◌∙◌}
use mathlib.Core.Bool.{Bool, true, false, cond, ◌&&◌, true≢false}
use mathlib.Core.List.{List, [], ◌∷◌}
use lib.Dec.{eqb}
use lib.ListN.{take}
use borrow.Author.Tests.{eqb-true, eq-eqb}
use Rattle.octets.specs.Part.{same}
use Rattle.octets.proofs.Impossible.{impossible}
use Rattle.octets.proofs.Same.{same_self, same_equal}
use Rattle.des.specs.Des.{encipher}
use Rattle.numbers.specs.Table.{wrong_cipher, wrong_echo, unexpected_frame}
use Rattle.numbers.specs.declared.Octets.{Octets}
use Rattle.frame.specs.declared.codes.Command.{Command}
use Rattle.frame.specs.declared.codes.Command.TheVariants as codes
use Rattle.frame.specs.declared.content.Fields.{Fields}
use Rattle.tool.specs.declared.Phase.{Phase}
use Rattle.tool.specs.declared.Phase.TheVariants.{Idle, Reading, Transferring, Programming, Authenticating}
use Rattle.tool.specs.declared.Tool.{Tool}
use Rattle.tool.specs.declared.replies.Reply.{Reply}
use Rattle.tool.specs.declared.replies.Reply.TheVariants.{Dat, Ech, Eos, Drj, Arj, Tra, Other}
use Rattle.tool.specs.Parts.{idle, silent}
use Rattle.tool.specs.Replies.{reply_of, Turn, fail, authenticate, on_reading, on_transferring, is_echo, on_authenticating, enciphers, echoes, on_echo, turn, performed, expected, on_frame}
use Rattle.tool.specs.Reasons.{From, replies_to, NoneOf, Verdict, read, transferred, programmed, forged, altered, echoed, denied, unprogrammed, untransferred, unread, misread, unexpected, Reason, unasked, elsewhere, answered}

-- the command of a reply that requests tell apart
abbrev pub Named : Reply → Command → Type 0
Named Dat c = c ≡ codes.Dat
Named Ech c = c ≡ codes.Ech
Named Eos c = c ≡ codes.Eos
Named Drj c = c ≡ codes.Drj
Named Arj c = c ≡ codes.Arj
Named Tra c = c ≡ codes.Tra
Named Other c = Unit {0}

pub named : (c : Command) → Named (reply_of c) c
named codes.Enq = tt
named codes.Dat = refl
named codes.Rec = tt
named codes.Ech = refl
named codes.Aut = tt
named codes.Eos = refl
named codes.Aso = tt
named codes.Rso = tt
named codes.Ib = tt
named codes.Drj = refl
named codes.Arj = refl
named codes.Trf = tt
named codes.Trb = tt
named codes.Tra = refl
named codes.Pre = tt
named codes.Sel = tt

-- none of these commands is such a reply
abbrev Apart : Reply → List Command → Type 0
Apart y [] = Unit {0}
Apart y (k ∷ ks) = (reply_of k ≡ y → ⊥) × Apart y ks

none_of : (c : Command) (ks : List Command) → Apart (reply_of c) ks → NoneOf c ks
none_of c [] a = tt
none_of c (k ∷ ks) a = (λ e. a.0 (sym (ap reply_of e)), none_of c ks a.1)

differs : {b : Bool} → b ≡ false → b ≡ true → ⊥
differs p q = true≢false (sym q ∙ p)

-- from that station, for that ADP
pub From-expected : (t : Tool) (f : Fields) → From t f → expected t f ≡ true
unfolding expected
From-expected t f w = rw (w.station, same_self t.ads, eq-eqb _ _ w.primary)

pub expected_from : (t : Tool) (f : Fields) → expected t f ≡ true → From t f
unfolding expected
expected_from t f = go (same f.ads t.ads) (eqb f.adp t.adp) refl refl
  where
    go : (a b : Bool) → same f.ads t.ads ≡ a → eqb f.adp t.adp ≡ b → (a && b) ≡ true → From t f
    go true true p q e = record { station = same_equal _ _ p; primary = eqb-true _ _ q }
    go true false p q e = impossible (cc)
    go false b p q e = impossible (cc)

module _ (t : Tool) (c : Command) (f : Fields) (d : List ℕ) where
  abbrev To : Turn → Type 0
  To y = Verdict t c f d (performed y f d t)

  surprise : (p : Phase) → t.phase ≡ p → idle p ≡ false → (y : Reply) → reply_of c ≡ y → Apart y (replies_to p) → To (fail unexpected_frame)
  unfolding performed
  surprise p e i y h a = unexpected (rw e i) (rw e (none_of c (replies_to p) (rw h a))) refl

  after_reading : (tab : ℕ) → t.phase ≡ Reading tab → (y : Reply) → reply_of c ≡ y → Named y c → To (on_reading y (eqb f.tab tab))
  unfolding performed
  after_reading tab p Dat h k = go (eqb f.tab tab) refl
    where
      go : (b : Bool) → eqb f.tab tab ≡ b → To (on_reading Dat b)
      go true e = read tab p k (eqb-true _ _ e) refl
      go false e = misread tab p k (λ q. differs e (eq-eqb _ _ q)) refl
  after_reading tab p Ech h k = surprise _ p refl Ech h (λ e. impossible (cc), (λ e. impossible (cc), tt))
  after_reading tab p Eos h k = surprise _ p refl Eos h (λ e. impossible (cc), (λ e. impossible (cc), tt))
  after_reading tab p Drj h k = unread tab p k refl
  after_reading tab p Arj h k = surprise _ p refl Arj h (λ e. impossible (cc), (λ e. impossible (cc), tt))
  after_reading tab p Tra h k = surprise _ p refl Tra h (λ e. impossible (cc), (λ e. impossible (cc), tt))
  after_reading tab p Other h k = surprise _ p refl Other h (λ e. impossible (cc), (λ e. impossible (cc), tt))

  after_transferring : t.phase ≡ Transferring → (y : Reply) → reply_of c ≡ y → Named y c → To (on_transferring y)
  unfolding performed
  after_transferring p Dat h k = surprise _ p refl Dat h (λ e. impossible (cc), (λ e. impossible (cc), tt))
  after_transferring p Ech h k = surprise _ p refl Ech h (λ e. impossible (cc), (λ e. impossible (cc), tt))
  after_transferring p Eos h k = surprise _ p refl Eos h (λ e. impossible (cc), (λ e. impossible (cc), tt))
  after_transferring p Drj h k = untransferred p k refl
  after_transferring p Arj h k = surprise _ p refl Arj h (λ e. impossible (cc), (λ e. impossible (cc), tt))
  after_transferring p Tra h k = transferred p k refl
  after_transferring p Other h k = surprise _ p refl Other h (λ e. impossible (cc), (λ e. impossible (cc), tt))

  after_authenticating : t.phase ≡ Authenticating → (y : Reply) → reply_of c ≡ y → Named y c → To (on_authenticating y)
  unfolding performed
  after_authenticating p Dat h k = surprise _ p refl Dat h (λ e. impossible (cc), (λ e. impossible (cc), (λ e. impossible (cc), tt)))
  after_authenticating p Ech h k = surprise _ p refl Ech h (λ e. impossible (cc), (λ e. impossible (cc), (λ e. impossible (cc), tt)))
  after_authenticating p Eos h k = programmed p k refl
  after_authenticating p Drj h k = unprogrammed p k refl
  after_authenticating p Arj h k = denied p k refl
  after_authenticating p Tra h k = surprise _ p refl Tra h (λ e. impossible (cc), (λ e. impossible (cc), (λ e. impossible (cc), tt)))
  after_authenticating p Other h k = surprise _ p refl Other h (λ e. impossible (cc), (λ e. impossible (cc), (λ e. impossible (cc), tt)))

  after_echo : (tab : ℕ) (n : Octets) → t.phase ≡ Programming tab n → c ≡ codes.Ech → To (on_echo t tab n.0 f d)
  unfolding on_echo enciphers echoes performed
  after_echo tab n p k = go (same f.za1 (encipher t.key t.na1)) (eqb f.tab tab) (same d (take n.0 t.sent)) refl refl refl
    where
      go : (a b e : Bool) → same f.za1 (encipher t.key t.na1) ≡ a → eqb f.tab tab ≡ b → same d (take n.0 t.sent) ≡ e
          → To (cond a (cond (b && e) authenticate (fail wrong_echo)) (fail wrong_cipher))
      go true true true ea eb ec =
          echoed (record { command = k; tab = tab; count = n; phase = p; cipher = same_equal _ _ ea; same_tab = eqb-true _ _ eb; same_data = same_equal _ _ ec }) refl
      go true true false ea eb ec = altered tab n p k (same_equal _ _ ea) (λ q. differs ec (rw q.1 (same_self (take n.0 t.sent)))) refl
      go true false e ea eb ec = altered tab n p k (same_equal _ _ ea) (λ q. differs eb (eq-eqb _ _ q.0)) refl
      go false b e ea eb ec = forged tab n p k (λ q. differs ea (rw q (same_self (encipher t.key t.na1)))) refl

  after_programming : (tab : ℕ) (n : Octets) → t.phase ≡ Programming tab n → (y : Reply) → reply_of c ≡ y → Named y c → To (cond (is_echo y) (on_echo t tab n.0 f d) (fail unexpected_frame))
  after_programming tab n p Dat h k = surprise _ p refl Dat h (λ e. impossible (cc), tt)
  after_programming tab n p Ech h k = after_echo tab n p k
  after_programming tab n p Eos h k = surprise _ p refl Eos h (λ e. impossible (cc), tt)
  after_programming tab n p Drj h k = surprise _ p refl Drj h (λ e. impossible (cc), tt)
  after_programming tab n p Arj h k = surprise _ p refl Arj h (λ e. impossible (cc), tt)
  after_programming tab n p Tra h k = surprise _ p refl Tra h (λ e. impossible (cc), tt)
  after_programming tab n p Other h k = surprise _ p refl Other h (λ e. impossible (cc), tt)

  turn_reason : From t f → (p : Phase) → t.phase ≡ p → Reason t c f d (performed (turn p t (reply_of c) f d) f d t)
  unfolding turn performed
  turn_reason w (Idle last) e = unasked (rw e) refl
  turn_reason w (Reading tab) e = answered w (after_reading tab e (reply_of c) refl (named c))
  turn_reason w Transferring e = answered w (after_transferring e (reply_of c) refl (named c))
  turn_reason w (Programming tab n) e = answered w (after_programming tab n e (reply_of c) refl (named c))
  turn_reason w Authenticating e = answered w (after_authenticating e (reply_of c) refl (named c))

  pub frame_reason : Reason t c f d (on_frame t c f d)
  unfolding on_frame
  frame_reason = go (expected t f) refl
    where
      go : (b : Bool) → expected t f ≡ b → Reason t c f d (cond b (performed (turn t.phase t (reply_of c) f d) f d t) (silent t))
      go true x = turn_reason (expected_from t f x) t.phase refl
      go false x = elsewhere (λ w. differs x (From-expected t f w)) refl
