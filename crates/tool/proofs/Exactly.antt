-- The rules of replies give what the definition gives, wherever they apply: so each answer is given exactly where its rules say.
use Prim.Native.Nat.{ℕ}
use mathlib.Core.Path.{◌≡◌, refl, sym, ap, ◌∙◌}
use mathlib.Core.Bool.{Bool, true, false, cond, ◌&&◌}
use mathlib.Core.List.{List}
use lib.Dec.{eqb}
use lib.ListN.{take}
use borrow.Author.Tests.{eqb-true, eq-eqb, ne_eqb}
use Rattle.octets.specs.Part.{same}
use Rattle.octets.proofs.Impossible.{impossible}
use Rattle.octets.proofs.Same.{same_self, same_equal}
use Rattle.des.specs.Des.{encipher}
use Rattle.numbers.specs.Table.{wrong_cipher, wrong_echo}
use Rattle.numbers.specs.declared.Octets.{Octets}
use Rattle.frame.specs.declared.codes.Command.{Command}
use Rattle.frame.specs.declared.codes.Command.TheVariants as codes
use Rattle.frame.specs.declared.content.Fields.{Fields}
use Rattle.tool.specs.declared.Phase.{Phase}
use Rattle.tool.specs.declared.Phase.TheVariants.{Idle, Reading, Transferring, Programming, Authenticating}
use Rattle.tool.specs.declared.Tool.{Tool}
use Rattle.tool.specs.declared.replies.Reply.{Reply}
use Rattle.tool.specs.declared.replies.Reply.TheVariants.{Dat, Ech, Eos, Drj, Arj, Tra, Other}
use Rattle.tool.specs.Parts.{idle, Response, silent, over}
use Rattle.tool.specs.Replies.{reply_of, fail, authenticate, on_reading, enciphers, echoes, on_echo, turn, performed, expected, on_frame}
use Rattle.tool.specs.Reasons.{From, replies_to, NoneOf, Verdict, read, transferred, programmed, forged, altered, echoed, denied, unprogrammed, untransferred, unread, misread, unexpected, Reason, unasked, elsewhere, answered}
use Rattle.tool.proofs.Turning.{right_echo}
use Rattle.tool.proofs.Endings.{Named, named, From-expected, expected_from}

module _ (t : Tool) (c : Command) (f : Fields) (d : List ℕ) where
  turned : (p : Phase) (k : Command) → t.phase ≡ p → c ≡ k → From t f → on_frame t c f d ≡ performed (turn p t (reply_of k) f d) f d t
  unfolding on_frame
  turned p k e q w =
      ap (λ (b : Bool). cond b (performed (turn t.phase t (reply_of c) f d) f d t) (silent t)) (From-expected t f w)
      ∙ ap (λ (h : Phase). performed (turn h t (reply_of c) f d) f d t) e
      ∙ ap (λ (x : Command). performed (turn p t (reply_of x) f d) f d t) q

  Other-turn : (p : Phase) → idle p ≡ false → (y : Reply) → Named y c → NoneOf c (replies_to p) → performed (turn p t y f d) f d t ≡ over t 19
  unfolding turn performed
  Other-turn (Idle last) i y k n' = impossible (cc)
  Other-turn (Reading tab) i Dat k n' = absurd (n'.0 k)
  Other-turn (Reading tab) i Ech k n' = refl
  Other-turn (Reading tab) i Eos k n' = refl
  Other-turn (Reading tab) i Drj k n' = absurd (n'.1.0 k)
  Other-turn (Reading tab) i Arj k n' = refl
  Other-turn (Reading tab) i Tra k n' = refl
  Other-turn (Reading tab) i Other k n' = refl
  Other-turn Transferring i Dat k n' = refl
  Other-turn Transferring i Ech k n' = refl
  Other-turn Transferring i Eos k n' = refl
  Other-turn Transferring i Drj k n' = absurd (n'.1.0 k)
  Other-turn Transferring i Arj k n' = refl
  Other-turn Transferring i Tra k n' = absurd (n'.0 k)
  Other-turn Transferring i Other k n' = refl
  Other-turn (Programming tab n) i Dat k n' = refl
  Other-turn (Programming tab n) i Ech k n' = absurd (n'.0 k)
  Other-turn (Programming tab n) i Eos k n' = refl
  Other-turn (Programming tab n) i Drj k n' = refl
  Other-turn (Programming tab n) i Arj k n' = refl
  Other-turn (Programming tab n) i Tra k n' = refl
  Other-turn (Programming tab n) i Other k n' = refl
  Other-turn Authenticating i Dat k n' = refl
  Other-turn Authenticating i Ech k n' = refl
  Other-turn Authenticating i Eos k n' = absurd (n'.0 k)
  Other-turn Authenticating i Drj k n' = absurd (n'.1.1.0 k)
  Other-turn Authenticating i Arj k n' = absurd (n'.1.0 k)
  Other-turn Authenticating i Tra k n' = refl
  Other-turn Authenticating i Other k n' = refl

  wrong_cipher_lem : (tab : ℕ) (n : Octets) → (f.za1 ≡ encipher t.key t.na1 → ⊥) → on_echo t tab n.0 f d ≡ fail wrong_cipher
  unfolding on_echo enciphers
  wrong_cipher_lem tab n z = go (same f.za1 (encipher t.key t.na1)) refl
    where
      go : (a : Bool) → same f.za1 (encipher t.key t.na1) ≡ a → cond a (cond (echoes t tab n.0 f d) authenticate (fail wrong_echo)) (fail wrong_cipher) ≡ fail wrong_cipher
      go true e = absurd (z (same_equal _ _ e))
      go false e = refl

  wrong_echo_lem : (tab : ℕ) (n : Octets) → f.za1 ≡ encipher t.key t.na1 → ((f.tab ≡ tab) × (d ≡ take n.0 t.sent) → ⊥) → on_echo t tab n.0 f d ≡ fail wrong_echo
  unfolding on_echo enciphers echoes
  wrong_echo_lem tab n q z =
      ap (λ (a : Bool). cond a (cond (eqb f.tab tab && same d (take n.0 t.sent)) authenticate (fail wrong_echo)) (fail wrong_cipher)) enciphered
      ∙ go (eqb f.tab tab) (same d (take n.0 t.sent)) refl refl
    where
      enciphered : same f.za1 (encipher t.key t.na1) ≡ true
      enciphered = rw q (same_self (encipher t.key t.na1))

      go : (b e : Bool) → eqb f.tab tab ≡ b → same d (take n.0 t.sent) ≡ e → cond (b && e) authenticate (fail wrong_echo) ≡ fail wrong_echo
      go true true eb ec = absurd (z (eqb-true _ _ eb, same_equal _ _ ec))
      go true false eb ec = refl
      go false e eb ec = refl

  verdict_exactly : (r : Response) → From t f → Verdict t c f d r → r ≡ on_frame t c f d
  unfolding turn performed
  verdict_exactly r w (read tab p k q e) = e ∙ sym (turned (Reading tab) codes.Dat p k w ∙ ap (λ (b : Bool). performed (on_reading Dat b) f d t) (eq-eqb _ _ q))
  verdict_exactly r w (transferred p k e) = e ∙ sym (turned Transferring codes.Tra p k w)
  verdict_exactly r w (programmed p k e) = e ∙ sym (turned Authenticating codes.Eos p k w)
  verdict_exactly r w (forged tab n p k z e) = e ∙ sym (turned (Programming tab n) codes.Ech p k w ∙ ap (λ y. performed y f d t) (wrong_cipher_lem tab n z))
  verdict_exactly r w (altered tab n p k q z e) = e ∙ sym (turned (Programming tab n) codes.Ech p k w ∙ ap (λ y. performed y f d t) (wrong_echo_lem tab n q z))
  verdict_exactly r w (echoed h e) =
      e ∙ sym (turned (Programming h.tab h.count) codes.Ech h.phase h.command w ∙ ap (λ y. performed y f d t) (right_echo t f d h.tab h.count h.cipher h.same_tab h.same_data))
  verdict_exactly r w (denied p k e) = e ∙ sym (turned Authenticating codes.Arj p k w)
  verdict_exactly r w (unprogrammed p k e) = e ∙ sym (turned Authenticating codes.Drj p k w)
  verdict_exactly r w (untransferred p k e) = e ∙ sym (turned Transferring codes.Drj p k w)
  verdict_exactly r w (unread tab p k e) = e ∙ sym (turned (Reading tab) codes.Drj p k w)
  verdict_exactly r w (misread tab p k n e) = e ∙ sym (turned (Reading tab) codes.Dat p k w ∙ ap (λ (b : Bool). performed (on_reading Dat b) f d t) (ne_eqb _ _ n))
  verdict_exactly r w (unexpected i n e) = e ∙ sym (turned t.phase c refl refl w ∙ Other-turn t.phase i (reply_of c) (named c) n)

  dropped : (p : Phase) → t.phase ≡ p → idle p ≡ true → silent t ≡ on_frame t c f d
  unfolding on_frame turn performed
  dropped (Idle last) e i = sym (go (expected t f) t.phase e)
    where
      go : (b : Bool) (h : Phase) → h ≡ Idle last → cond b (performed (turn h t (reply_of c) f d) f d t) (silent t) ≡ silent t
      go true h z = rw z
      go false h z = refl
  dropped (Reading tab) e i = impossible (cc)
  dropped Transferring e i = impossible (cc)
  dropped (Programming tab n) e i = impossible (cc)
  dropped Authenticating e i = impossible (cc)

  -- a rule that applies gives the response
  pub reason_exactly : (r : Response) → Reason t c f d r → r ≡ on_frame t c f d
  unfolding on_frame
  reason_exactly r (unasked i e) = e ∙ dropped t.phase refl i
  reason_exactly r (elsewhere n e) = e ∙ go (expected t f) refl
    where
      go : (b : Bool) → expected t f ≡ b → silent t ≡ cond b (performed (turn t.phase t (reply_of c) f d) f d t) (silent t)
      go true x = absurd (n (expected_from t f x))
      go false x = refl
  reason_exactly r (answered w k) = verdict_exactly r w k
