-- AUT is sent only after an ECH with NA1 enciphered and with the TAB and DATA sent; over lists of calls these are those of the latest request.
use Prim.Native.Nat.{ℕ}
use mathlib.Core.Path.{◌≡◌, sym, ap, ◌∙◌}
use mathlib.Core.Bool.{true, false}
use mathlib.Core.List.{List, []}
use mathlib.Core.Logic.{◌⊎◌, inl, inr}
use Rattle.octets.proofs.Impossible.{impossible}
use Rattle.des.specs.Des.{encipher}
use Rattle.frame.specs.declared.codes.Command.{Command}
use Rattle.frame.specs.declared.codes.Command.TheVariants as codes
use Rattle.frame.specs.Content.{fields_of, data_of}
use Rattle.frame.specs.Building.{frame_octets}
use Rattle.receiver.specs.Receiving.{Reception, complete_outcome, on_octet}
use Rattle.receiver.specs.Receiver.{reception_of}
use Rattle.wake.specs.declared.Wake.TheVariants.{None}
use Rattle.tool.specs.declared.Tool.{Tool}
use Rattle.tool.specs.Parts.{fresh, Response}
use Rattle.tool.specs.Requests.{Asking, zero_number, fields_to}
use Rattle.tool.specs.Replies.{authentication}
use Rattle.tool.specs.Events.{Call, octet_call, after}
use Rattle.tool.specs.Log.{Log, fresh_log, left_after, log_after}
use Rattle.tool.specs.Reasons.{From, Echo}
use Rattle.tool.specs.Claims.{Authenticates}
use Rattle.tool.proofs.Courses.{is_event, Course, stays, asks, passes, drops, ends, fails, echoes, course}
use Rattle.tool.proofs.Logging.{programs, Agrees, fresh_agrees, calls_agree}

-- The octet completes an ECH from the station of the running request for its ADP, ZA1 = DES(Ki, NA1), TAB and DATA are those sent, and the frame sent
-- is AUT with zero in ZA1 and DES(Ki, ECH's ZA2) in ZA2.
pub record Echoed (t : Tool) (o : ℕ) (frame : List ℕ) : Type 0 where
  pub command : Command
  pub octets : List ℕ
  pub complete : (on_octet o (reception_of t.receiver)).outcome ≡ complete_outcome command octets
  pub answers : From t (fields_of command octets)
  pub echo : Echo t command (fields_of command octets) (data_of command octets)
  pub sends : frame ≡ frame_octets codes.Aut (authentication t (fields_of command octets).za2) []

frame_of : {r s : Response} → r ≡ s → r.frame ≡ s.frame
frame_of e = ap (λ (s : Response). s.frame) e

sends : (t : Tool) (o l : ℕ) (r : Response) → Course t (octet_call o l) r → (r.frame ≡ []) ⊎ Echoed t o r.frame
sends t o l r (stays n s e) = inl (frame_of e)
sends t o l r (asks q b z p a e) = impossible (cc)
sends t o l r (passes v e) = inl (frame_of e)
sends t o l r (drops v n f e) = inl (frame_of e)
sends t o l r (ends v i d e) = inl (frame_of e)
sends t o l r (fails v i n f e) = inl (frame_of e)
sends t o l r (echoes v c s u w h e) = inr (record { command = c; octets = s; complete = u; answers = w; echo = h; sends = frame_of e })

-- "only then is AUT sent", of every tool: an octet sends nothing, or it authenticates
pub aut_only_then : (t : Tool) (o l : ℕ) → ((after t (octet_call o l)).frame ≡ []) ⊎ Echoed t o (after t (octet_call o l)).frame
aut_only_then t o l = sends t o l (after t (octet_call o l)) (course t (octet_call o l))

-- a tool that keeps what a programming request asks for
module _ (t : Tool) (q : Asking) (key : t.key ≡ q.key) where
  same_cipher : t.na1 ≡ q.na1 → encipher t.key t.na1 ≡ encipher q.key q.na1
  same_cipher n = rw (key, n)

  same_aut : (na2 : List ℕ) → t.ads ≡ q.ads → t.adp ≡ q.adp
      → frame_octets codes.Aut (authentication t na2) [] ≡ frame_octets codes.Aut (fields_to q.ads q.adp 0 zero_number (encipher q.key na2)) []
  same_aut na2 a p = rw (key, a, p)

-- ECH heard by a tool that agrees with the log
module _ (t : Tool) (l : Log) (k : Agrees t l) (o : ℕ) (frame s : List ℕ) where
  tied : (on_octet o (reception_of t.receiver)).outcome ≡ complete_outcome codes.Ech s → From t (fields_of codes.Ech s) → Echo t codes.Ech (fields_of codes.Ech s) (data_of codes.Ech s)
      → frame ≡ frame_octets codes.Aut (authentication t (fields_of codes.Ech s).za2) [] → Authenticates l o frame
  tied u w h e =
      let p = programs t l.latest t.phase h.tab h.count h.phase k.marked in
      record {
        asking = p.0.asking;
        latest = p.0.last;
        programs = p.0.request;
        octets = s;
        complete = sym (ap (λ (g : Reception). (on_octet o g).outcome) k.reception) ∙ u;
        station = w.station ∙ p.0.station;
        primary = w.primary ∙ p.0.primary;
        cipher = h.cipher ∙ same_cipher t p.0.asking p.1.same_key p.1.same_na1;
        tab = h.same_tab ∙ p.1.same_tab;
        content = h.same_data ∙ p.1.same_content;
        sends = e ∙ same_aut t p.0.asking p.1.same_key (fields_of codes.Ech s).za2 p.0.station p.0.primary;
      }

tied_at : (t : Tool) (l : Log) (o : ℕ) (frame : List ℕ) → Agrees t l → Echoed t o frame → Authenticates l o frame
tied_at t l o frame k g = go g.command g.echo.command g.complete g.answers g.echo g.sends
  where
    go : (c : Command) → c ≡ codes.Ech → (on_octet o (reception_of t.receiver)).outcome ≡ complete_outcome c g.octets → From t (fields_of c g.octets)
        → Echo t c (fields_of c g.octets) (data_of c g.octets) → frame ≡ frame_octets codes.Aut (authentication t (fields_of c g.octets).za2) [] → Authenticates l o frame
    go c q u w h e = tied t l k o frame g.octets (rw q at u) (rw q at w) (rw q at h) (rw q at e)

-- For every list of calls on a fresh tool, refused ones included, an octet after it sends nothing, or AUT with the arguments of the latest request that was
-- accepted, after an ECH that the log's octets make and that echoes them.
pub aut_tied : (h : List Call) (o l : ℕ) → ((after (left_after fresh h) (octet_call o l)).frame ≡ []) ⊎ Authenticates (log_after fresh h fresh_log) o (after (left_after fresh h) (octet_call o l)).frame
aut_tied h o l = pick (aut_only_then (left_after fresh h) o l)
  where
    frame : List ℕ
    frame = (after (left_after fresh h) (octet_call o l)).frame

    pick : (frame ≡ []) ⊎ Echoed (left_after fresh h) o frame → (frame ≡ []) ⊎ Authenticates (log_after fresh h fresh_log) o frame
    pick (inl e) = inl e
    pick (inr g) = inr (tied_at (left_after fresh h) (log_after fresh h fresh_log) o frame (calls_agree h fresh fresh_log fresh_agrees) g)

-- octets, gaps and session ends give no wake-up
course_unwoken : (t : Tool) (x : Call) (r : Response) → is_event x ≡ true → Course t x r → r.wake ≡ None
course_unwoken t x r v (stays n s e) = ap (λ (s : Response). s.wake) e
course_unwoken t x r v (asks q b z p a e) = let f : false ≡ true = ap is_event (sym z) ∙ v in impossible (cc)
course_unwoken t x r v (passes w e) = ap (λ (s : Response). s.wake) e
course_unwoken t x r v (drops w n f e) = ap (λ (s : Response). s.wake) e
course_unwoken t x r v (ends w i d e) = ap (λ (s : Response). s.wake) e
course_unwoken t x r v (fails w i n f e) = ap (λ (s : Response). s.wake) e
course_unwoken t x r v (echoes w c s u m h e) = ap (λ (s : Response). s.wake) e

pub events_unwoken : (t : Tool) (x : Call) → is_event x ≡ true → (after t x).wake ≡ None
events_unwoken t x v = course_unwoken t x (after t x) v (course t x)
